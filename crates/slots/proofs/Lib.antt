pub mod Found
pub mod Determined
pub mod Past
