pub mod Gates
pub mod Rows
pub mod Determined
