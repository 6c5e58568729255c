pub mod New
pub mod Phases
pub mod Determined
