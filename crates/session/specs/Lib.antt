pub mod Stepped
pub mod Gates
pub mod Table
