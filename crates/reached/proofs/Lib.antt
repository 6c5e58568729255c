pub mod Kept
pub mod Changed
pub mod Rows
pub mod Reached
