pub mod Slots
pub mod States
