pub mod Slots
pub mod States
pub mod Made
pub mod Determined
