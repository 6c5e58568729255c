pub mod Walk
pub mod Along
pub mod Feeding
pub mod Demand3
pub mod Whole
pub mod States
pub mod Cutting
