pub mod Fronts
pub mod Held
pub mod Once
pub mod Determined
