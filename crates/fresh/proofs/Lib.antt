pub mod Pigeon
pub mod Fresh
pub mod Determined
