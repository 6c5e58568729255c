pub mod Digits
pub mod Numbered
pub mod Fields
pub mod Stored
pub mod Named
pub mod Short
pub mod Determined
