pub mod Fields
pub mod Words
pub mod Lines
pub mod Determined
