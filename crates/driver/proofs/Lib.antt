pub mod Determined
pub mod Fields
pub mod SomeInput
pub mod Walk
