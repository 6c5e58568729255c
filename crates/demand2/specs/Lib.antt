pub mod Alike
pub mod Calls
pub mod Back
pub mod Starred
