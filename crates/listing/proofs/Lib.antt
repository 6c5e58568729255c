pub mod Short
pub mod Placed
pub mod Runs
pub mod Cutting
pub mod Example
pub mod Determined
