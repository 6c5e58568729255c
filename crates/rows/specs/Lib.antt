pub mod Row
pub mod Rows
pub mod Asked
