pub mod Measured
pub mod Text
pub mod Asked
