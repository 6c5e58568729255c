pub mod Alike
pub mod Demand2
pub mod Vectors
