pub mod Tables
pub mod Trees
pub mod Walk
pub mod Determined
