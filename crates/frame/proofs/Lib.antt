pub mod Laws
pub mod Runs
pub mod Judged
pub mod Determined
