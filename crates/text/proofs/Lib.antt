pub mod Judged
pub mod Turn
pub mod Determined
