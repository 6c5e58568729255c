pub mod Judged
pub mod OneItem
pub mod Leaned
pub mod Determined
