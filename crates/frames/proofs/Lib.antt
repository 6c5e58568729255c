pub mod Heads
pub mod Held
pub mod Zeros
pub mod Eats
pub mod Once
pub mod Determined
