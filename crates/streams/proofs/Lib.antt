pub mod Once
pub mod Heads
pub mod Streams
pub mod Rests
pub mod Some
pub mod Frames
