pub mod Stream
pub mod Handed
