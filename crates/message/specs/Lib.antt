pub mod Send
pub mod Message
pub mod Written
pub mod Notice
