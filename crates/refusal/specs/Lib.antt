pub mod Number
pub mod Answer
pub mod Words
