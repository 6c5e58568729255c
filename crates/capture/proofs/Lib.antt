pub mod Texts
pub mod Answered
mod Settled
pub mod Determined
