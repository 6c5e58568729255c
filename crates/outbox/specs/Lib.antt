pub mod Dropped
pub mod Outbox
