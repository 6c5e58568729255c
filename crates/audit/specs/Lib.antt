pub mod Run
pub mod Audit
