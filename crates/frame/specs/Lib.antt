pub mod Header
pub mod Frame
