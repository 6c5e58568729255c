pub mod State
pub mod Event
pub mod Feed
pub mod Asked
