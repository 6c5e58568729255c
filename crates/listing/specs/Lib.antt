pub mod Listing
pub mod Piece
pub mod Calls
pub mod Example
