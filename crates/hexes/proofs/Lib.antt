pub mod Laws
pub mod Back
pub mod Determined
pub mod Told
