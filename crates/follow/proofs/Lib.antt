pub mod Follow
pub mod Leading
pub mod Gap
pub mod Grammar
pub mod Sizes
pub mod Exist
pub mod Tests
pub mod Determined
