pub mod Files
pub mod Output
pub mod Closing
pub mod Promise
pub mod Carried
pub mod ClosingLaws
