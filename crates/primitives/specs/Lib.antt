pub mod Settings
pub mod Scalars
pub mod Profiles
pub mod Answers
pub mod Numbers
