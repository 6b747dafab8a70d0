pub mod Called
pub mod Answers
pub mod Tests
