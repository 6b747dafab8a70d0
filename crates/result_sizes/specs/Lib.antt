pub mod Size
pub mod Steady
pub mod Epoch
pub mod Exits
pub mod Block
pub mod Receipts
pub mod Answers
