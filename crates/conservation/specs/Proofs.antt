pub mod Flow
pub mod Steps
pub mod Operations
pub mod Answered
pub mod Kept
pub mod Standing
