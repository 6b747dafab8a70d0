pub mod Fitted
pub mod Read
pub mod Written
pub mod Carried
pub mod Fixed
