pub mod Account
pub mod Parts
