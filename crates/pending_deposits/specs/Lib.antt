pub mod Deposits
pub mod Ready
