pub mod Accepted
pub mod Churn
pub mod Deposits
pub mod Switch
pub mod Withdrawals
