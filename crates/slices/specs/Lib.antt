pub mod Numbers
pub mod Exported
pub mod Fixed
pub mod Front
pub mod Withdrawals
