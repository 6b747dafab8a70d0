pub mod Payments
pub mod Expected
