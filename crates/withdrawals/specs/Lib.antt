pub mod Payment
pub mod Laws
pub mod Ready
