pub mod Laws
pub mod Balances
pub mod Represented
pub mod Ready
pub mod Room
