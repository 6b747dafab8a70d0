pub mod Consolidations
pub mod Ready
pub mod Laws
