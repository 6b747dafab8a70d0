pub mod Stored
pub mod Laws
