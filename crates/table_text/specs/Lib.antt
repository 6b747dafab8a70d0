pub mod Lines
pub mod Text
pub mod Theorems
pub mod Laws
