pub mod Parts
pub mod Written
pub mod Lists
pub mod Sized
pub mod Laws
pub mod Theorems
