pub mod Widths
pub mod Calls
pub mod Laws
pub mod Fields
pub mod Plain
