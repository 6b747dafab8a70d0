pub mod Loops
pub mod Sums
