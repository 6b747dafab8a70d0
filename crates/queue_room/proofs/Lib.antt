pub mod Filling
pub mod Crediting
pub mod Counting
