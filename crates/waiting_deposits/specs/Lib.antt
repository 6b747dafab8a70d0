pub mod Affords
pub mod Blocks
