pub mod Affords
