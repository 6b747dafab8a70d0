pub mod Consolidations
