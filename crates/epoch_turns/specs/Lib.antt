pub mod Epoch
