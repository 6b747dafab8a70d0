pub mod Rewards
