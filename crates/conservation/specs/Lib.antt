pub mod Demand3
pub mod Accepted
pub mod Proofs
