pub mod UpdateStep
pub mod TurnStep
