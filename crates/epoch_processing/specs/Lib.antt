pub mod Updates
pub mod Ready
