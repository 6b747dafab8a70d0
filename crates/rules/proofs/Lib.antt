pub mod Edges
pub mod Causes
pub mod Worked
