pub mod Carried
pub mod Worked
