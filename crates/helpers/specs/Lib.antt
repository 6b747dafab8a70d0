pub mod Assigned
pub mod Exits
pub mod Ready
pub mod Lookups
pub mod Found
