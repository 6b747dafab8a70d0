pub mod Rows
pub mod Totals
pub mod Tests
pub mod Words
pub mod Filled
