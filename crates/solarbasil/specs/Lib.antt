pub mod Total
pub mod Expected
pub mod Assignment
