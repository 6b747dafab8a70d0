pub mod Expected
pub mod Handed
pub mod Listing
pub mod Laws
pub mod Ready
