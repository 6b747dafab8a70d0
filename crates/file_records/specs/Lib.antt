pub mod Scalars
pub mod Laws
pub mod Sizes
pub mod Lists
pub mod Books
