pub mod Base
pub mod Laws
