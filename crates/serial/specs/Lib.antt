pub mod Second
pub mod Laws
