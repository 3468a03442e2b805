pub mod Port
pub mod Laws
pub mod Clock
