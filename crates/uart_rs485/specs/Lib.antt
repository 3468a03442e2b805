pub mod Directions
pub mod Bus
pub mod Laws
pub mod Rings
