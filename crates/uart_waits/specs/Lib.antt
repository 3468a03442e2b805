pub mod Awaited
pub mod Waits
pub mod Laws
pub mod Occupancy
