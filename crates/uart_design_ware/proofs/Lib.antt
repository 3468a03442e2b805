pub mod Doings
pub mod Meant
pub mod Taking
pub mod Keeping
pub mod Bounding
