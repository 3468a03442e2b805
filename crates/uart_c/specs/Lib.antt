pub mod Queue
pub mod State
pub mod Canonical
pub mod Status
pub mod Saved
pub mod Port
