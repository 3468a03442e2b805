pub mod Kept
pub mod Held
pub mod Doing
pub mod Faults
pub mod Line
pub mod Serving
pub mod Laws
pub mod Parameters
