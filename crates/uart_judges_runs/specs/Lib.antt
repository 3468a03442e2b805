pub mod Told
pub mod Recorded
pub mod Calls
pub mod Runs
pub mod Lost
pub mod Causes
