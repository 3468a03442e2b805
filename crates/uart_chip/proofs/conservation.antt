-- What comes in and goes out over a session is conserved.
pub mod Moves
pub mod Sends
pub mod Stepped
pub mod Receives
pub mod Arrivals
pub mod Went
pub mod Effects
pub mod Passed
pub mod Blocks
pub mod BlockLaws
pub mod SessionLaws
