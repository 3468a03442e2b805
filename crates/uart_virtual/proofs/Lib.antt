pub mod Tells
pub mod Times
pub mod Sends
pub mod Waits
pub mod Stays
pub mod Writes
mod Clocks
mod Rooms
mod Empties
mod Inputs
mod Quiet
mod Passes
mod Polls
mod Masks
mod More
mod Looks
pub mod Sizes
