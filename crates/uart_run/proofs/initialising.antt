-- What an `init` and an `init_with` come to, and when they must succeed.
pub mod Presence
pub mod FifoShown
pub mod FifoSteps
pub mod Inits
pub mod Stored
pub mod Initialised
pub mod InitSucceeds
pub mod SetUp
pub mod InitWithSucceeds
pub mod InitRoom
