pub mod NoChoice
pub mod Calling
pub mod Played
pub mod Checked
pub mod Chains
pub mod Replays
pub mod Repeats
