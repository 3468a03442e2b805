mod Names
pub mod Moves
pub mod Tame
pub mod Arriving
pub mod KeepsAll
pub mod Visits
pub mod Told
pub mod Behind
pub mod Quick
pub mod Telling
pub mod Visiting
pub mod Beside
pub mod Handling
pub mod Prompt
pub mod Listening
pub mod Sessions
pub mod Room
pub mod Budget
