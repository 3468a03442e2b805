pub mod Picked
pub mod ScriptPlays
pub mod ScriptOutputs
pub mod OneOutcome
