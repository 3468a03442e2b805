pub mod ScriptOutput
pub mod Play
pub mod OneOutcome
