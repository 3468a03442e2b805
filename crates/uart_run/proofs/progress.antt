-- When waits must end.
pub mod Left
pub mod Nearing
pub mod WaitEnds
pub mod Succeeds
pub mod Timely
