pub mod Comments
pub mod Lines
pub mod Run
pub mod Told
pub mod Trace
