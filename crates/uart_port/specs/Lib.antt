pub mod Playing
pub mod Ports
pub mod Trace
