-- Driver and chip are a port: each call is a list of its steps, and each session a run of it.
pub mod PortCalls
pub mod PortRuns
