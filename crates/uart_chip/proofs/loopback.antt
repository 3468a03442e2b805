-- In loopback what is written is received in order.
pub mod Loops
pub mod LoopAccesses
