-- What a loopback test comes to, and when it must succeed.
pub mod LoopBlocks
pub mod LoopPhases
pub mod LoopExchanges
pub mod TestedReady
pub mod LoopTests
pub mod LoopWaits
pub mod LoopSucceeds
