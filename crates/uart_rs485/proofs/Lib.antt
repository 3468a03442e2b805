pub mod Turning
pub mod Allowing
pub mod Quiet
pub mod Keeping
pub mod BusDoings
pub mod Echoes
pub mod RingDoingsAtBus
pub mod RingKeeping
