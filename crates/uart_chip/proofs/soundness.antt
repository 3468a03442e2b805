-- Every machine that is built is whole, and stays so.
pub mod Within
pub mod Marks
pub mod ReceiverSounds
pub mod TransmitterSounds
pub mod Sounds
pub mod Schedules
pub mod Builds
pub mod Idle
