-- How the lists of each call are built of the words of the grammar.
pub mod Words
pub mod Receive
pub mod Transmit
pub mod Init
pub mod Loopback
pub mod Sizing
pub mod Status
pub mod SettingUp
pub mod Calls
