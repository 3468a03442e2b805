-- What lasts of the transmitter, of the size of the FIFOs and of automatic flow control, whatever else happens.
pub mod Lasting
pub mod Constants
pub mod FifoSizes
pub mod Flows
