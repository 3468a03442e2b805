pub mod Arrivals
pub mod Ticks
pub mod Timely
