-- What `find_fifo_size` finds, and when it must succeed; and what `enable_64_byte_fifos` enables.
pub mod Filling
pub mod Flooding
pub mod Counting
pub mod Staying
pub mod Remaining
pub mod Measuring
pub mod Walking
pub mod Finding
pub mod Lacking
pub mod Succeeding
pub mod Enabling
pub mod SessionEnds
