pub mod RingStarts
