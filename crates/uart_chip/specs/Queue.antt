-- A queue of the chip: what waits in it, and the size of the FIFO that it is.
use Rattle.std.specs.Prelude.{List}
use Rattle.uart_spec.specs.declared.setup.FifoSize.{FifoSize}

-- the items, from the front, and the size of the FIFO: there is room for as many items
pub record QueueState (X : Type 0) : Type 0 where
  pub items : List X
  pub size : FifoSize
