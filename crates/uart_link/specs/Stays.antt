-- What stays as it is at both ends of a link, whatever is called. So what is asked for in the middle of a run can be
-- asked for at its beginning.
use Rattle.std.specs.Prelude.{◌≡◌, length}
use Rattle.uart_16550.specs.Driver.{settings_of}
use Rattle.uart_chip.specs.AutoFlow.{SameFlow}
use Rattle.uart_chip.specs.Chip.{ChipState}
use Rattle.uart_chip.specs.Switching.{SameSizes}
use Rattle.uart_ring.specs.Ring.{ring_fields}
use Rattle.uart_ring_runs.specs.RingRun.{RingState, ring_machine}

-- of the chip: how large its FIFOs are, whether they are on, whether it has automatic flow control, whether it cuts
-- characters, how long one takes, how many it may send, and how many may arrive
pub record StaysChip (c d : ChipState) : Type 0 where
  -- both FIFOs hold as many characters as before
  pub sizes : SameSizes c d
  pub fifo : d.fifo ≡ c.fifo
  -- a chip that had no automatic flow control has none
  pub flow : SameFlow c d
  pub cuts : d.cuts ≡ c.cuts
  pub char_ticks : d.transmitter.char_ticks ≡ c.transmitter.char_ticks
  pub capacity : d.transmitter.capacity ≡ c.transmitter.capacity
  pub arrivals : length d.receiver.marks ≡ length c.receiver.marks

-- and of its driver: whether it checks CTS, its spin limit, whether it takes the FIFOs to be on, and for how large
pub record StaysAt (s t : RingState) : Type 0 where
  pub chip : StaysChip (ring_machine s).chip (ring_machine t).chip
  pub driver : settings_of (ring_fields t).driver ≡ settings_of (ring_fields s).driver
