-- What holds of every live chip, whatever its owner and the guest did with it.
use Rattle.std.specs.Prelude.{◌≡◌, ◌≤◌, false, [], length}
use Rattle.uart_events.specs.declared.event.TheConstants.{MAX_WIRE_CAPACITY}
use Rattle.uart_chip.specs.Chip.{ChipState}
use Rattle.uart_chip.specs.Sound.{IsWhole}
use Rattle.uart_spec.specs.declared.setup.FifoSize.{FifoSize}

-- A live chip is a machine with nothing ahead, so the lemmas of events and accesses serve both.

-- the chip is sound and has nothing of a schedule: no event is to come, no arrival has a mark, none can be lost
-- unnoticed; the wire has room for at most as much as a wire may have, the FIFOs have this size and no switch of it,
-- and flow control is left to the driver
pub record IsLive (fifos : FifoSize) (c : ChipState) : Type 0 where
  pub whole : IsWhole (record { chip = c; ahead = [] })
  -- no arrival has a mark
  pub no_marks : length c.receiver.marks ≡ 0
  -- none can be lost unnoticed
  pub none_lost : c.receiver.is_unscheduled_lost ≡ false
  -- the wire has room for at most as much as a wire may have
  pub room : c.transmitter.capacity ≤ MAX_WIRE_CAPACITY
  -- the FIFOs have this size
  pub size : c.transmitter.size ≡ fifos
  -- flow control is left to the driver
  pub flow : c.auto_flow ≡ false
  -- the chip has no switch of the size
  pub switch : c.has_size_switch ≡ false
