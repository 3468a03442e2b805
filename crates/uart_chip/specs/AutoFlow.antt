-- Which chips have automatic flow control: those that were made with it, whatever is done with them.
use Rattle.std.specs.Prelude.{◌≡◌, ℕ, false, List}
use Rattle.uart_events.specs.declared.event.Event.{Event}
use Rattle.uart_spec.specs.Access.{Path}
use Rattle.uart_spec.specs.declared.access.Access.{Access}
use Rattle.uart_chip.specs.Chip.{ChipState, is_auto_flow, is_held_off, after_read, after_write}
use Rattle.uart_chip.specs.Machine.{MachineState, MachineStep, perform, at_mark}

-- the second chip has it exactly if the first has
abbrev pub SameFlow : ChipState → ChipState → Type 0
SameFlow c d = d.auto_flow ≡ c.auto_flow

-- ---- one event, and one access

abbrev pub EventsKeepFlow : Type 0
EventsKeepFlow = (event : Event) (c : ChipState) → SameFlow c (perform event c)

abbrev pub ReadsKeepFlow : Type 0
ReadsKeepFlow = (offset : ℕ) (c : ChipState) → SameFlow c (after_read offset c)

abbrev pub WritesKeepFlow : Type 0
WritesKeepFlow = (offset value : ℕ) (c : ChipState) → SameFlow c (after_write offset value c)

-- ---- a machine

-- accesses, with the events before each of them
abbrev pub AccessesKeepFlow : Type 0
AccessesKeepFlow =
    (accesses : List Access) (m n : MachineState) → Path MachineStep m accesses n → SameFlow m.chip n.chip

-- and the events up to a mark
abbrev pub MarksKeepFlow : Type 0
MarksKeepFlow = (m : MachineState) → SameFlow m.chip (at_mark m).chip

-- ---- a chip that has it not

-- in no state is it on, nor does CTS hold the transmitter off
pub record IsNeverHeld (c : ChipState) : Type 0 where
  pub off : is_auto_flow c ≡ false
  pub goes_on : is_held_off c ≡ false

abbrev pub HeldOnlyWithFlow : Type 0
HeldOnlyWithFlow = (c : ChipState) →
    -- the chip has no automatic flow control
    c.auto_flow ≡ false → IsNeverHeld c
