-- The chip under a schedule: which events happen before an access, and the step that an access makes.
use Rattle.std.specs.Prelude.{◌≡◌, ℕ, ◌+◌, Bool, true, List, [], ◌∷◌}
use Rattle.uart_events.specs.declared.event.Chip.{Chip}
use Rattle.uart_events.specs.declared.event.Event.{Event}
use Rattle.uart_events.specs.declared.event.Event.TheVariants.{Ticks, Arrive, Lines, Access as Gate, Mark}
use Rattle.uart_spec.specs.declared.access.Access.{Access}
use Rattle.uart_spec.specs.declared.access.Access.TheVariants.{Read, Write}
use Rattle.uart_spec.specs.declared.setup.FifoSize.{FifoSize}
use Rattle.uart_chip.specs.Chip as chip
use Rattle.uart_chip.specs.Chip.{ChipState, with_size, tick, ticks, arrive, change_lines, answer, after_read}
use Rattle.uart_chip.specs.Chip.{after_write}

-- `ahead` has the events of the schedule that have not happened yet
pub record MachineState : Type 0 where
  pub chip : ChipState
  pub ahead : List Event

-- the number of arrivals among these events
abbrev pub arrivals : List Event → ℕ
arrivals [] = 0
arrivals (Arrive byte errors ∷ events) = 1 + arrivals events
arrivals (_ ∷ events) = arrivals events

-- a machine after power-on, with its whole schedule ahead, whose FIFOs hold 16 characters, and that does not cut
-- characters
abbrev pub fresh : Chip → ℕ → ℕ → List Event → MachineState
fresh model char_ticks capacity events =
    record { chip = chip.fresh model char_ticks capacity (arrivals events); ahead = events }

-- the same machine, which cuts characters to the word length, or does not
abbrev pub cutting : Bool → MachineState → MachineState
cutting cuts m = record m { chip = record m.chip { cuts = cuts } }

-- the same machine, which has automatic flow control, or has not
abbrev pub flowing : (auto_flow : Bool) → MachineState → MachineState
flowing auto_flow m = record m { chip = record m.chip { auto_flow = auto_flow } }

-- the same machine, which has the switch of a 16750 between FIFOs of 16 and of 64
abbrev pub switchable : MachineState → MachineState
switchable m = record m { chip = record m.chip { has_size_switch = true } }

-- the same machine, with FIFOs of this size
abbrev pub sized : FifoSize → MachineState → MachineState
sized size m = record m { chip = with_size size m.chip }

-- what one event does; Access and Mark do nothing by themselves
abbrev pub perform : Event → ChipState → ChipState
perform (Ticks n) c = ticks n c
perform (Arrive byte errors) c = arrive byte errors c
perform (Lines inputs) c = change_lines inputs c
perform _ c = c

-- promise: an access takes a tick, unless the schedule gates it
-- with: before_access, after_access
-- shown by: gates-each-access
-- refused: tick_although_gated

-- the chip at an access: after the events up to the first Access; or after those up to a Mark or the end, and one
-- more tick
abbrev pub before_access : List Event → ChipState → ChipState
before_access [] c = tick c
before_access (Gate ∷ events) c = c
before_access (Mark ∷ events) c = tick c
before_access (event ∷ events) c = before_access events (perform event c)

-- the events after an access: an Access is removed, a Mark is not
abbrev pub after_access : List Event → List Event
after_access [] = []
after_access (Gate ∷ events) = events
after_access (Mark ∷ events) = Mark ∷ events
after_access (_ ∷ events) = after_access events

-- the machine as an access finds it
abbrev pub at_access : MachineState → MachineState
at_access m = record { chip = before_access m.ahead m.chip; ahead = after_access m.ahead }

-- the chip after the events up to the next Mark or the end
abbrev pub before_mark : List Event → ChipState → ChipState
before_mark [] c = c
before_mark (Mark ∷ events) c = c
before_mark (event ∷ events) c = before_mark events (perform event c)

-- the events after the next Mark
abbrev pub after_mark : List Event → List Event
after_mark [] = []
after_mark (Mark ∷ events) = events
after_mark (_ ∷ events) = after_mark events

-- the machine after the next Mark was removed
abbrev pub at_mark : MachineState → MachineState
at_mark m = record { chip = before_mark m.ahead m.chip; ahead = after_mark m.ahead }

-- proved: Each register access is exactly the machine's step: first the scheduled events, then the register's effect,
--   for every schedule
-- on: `Backend` of `Device16550`

-- which access leads from which machine to which: first the events happen, then the effect on the register
abbrev pub MachineStep : MachineState → Access → MachineState → Type 0
MachineStep m (Read offset value) n =
    let r = at_access m in (n ≡ record r { chip = after_read offset r.chip }) × (value ≡ answer offset r.chip)
MachineStep m (Write offset value) n = let r = at_access m in n ≡ record r { chip = after_write offset value r.chip }
