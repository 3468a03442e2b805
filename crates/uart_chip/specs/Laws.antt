-- What the line status reports about errors, and how the modem lines change.
use Rattle.std.specs.Prelude.{◌≡◌, ◌⊎◌, ℕ, Bool, true, false, List, [], ◌∷◌, Option, Some, None, bit_or}
use Rattle.std.specs.List.{AllByRecursion}
use Rattle.uart_events.specs.declared.event.Event.{Event}
use Rattle.uart_events.specs.declared.event.Event.TheVariants.{Lines}
use Rattle.uart_chip.specs.declared.receiver.Character.{Character}
use Rattle.uart_spec.specs.Bits.{IsWithin, has_any}
use Rattle.uart_spec.specs.declared.registers.line_status.TheConstants.LSR
use Rattle.uart_chip.specs.Receiver.{ReceiverState}
use Rattle.uart_spec.specs.Lines.{line_changes}

-- ---- line errors

-- the first of these characters, if it was reported
abbrev pub front_of : List Character → Bool → Option Character
front_of [] reported = None
front_of (front ∷ others) true = Some front
front_of (front ∷ others) false = None

-- the front of the receiver, if its errors were already reported
abbrev pub reported_front : ReceiverState → Option Character
reported_front r = front_of r.queue r.is_front_reported

-- the line status has the errors of the character, or they were reported before; without FIFO it may have the overrun
-- flag instead
abbrev pub IsTold : Bool → Option Character → ℕ → Character → Type 0
IsTold fifo reported line character =
    (reported ≡ Some character) ⊎
    (IsWithin character.errors line ⊎ ((fifo ≡ false) × (has_any line LSR.OVERRUN_ERROR.0 ≡ true)))

-- each of these characters was reported
abbrev pub AllTold : Bool → Option Character → ℕ → List Character → Type 0
AllTold fifo reported line characters = AllByRecursion (IsTold fifo reported line) characters

-- ---- modem changes

-- the modem lines after these events, outside of loopback
abbrev pub lines_after : ℕ → List Event → ℕ
lines_after lines [] = lines
lines_after lines (Lines inputs ∷ events) = lines_after inputs events
lines_after lines (_ ∷ events) = lines_after lines events

-- the changes of the modem lines that these events make, also those that are undone, as bits of MSR
abbrev pub changes_in : ℕ → List Event → ℕ
changes_in lines [] = 0
changes_in lines (Lines inputs ∷ events) = bit_or (line_changes lines inputs) (changes_in inputs events)
changes_in lines (_ ∷ events) = changes_in lines events
