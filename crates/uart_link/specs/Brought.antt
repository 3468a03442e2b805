-- What a cable brings: the schedule of the chip at one end has the characters that have left the chip at the other.
use Rattle.std.specs.Prelude.{◌≡◌, ◌≤◌, ◌+◌, ℕ, List, [], ◌∷◌, ◌++◌, drop, length}
use Rattle.std.specs.List.{AllByRecursion}
use Rattle.uart_events.specs.declared.event.Event.{Event}
use Rattle.uart_events.specs.declared.event.Event.TheVariants.{Arrive}
use Rattle.uart_chip.specs.declared.receiver.Character.{Character}
use Rattle.uart_chip.specs.declared.receiver.Origin.TheVariants.{Arrived}
use Rattle.uart_chip.specs.Machine.{MachineState}
use Rattle.uart_link.specs.Cable.{unknown}
use Rattle.uart_link.specs.Known.{AllUnmarked}

-- the bytes that these events bring
abbrev pub brought : List Event → List ℕ
brought [] = []
brought (Arrive byte errors ∷ events) = byte ∷ brought events
brought (_ ∷ events) = brought events

-- these bytes as characters that arrive without errors, numbered from here
abbrev pub numbered : ℕ → List ℕ → List Character
numbered number [] = []
numbered number (byte ∷ bytes) =
    record { byte = byte; errors = 0; origin = Arrived number } ∷ numbered (number + 1) bytes

-- each of these characters arrives without an error
abbrev pub IsClean : Event → Type 0
IsClean (Arrive byte errors) = errors ≡ 0
IsClean _ = Unit {0}

abbrev pub AllClean : List Event → Type 0
AllClean events = AllByRecursion IsClean events

-- the machine's schedule, as far as it is known, has the next ones of the bytes that have left the other chip
pub record IsBrought (wire : List ℕ) (m : MachineState) : Type 0 where
  pub known : List Event
  pub count : ℕ
  pub rest : List ℕ
  pub ahead : m.ahead ≡ known ++ unknown count
  pub unmarked : AllUnmarked known
  pub clean : AllClean known
  pub behind : m.chip.receiver.arrived ≤ length wire
  pub next : drop m.chip.receiver.arrived wire ≡ brought known ++ rest
