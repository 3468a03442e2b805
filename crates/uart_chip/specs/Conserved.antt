-- What has been sent, what was received, and what was kept of it.
use Rattle.std.specs.Prelude.{◌≡◌, ℕ, ◌+◌, ◌-◌, Bool, true, false, not, List, [], ◌∷◌, ◌++◌, map, filter, take, length}
use Rattle.uart_events.specs.declared.event.ArrivalMark.{ArrivalMark}
use Rattle.uart_events.specs.declared.event.ArrivalMark.TheVariants.{Dropped}
use Rattle.uart_events.specs.declared.event.Event.{Event}
use Rattle.uart_events.specs.declared.event.Event.TheVariants.{Arrive}
use Rattle.uart_chip.specs.declared.receiver.Character.{Character}
use Rattle.uart_chip.specs.declared.receiver.Origin.{Origin}
use Rattle.uart_chip.specs.declared.receiver.Origin.TheVariants.{Arrived, Looped, Live}
use Rattle.uart_chip.specs.Transmitter as transmitter
use Rattle.uart_chip.specs.Receiver as receiver
use Rattle.uart_chip.specs.Receiver.{ReceiverState, mark_at}
use Rattle.uart_chip.specs.Chip.{cut_of}
use Rattle.uart_chip.specs.Machine.{MachineState}

-- what has been sent, and then what is still to be sent
abbrev pub out : MachineState → List ℕ
out m = transmitter.out m.chip.transmitter

-- the received bytes that have not been read
abbrev pub waiting : MachineState → List ℕ
waiting m = receiver.waiting m.chip.receiver

-- the mark of a character that was dropped
abbrev pub is_dropped : ArrivalMark → Bool
is_dropped Dropped = true
is_dropped _ = false

-- a character of this origin was not dropped
abbrev pub origin_stands : List ArrivalMark → Bool → Origin → Bool
origin_stands marks missing (Arrived number) = not (is_dropped (mark_at marks number))
origin_stands marks missing Looped = not missing
origin_stands marks missing Live = not missing

-- whether the receiver's marks say that the character was not dropped
abbrev pub stands : ReceiverState → Character → Bool
stands r character = origin_stands r.marks r.is_unscheduled_lost character.origin

-- the arrivals among these events, numbered from here
abbrev pub arriving : ℕ → List Event → List Character
arriving number [] = []
arriving number (Arrive byte errors ∷ events) =
    record { byte = byte; errors = errors; origin = Arrived number } ∷ arriving (number + 1) events
arriving number (_ ∷ events) = arriving number events

-- a character with its byte cut
abbrev pub cut_character : (ℕ → ℕ) → Character → Character
cut_character cut character = record character { byte = cut character.byte }

-- the events that were performed between the first machine and the second
abbrev pub between : MachineState → MachineState → List Event
between m n = take (length m.ahead - length n.ahead) m.ahead

-- what was in the receiver of the first machine, and then what arrived up to the second, each cut to the word length
abbrev pub entered : MachineState → MachineState → List Character
entered m n =
    m.chip.receiver.queue ++ map (cut_character (cut_of m.chip)) (arriving m.chip.receiver.arrived (between m n))

-- the bytes of these that were not dropped, according to the second machine
abbrev pub kept : MachineState → MachineState → List ℕ
kept m n = map (λ character. character.byte) (filter (stands n.chip.receiver) (entered m n))

-- A drop is final: what was taken is never dropped afterwards. So what was kept over two stretches is what was kept
-- over each of them.

-- a drop between the two machines: a character of this origin was not dropped in the first, and is dropped in the
-- second
pub record IsDrop (m n : MachineState) : Type 0 where
  pub origin : Origin
  pub stood : origin_stands m.chip.receiver.marks m.chip.receiver.is_unscheduled_lost origin ≡ true
  pub lost : origin_stands n.chip.receiver.marks n.chip.receiver.is_unscheduled_lost origin ≡ false
