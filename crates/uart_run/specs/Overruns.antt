-- Where a character was lost that an overrun tells of, over the machine, with the FIFO on.
use Rattle.std.specs.Prelude.{◌≡◌, ◌≢◌, ◌⊎◌, ◌≤◌, ◌<◌, ◌-◌, ℕ, true, List, [], ◌∷◌, ◌++◌, length, take, drop}
use Rattle.std.specs.List.{AllByRecursion}
use Rattle.uart_events.specs.declared.event.ArrivalMark.{ArrivalMark}
use Rattle.uart_events.specs.declared.event.ArrivalMark.TheVariants.{Dropped}
use Rattle.uart_spec.specs.Bits.{has_any}
use Rattle.uart_spec.specs.declared.access.Access.{Access}
use Rattle.uart_spec.specs.declared.access.Access.TheVariants.{Read, Write}
use Rattle.uart_spec.specs.FifoSize as fifo
use Rattle.uart_spec.specs.declared.setup.FifoSize.{FifoSize}
use Rattle.uart_spec.specs.declared.received.Received.{Received}
use Rattle.uart_spec.specs.declared.registers.line_status.TheConstants.LSR
use Rattle.uart_spec.specs.declared.registers.offsets.TheConstants as offsets
use Rattle.uart_chip.specs.Machine.{MachineState}
use Rattle.uart_chip.specs.Receiver.{ReceiverState, mark_at}
use Rattle.uart_chip.specs.declared.receiver.Character.{Character}
use Rattle.uart_chip.specs.declared.receiver.Origin.{Origin}
use Rattle.uart_chip.specs.declared.receiver.Origin.TheVariants.{Arrived}
use Rattle.uart_run.specs.ReceivedErrors.{ReceivedExactly}

-- A character that comes while the FIFO is full is dropped, so all that wait in the FIFO came before it. The next look
-- shows the overrun flag. It comes with the front of the FIFO, or, once that was read, with the one behind it.

-- the character came before the arrival with this number, or after it. One that came back in loopback came before,
-- since nothing comes back in a ready state
abbrev pub IsOlder : (number : ℕ) → Origin → Type 0
IsOlder number (Arrived other) = other < number
IsOlder number unscheduled = Unit {0}

abbrev pub IsYounger : (number : ℕ) → Origin → Type 0
IsYounger number (Arrived other) = number < other
IsYounger number unscheduled = ⊥

-- an arrival was dropped, and so many of these characters came before it, and the others after it
pub record IsLostBehind (count : ℕ) (characters : List Character) (marks : List ArrivalMark) : Type 0 where
  pub number : ℕ
  pub dropped : mark_at marks number ≡ Dropped
  pub enough : count ≤ length characters
  pub older : AllByRecursion (λ (character : Character). IsOlder number character.origin) (take count characters)
  pub younger : AllByRecursion (λ (character : Character). IsYounger number character.origin) (drop count characters)

-- an arrival was dropped right behind as many of these characters as the FIFO holds, or behind one fewer: with a FIFO
-- of 16 right behind the 15th or the 16th
abbrev pub IsLost : FifoSize → List Character → List ArrivalMark → Type 0
IsLost size characters marks =
    IsLostBehind (fifo.characters size - 1) characters marks ⊎ IsLostBehind (fifo.characters size) characters marks

-- while the overrun flag is set, an arrival was dropped there among the characters that wait
abbrev pub FlagTells : ReceiverState → Type 0
FlagTells r =
    -- the overrun flag is set
    r.is_overrun ≡ true → IsLost r.size r.queue r.marks

-- the access takes no character and resets no FIFO: it reads another register than DATA, or writes another than FCR
abbrev pub LeavesReceiver : Access → Type 0
LeavesReceiver (Read offset answer) = offset ≢ offsets.DATA
LeavesReceiver (Write offset value) = offset ≢ offsets.FCR

-- a byte with the overrun flag tells that an arrival was dropped there among the characters from that of this byte on:
-- these are the characters of the bytes behind it, and those that are in the receiver now
abbrev pub OverrunsTell : List Received → List Character → ReceiverState → Type 0
OverrunsTell [] characters r = Unit {0}
OverrunsTell (received ∷ items) [] r = ⊥
OverrunsTell (received ∷ items) (character ∷ characters) r =
    (has_any received.errors.0 LSR.OVERRUN_ERROR.0 ≡ true → IsLost r.size (character ∷ (characters ++ r.queue)) r.marks)
    × OverrunsTell items characters r

-- what was received with its errors, and what its overrun flags tell; if the flag is set again, it tells too
pub record OverrunsStand (m : MachineState) (items : List Received) (n : MachineState) : Type 0 where
  pub exact : ReceivedExactly m items n
  pub tell : OverrunsTell items exact.characters n.chip.receiver
  pub flag : FlagTells n.chip.receiver
