-- Rings whose errors are noted, over the machine, with the FIFO on: which errors each byte of the receive ring has.
use Rattle.std.specs.Prelude.{◌≡◌, ℕ, true, false, List, [], ◌∷◌, ◌++◌, length, take, map, Option, Some, None}
use Rattle.std.specs.List.{filter}
use Rattle.uart_spec.specs.Bits.{has_any}
use Rattle.uart_spec.specs.declared.received.Received.{Received}
use Rattle.uart_spec.specs.declared.registers.line_status.TheConstants.LSR
use Rattle.uart_16550.specs.declared.driver.Uart16550.{Uart16550}
use Rattle.uart_chip.specs.Conserved.{stands, entered}
use Rattle.uart_chip.specs.Laws.{reported_front}
use Rattle.uart_chip.specs.Machine.{MachineState, MachineStep}
use Rattle.uart_chip.specs.Receiver.{ReceiverState}
use Rattle.uart_chip.specs.declared.receiver.Character.{Character}
use Rattle.uart_run.specs.Chains.{LinkOf, ChainOf}
use Rattle.uart_run.specs.Overruns.{IsLost, FlagTells}
use Rattle.uart_run.specs.Ready.{Ready}
use Rattle.uart_run.specs.ReceivedErrors.{character_errors}
use Rattle.uart_ring.specs.Notes.{Notes, notes_of, NotesErrors, unnoted_in, errors_in, bytes_of, errors_of}
use Rattle.uart_ring.specs.Ring.{ring_fields, ring_backend_of, rings_over}
use Rattle.uart_ring.specs.declared.notes.ErrorNotes.{ErrorNotes}
use Rattle.uart_ring.specs.declared.ring.Uart16550Ring.{Uart16550Ring}
use Rattle.uart_ring_runs.specs.declared.call.RingAnswer.{RingAnswer}
use Rattle.uart_ring_runs.specs.declared.call.RingCall.{RingCall}
use Rattle.uart_ring_runs.specs.declared.call.RingCall.TheVariants as call
use Rattle.uart_ring_runs.specs.RingBytes.{to_take, gone}
use Rattle.uart_ring_runs.specs.RingRun.{RingState, under, ring_machine, RingLink, RingGoesOn, RingPerformed}

-- ---- the rings, and what they do

-- rings over the machine, whose errors are noted
abbrev pub NotedState : Type 0
NotedState = Uart16550Ring (ErrorNotes MachineState)

-- the same rings over the machine itself, to which the definitions about rings and machine apply
abbrev pub without_notes : NotedState → RingState
without_notes s =
    let driver : Uart16550 MachineState = record {
      backend = (ring_backend_of s).backend;
      config = s.uart.config;
      fifo_enabled = s.uart.fifo_enabled;
      fifo_size = s.uart.fifo_size;
      saved_lsr = s.uart.saved_lsr;
      saved_msr = s.uart.saved_msr;
      spin_limit = s.uart.spin_limit;
    } in
    rings_over driver (ring_fields s)

-- what is noted, and the receiver under it
abbrev pub notes_in : NotedState → Notes
notes_in s = notes_of (ring_backend_of s)

abbrev pub receiver_of : NotedState → ReceiverState
receiver_of s = (ring_machine (without_notes s)).chip.receiver

-- the state that a call leaves: `Next` goes on to the mark, and notes nothing. A `take_with_errors` is a `take` here
abbrev pub NotedCallStep : NotedState → RingCall → RingAnswer → NotedState → Type 0
NotedCallStep s call.Next answer t =
    RingGoesOn answer (without_notes s) (without_notes t) × (notes_in t ≡ notes_in s)
NotedCallStep s other answer t = RingPerformed (NotesErrors MachineStep) s other answer t

-- a call with its answer, between the states before and after it; and calls in turn
abbrev pub NotedLink : Type 0
NotedLink = LinkOf NotedState RingCall RingAnswer

-- these calls lead from the one state to the other, in turn
abbrev pub NotedChain : NotedState → List NotedLink → NotedState → Type 0
NotedChain = ChainOf NotedCallStep

-- the same calls, of the rings over the machine itself
abbrev pub link_without_notes : NotedLink → RingLink
link_without_notes link = record {
  before = without_notes link.before;
  call = link.call;
  answer = link.answer;
  after = without_notes link.after;
}

abbrev pub links_without_notes : List NotedLink → List RingLink
links_without_notes links = map link_without_notes links

-- ---- which errors are noted

-- the errors of a character that a look has shown, if there is one
abbrev pub shown_of : Option Character → ℕ
shown_of None = 0
shown_of (Some character) = character_errors character.errors

-- what was shown since the last byte was read is of the next one: the errors of the front of the FIFO, once a look has
-- shown them, and else none. An overrun that was shown tells where a character was lost, and so does the flag
pub record IsInStep (n : Notes) (r : ReceiverState) : Type 0 where
  -- DLAB is off
  pub latch : n.is_latch ≡ false
  -- the errors shown since the last byte are those of the character in front, if a look has shown them, and else none
  pub shown : character_errors n.shown ≡ shown_of (reported_front r)
  -- an overrun that was shown tells where a character was lost
  pub lost :
      -- an overrun was shown
      has_any n.shown LSR.OVERRUN_ERROR.0 ≡ true → IsLost r.size r.queue r.marks
  pub flag : FlagTells r

-- nothing was shown yet, as when notes are made and after a reset of the receiver; so an overrun that is shown next may
-- be of before
pub record AreUnlooked (n : Notes) : Type 0 where
  pub latch : n.is_latch ≡ false
  pub shown : n.shown ≡ 0
  pub old : n.is_overrun_old ≡ true

-- these errors are of the first of these characters, each at its place: its parity error, its framing error and its
-- break are exactly those of the character, and an overrun tells that an arrival was dropped right behind as many
-- characters from this one on as the FIFO holds, or one fewer: the 15th or the 16th with a FIFO of 16, counted through
-- these characters and then those in the receiver
abbrev pub AreTheirs : List ℕ → List Character → ReceiverState → Type 0
AreTheirs [] characters r = Unit {0}
AreTheirs (errors ∷ more) [] r = ⊥
AreTheirs (errors ∷ more) (character ∷ characters) r =
    (character_errors errors ≡ character_errors character.errors)
    × (has_any errors LSR.OVERRUN_ERROR.0 ≡ true → IsLost r.size (character ∷ (characters ++ r.queue)) r.marks)
    × AreTheirs more characters r

-- the bytes of some characters
abbrev pub only_bytes : List Character → List ℕ
only_bytes characters = map (λ character. character.byte) characters

-- the bytes in the receive ring are of these characters; and if the errors of all of them are noted, these are theirs
pub record Holds (characters : List Character) (s : NotedState) : Type 0 where
  pub bytes : only_bytes characters ≡ to_take (without_notes s)
  pub errors : unnoted_in s ≡ 0 → AreTheirs (errors_in s) characters (receiver_of s)

-- what was received with its errors is the first of these characters, each with its byte and its errors
pub record AreExact (items : List Received) (characters : List Character) (r : ReceiverState) : Type 0 where
  pub bytes : bytes_of items ≡ take (length items) (only_bytes characters)
  pub errors : AreTheirs (errors_of items) characters r

-- such calls may begin: the state is ready, with the FIFO on and the notes in step; and the receive ring holds these
-- characters, of which all errors are noted. It may be empty
pub record MayBegin (characters : List Character) (s : NotedState) : Type 0 where
  pub ready : Ready (under (without_notes s))
  -- the driver takes the FIFO to be on
  pub fifo : (ring_fields s).driver.fifo ≡ true
  pub in_step : IsInStep (notes_in s) (receiver_of s)
  pub holds : Holds characters s
  -- the errors of all bytes in the ring are noted
  pub noted : unnoted_in s ≡ 0

-- what such calls do, if the receive ring held these characters before: those that left it, then those in it, then
-- those in the receiver, are these, and then those that were in the receiver or arrived since, in order, without those
-- that were dropped. What it holds has its errors
pub record NotesExactly (before : List Character) (s : NotedState) (links : List NotedLink) (t : NotedState) :
    Type 0 where
  pub left : List Character
  pub held : List Character
  pub left_bytes : only_bytes left ≡ gone (links_without_notes links)
  pub holds : Holds held t
  pub stay : left ++ (held ++ (receiver_of t).queue) ≡
      before ++ filter (stands (receiver_of t))
      (entered (ring_machine (without_notes s)) (ring_machine (without_notes t)))
  pub in_step : IsInStep (notes_in t) (receiver_of t)
  pub ready : Ready (under (without_notes t))
  pub fifo : (ring_fields t).driver.fifo ≡ true
