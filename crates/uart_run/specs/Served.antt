-- What a call of a session does at least, whatever the schedule is: it takes received bytes, and a flush empties the
-- transmitter.
use Rattle.std.specs.Prelude.{◌≡◌, ◌<◌, ◌≤◌, ℕ, true, List, length, min, bit_and}
use Rattle.uart_spec.specs.declared.registers.modem_status.TheConstants.MSR
use Rattle.uart_spec.specs.declared.received.Received.{Received}
use Rattle.uart_call.specs.declared.call.Call.{Call}
use Rattle.uart_call.specs.declared.call.Call.TheVariants as call
use Rattle.uart_call.specs.declared.call.Answer.{Answer}
use Rattle.uart_call.specs.declared.call.Answer.TheVariants as answer
use Rattle.uart_chip.specs.Transmitter.{TransmitterState}
use Rattle.uart_chip.specs.Chip.{is_transmitter_empty}
use Rattle.uart_chip.specs.Conserved.{out, waiting}
use Rattle.uart_calls.specs.Meaning.{bytes_answer, with_errors_answer}
use Rattle.uart_run.specs.Chains.{EachLink}
use Rattle.uart_run.specs.Run.{State, machine_of, Link}
use Rattle.uart_run.specs.ReceivedErrors.{ReceivedExactly}

-- the answer holds at least this number of bytes
abbrev pub HoldsAtLeast : ℕ → Answer → Type 0
HoldsAtLeast n a = (bytes : List ℕ) × (a ≡ bytes_answer bytes) × (n ≤ length bytes)

-- the number of received bytes that have not been read
abbrev pub waiting_len : State → ℕ
waiting_len s = length (waiting (machine_of s))

-- a `receive_with_errors` into this number of slots takes as many of the received bytes as fit; and with the FIFO on,
-- each comes with exactly its errors
pub record ServesWithErrors (s : State) (slots : ℕ) (a : Answer) (t : State) : Type 0 where
  pub items : List Received
  pub answered : a ≡ with_errors_answer items
  pub takes : min slots (waiting_len s) ≤ length items
  pub exact :
      -- the FIFO is on
      (machine_of s).chip.fifo ≡ true → ReceivedExactly (machine_of s) items (machine_of t)

-- the transmitter of a state
abbrev pub transmitter_of : State → TransmitterState
transmitter_of s = (machine_of s).chip.transmitter

-- the transmitter is empty, and all that was in it has been sent
pub record IsFlushed (s t : State) : Type 0 where
  pub is_empty : is_transmitter_empty (transmitter_of t).queue (transmitter_of t).shift_register ≡ true
  -- after a `flush` that returns Ok, everything is on the wire
  pub wire : (transmitter_of t).wire ≡ out (machine_of s)

-- if there is a received byte, a `try_receive_byte` returns one; calls into slots take as many of the received bytes
-- as fit, an exact one does not stall if there are as many; a `flush` that succeeds has emptied the transmitter, and so
-- has a `set_frame_when_idle`, an `is_idle` that is true found it empty; and a `peek_modem` shows the modem lines as
-- they are
abbrev pub Serves : State → Call → Answer → State → Type 0
Serves s call.TryReceive a t = 0 < waiting_len s → (byte : ℕ) × (a ≡ answer.Register byte)
Serves s (call.Receive slots) a t = 0 < waiting_len s → HoldsAtLeast (min slots (waiting_len s)) a
Serves s (call.Read slots) a t = 0 < waiting_len s → HoldsAtLeast (min slots (waiting_len s)) a
Serves s (call.ReceiveExact slots) a t = slots ≤ waiting_len s → HoldsAtLeast slots a
Serves s (call.ReceiveWithErrors slots) a t = ServesWithErrors s slots a t
Serves s call.Flush a t = a ≡ answer.Done → IsFlushed s t
Serves s (call.SetFrameWhenIdle config) a t = a ≡ answer.Done → IsFlushed s t
Serves s call.IsIdle a t = a ≡ answer.Flag true → IsFlushed s t
Serves s call.PeekModem a t =
    (status : ℕ) × (a ≡ answer.Register status) × (bit_and status MSR.LINES.0 ≡ (machine_of t).chip.modem.lines)
Serves s other a t = Unit {0}

-- each of these calls does at least what it is for
abbrev pub AllServe : List Link → Type 0
AllServe = EachLink Serves
