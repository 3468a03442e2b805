-- When a call must succeed: ticks pass before each access, the spin limit is long enough, and the wire has room.
use Rattle.std.specs.Prelude.{◌≡◌, ◌<◌, ◌≤◌, ℕ, ◌+◌, ◌*◌, false, ◌&&◌, List, [], ◌∷◌, length, Option, Some, None, Ok}
use Rattle.uart_spec.specs.Bits.{has_any}
use Rattle.uart_spec.specs.Config.{IsComputable}
use Rattle.uart_spec.specs.FifoSize.{characters}
use Rattle.uart_spec.specs.declared.config.Config.{Config}
use Rattle.uart_spec.specs.declared.registers.modem_control.TheConstants.MCR
use Rattle.uart_spec.specs.declared.setup.Setup.{Setup}
use Rattle.uart_16550.specs.Driver.{fields}
use Rattle.uart_16550.specs.Init.{DivisorOf}
use Rattle.uart_16550.specs.Expansion.{expansion}
use Rattle.uart_16550.specs.Tty.{inner_of}
use Rattle.uart_call.specs.declared.call.Call.{Call}
use Rattle.uart_call.specs.declared.call.Call.TheVariants as call
use Rattle.uart_call.specs.declared.call.Answer.{Answer}
use Rattle.uart_call.specs.declared.call.Answer.TheVariants.{Done, Count, Latch}
use Rattle.uart_events.specs.declared.event.Event.{Event}
use Rattle.uart_events.specs.declared.event.Event.TheVariants.{Ticks, Access as Gate, Mark}
use Rattle.uart_chip.specs.declared.transmitter.Shifting.{Shifting}
use Rattle.uart_chip.specs.Transmitter.{TransmitterState}
use Rattle.uart_chip.specs.Chip.{divisor, is_auto_flow}
use Rattle.uart_chip.specs.Machine.{MachineState}
use Rattle.uart_chip.specs.Conserved.{out}
use Rattle.uart_run.specs.Run.{State, machine_of}
use Rattle.uart_run.specs.Served.{transmitter_of}
use Rattle.uart_run.specs.Ready.{Ready, is_narrow, latches_of, test_answer}

-- each Access of these events has at least one tick after the Access or Mark before it, or after the beginning; since
-- then n ticks have already passed
abbrev pub TickedAfter : ℕ → List Event → Type 0
TickedAfter passed [] = Unit {0}
TickedAfter passed (Ticks n ∷ events) = TickedAfter (passed + n) events
TickedAfter passed (Gate ∷ events) = (0 < passed) × TickedAfter 0 events
TickedAfter passed (Mark ∷ events) = TickedAfter 0 events
TickedAfter passed (_ ∷ events) = TickedAfter passed events

-- each Access of the schedule that is still to come has at least one tick before it
abbrev pub IsTicked : MachineState → Type 0
IsTicked m = TickedAfter 0 m.ahead

-- the ticks until the shift register and the queue are empty: a character takes this number of ticks, and an empty
-- shift register takes one tick to be filled
abbrev pub left_of : ℕ → Option Shifting → List ℕ → ℕ
left_of char_ticks None [] = 0
left_of char_ticks None (x ∷ xs) = 1 + char_ticks * length (x ∷ xs)
left_of char_ticks (Some s) queue = s.ticks_left + char_ticks * length queue

-- the most characters that a transmitter holds: those of the FIFO and the one in the shift register, 17 with a FIFO of
-- 16
abbrev pub most_held : TransmitterState → ℕ
most_held t = characters t.size + 1

-- the ticks until the transmitter is empty: at most as many character times
abbrev pub left : TransmitterState → ℕ
left t = left_of t.char_ticks t.shift_register t.queue

-- the wire has room for all that is to be sent, and for n bytes more
abbrev pub HasRoom : ℕ → MachineState → Type 0
HasRoom n m = length (out m) + n ≤ m.chip.transmitter.capacity

-- A chip that holds its transmitter off by CTS goes on when the other end lets it: nothing is said of when that is. A
-- chip that has no automatic flow control never does, so for it these two hold in each state.

-- automatic flow control is off
abbrev pub IsUnheld : MachineState → Type 0
IsUnheld m = is_auto_flow m.chip ≡ false

-- it is off, and this setup does not turn it on
abbrev pub StaysUnheld : Setup → MachineState → Type 0
StaysUnheld setup m = IsUnheld m × ((m.chip.auto_flow && has_any setup.outputs.0 MCR.AUTO_FLOW.0) ≡ false)

-- A transmitter holds at most n characters of t ticks, n being `most_held`, and with a tick before each look every look
-- finds less left. The premises can be checked against a schedule. CTS checking is left out, because a remote may never
-- be clear to send.

-- ticks come before each access, and the spin limit is at least n (t + 1): with a FIFO of 16 that is 17 (t + 1)
pub record IsTimely (s : State) : Type 0 where
  pub ticked : IsTicked (machine_of s)
  -- the spin limit is at least n (t + 1) for characters of t ticks, of which the transmitter holds at most n
  pub limit : most_held (transmitter_of s) * ((transmitter_of s).char_ticks + 1) ≤ (fields (inner_of s)).limit

-- the driver does not check CTS before it sends
abbrev pub IsUnchecked : State → Type 0
IsUnchecked s = (fields (inner_of s)).config.check_cts_before_sending ≡ false

-- the call is no `init` and no `init_with`, which alone may have the driver check CTS, or no longer check it
abbrev pub KeepsChecks : Call → Type 0
KeepsChecks (call.Init config) = ⊥
KeepsChecks (call.InitWith config setup) = ⊥
KeepsChecks other = Unit {0}

-- the arithmetic accepts the configuration, and it has a divisor
pub record HasDivisor (config : Config) : Type 0 where
  pub computable : IsComputable config
  pub divisor : ℕ
  pub is_divisor : DivisorOf config (Ok divisor)

-- with room on the wire for what it sends, and but for an `init`, which turns it off, without automatic flow control, a
-- call does not stall: an `init` and an `init_with` from any state; a `set_frame_when_idle`, a loopback test (with the
-- answer of `test_answer`), a flush, an exact send, a `write` and a text from a ready one, the last three if CTS is not
-- checked; and an `attach` in a ready state takes the port if its divisor is not 0
abbrev pub Succeeds : State → Call → Answer → Type 0
Succeeds s (call.Init config) a = HasRoom 0 (machine_of s) → HasDivisor config → a ≡ Done
Succeeds s (call.InitWith config setup) a =
    StaysUnheld setup (machine_of s) → HasRoom 0 (machine_of s) → HasDivisor config → a ≡ Done
Succeeds s (call.SetFrameWhenIdle config) a =
    Ready s → IsUnheld (machine_of s) → HasRoom 0 (machine_of s) → HasDivisor config → a ≡ Done
Succeeds s call.Attach a = Ready s → 0 < divisor (latches_of s) → (low high : ℕ) × (a ≡ Latch low high)
Succeeds s call.TestLoopback a =
    Ready s → IsUnheld (machine_of s) → HasRoom 0 (machine_of s) → a ≡ test_answer (is_narrow (machine_of s).chip)
Succeeds s call.Flush a = Ready s → IsUnheld (machine_of s) → HasRoom 0 (machine_of s) → a ≡ Done
Succeeds s (call.SendExact bytes) a =
    Ready s → IsUnheld (machine_of s) → IsUnchecked s → HasRoom (length bytes.items) (machine_of s) → a ≡ Done
Succeeds s (call.Write bytes) a =
    Ready s → IsUnheld (machine_of s) → IsUnchecked s → HasRoom (length bytes.items) (machine_of s) →
    (count : ℕ) × (a ≡ Count count)
Succeeds s (call.Text text) a =
    Ready s → IsUnheld (machine_of s) → IsUnchecked s → HasRoom (length (expansion text.bytes)) (machine_of s) →
    a ≡ Done
Succeeds s other a = Unit {0}
