-- Sessions, and what holds in each.
use Rattle.std.specs.Prelude.{◌≡◌, ℕ, false, List, [], ◌∷◌, ◌++◌, map}
use Rattle.uart_16550.specs.Driver.{fields}
use Rattle.uart_16550.specs.Tty.{inner_of}
use Rattle.uart_spec.specs.declared.setup.FifoAction.TheVariants.{Keep}
use Rattle.uart_call.specs.declared.call.Call.{Call}
use Rattle.uart_call.specs.declared.call.Call.TheVariants as call
use Rattle.uart_call.specs.declared.call.Answer.{Answer}
use Rattle.uart_chip.specs.Chip.{cut_of}
use Rattle.uart_chip.specs.Conserved.{out, waiting, kept}
use Rattle.uart_chip.specs.Switching.{SameSizes}
use Rattle.uart_run.specs.Chains.{EachLink}
use Rattle.uart_run.specs.Run.{State, machine_of, Link, Chain, IsRun}
use Rattle.uart_run.specs.Reported.{reported, received}
use Rattle.uart_run.specs.Refines.{Refines}
use Rattle.uart_run.specs.Wired.{IsWired}
use Rattle.uart_run.specs.Statuses.{Tells}
use Rattle.uart_run.specs.Served.{AllServe}
use Rattle.uart_run.specs.Ready.{Ready, BurstsFit, KeepsSize, IsUnbroken, ComesTo}
use Rattle.uart_run.specs.Progress.{IsTimely, IsUnchecked, KeepsChecks, Succeeds}

-- the call is no `init`, `init_with`, `restore` and no loopback test, which end a session, and no `quiesce` that writes
-- FCR. It sets no frame: characters that are still in the transmitter would go out in another one. It sets no break:
-- characters that are shifted out in one are lost on a line. And it writes no MCR, unless that is allowed
abbrev pub GoesOn : (WritesControl : Type 0) → Call → Type 0
GoesOn WritesControl (call.Init config) = ⊥
GoesOn WritesControl (call.InitWith config setup) = ⊥
GoesOn WritesControl (call.SetFrame config) = ⊥
GoesOn WritesControl (call.SetFrameWhenIdle config) = ⊥
GoesOn WritesControl (call.SetBreak on) = on ≡ false
GoesOn WritesControl (call.SetModemControl outputs) = WritesControl
GoesOn WritesControl (call.SetRts on) = WritesControl
GoesOn WritesControl (call.SetDtr on) = WritesControl
GoesOn WritesControl (call.Quiesce outputs fifos) = WritesControl × (fifos ≡ Keep)
GoesOn WritesControl (call.Restore dump) = ⊥
GoesOn WritesControl call.TestLoopback = ⊥
GoesOn WritesControl other = Unit {0}

-- promise: a session goes on through an `attach` and a `quiesce` that keeps the FIFOs: no byte is lost
-- with: IsWithinSession, Conserves.kept
-- shown by: leaves-and-puts-back, ports_that_are_attached
-- refused: uart_16550/quiesce_turns_kept_fifos_off, uart_16550/attach_turns_the_fifo_around

-- the call goes on with a session that began in this state: it may write MCR if the machine was wired, so that no modem
-- line changes by that
abbrev pub IsWithinSession : State → Call → Type 0
IsWithinSession s = GoesOn (IsWired s)

-- this for each call of some links
abbrev pub AllCalls : (Call → Type 0) → List Link → Type 0
AllCalls Within [] = Unit {0}
AllCalls Within (link ∷ links) = Within link.call × AllCalls Within links

-- each call goes on with a session that began in this state
abbrev pub AllWithinSession : State → List Link → Type 0
AllWithinSession s = AllCalls (IsWithinSession s)

-- a session: it begins in a ready state, and each call in it is one within a session
abbrev pub IsSession : State → List Link → Type 0
IsSession s links = Ready s × AllWithinSession s links

-- ---- what a session conserves

-- how many data writes met a full transmitter
abbrev pub overflows : State → ℕ
overflows s = (machine_of s).chip.transmitter.overflows

-- promise: no write of data meets a full transmitter
-- with: Conserves.no_overflow
-- shown by: the_divisor_and_overflows
-- refused: uart_16550/send_bytes_bursts_without_fifo

-- promise: what was received and what waits is what waited and what arrived, in order, less what the chip dropped
-- with: Conserves.kept, ConservesUncut.kept
-- shown by: receive, overrun, overrun-fifo
-- refused: uart_16550/try_receive_byte_does_not_look, uart_chip/drops_the_new_character,
--   uart_chip/ring_loses_the_oldest

-- promise: in a session that begins with no break there is none, and an `init` leaves none: a `set_break(true)` ends a
--   session, and so does a `set_frame`, since what is in the transmitter goes out in the new frame
-- with: Conserves.unbroken, ConservesUncut.unbroken, IsInitialised.unbroken, GoesOn
-- shown by: sends-in-a-break, sets-the-frame
-- refused: uart_16550/set_break_is_inverted, a_session_goes_on_in_a_break

-- promise: a byte that waits is given to a receiving call, and a flush that succeeds has emptied the transmitter onto
--   the wire
-- with: Conserves.served, IsFlushed.wire
-- shown by: reports-what-is-ready, sends-the-last-character
-- refused: uart_16550/receive_bytes_always_returns_none, uart_16550/flush_waits_for_the_holding_register

-- the wire and the transmitter grew by what was reported, no data write met a full transmitter, what was received and
-- what is in the receiver is what was kept; there is no break on the line if there was none at the start; an `lsr` or
-- `msr` at the end reports drops, line errors and changes; and each call does at least what it is for
pub record Conserves (s : State) (links : List Link) (t : State) : Type 0 where
  pub ready : Ready t
  pub unbroken : IsUnbroken s → IsUnbroken t
  -- the wire and the transmitter grew by what was reported, in order, each byte cut to the word length if the machine
  -- cuts
  pub sent : out (machine_of t) ≡ out (machine_of s) ++ map (cut_of (machine_of s).chip) (reported links)
  -- no data write met a full transmitter
  pub no_overflow : overflows t ≡ overflows s
  -- what was received, and then what waits, is what waited at the start and what arrived, in order, less what was
  -- dropped
  pub kept : received links ++ waiting (machine_of t) ≡ kept (machine_of s) (machine_of t)
  pub tells : Tells s links t
  pub served : AllServe links

-- ---- what each call of a run does, in a session or not

-- What a call does by itself is stated beside the sessions, for every call of a run. So an `init` from a chip that was
-- left in any state is covered. A loopback test ends one session, and the next begins after it: nothing is lost between
-- the two except what the test discards.

-- promise: every call keeps a state in which a session may begin, whatever it returns
-- with: Follows.ready
-- shown by: stalls-an-init, stalls-as-the-test-byte-leaves
-- refused: uart_16550/loopback_stays_on_after_a_refusal

-- promise: calls succeed if ticks come, the limit is long enough, the wire has room, CTS is not checked, and automatic
--   flow control is off
-- with: Follows.succeeds, TestsUncut.succeeds
-- shown by: flushes-before-the-test, passes-the-loopback-test
-- refused: uart_16550/send_bytes_exact_counts_misses_over_all, uart_16550/send_bytes_always_returns_0

-- whatever its answer is, it preserves a ready state, a driver that takes the FIFOs for no larger than they are, if it
-- keeps their size, and a wired machine; it changes neither for how large the driver takes them nor, if it keeps it,
-- the size that they have; it preserves that ticks come and the limit is long enough, that CTS is not checked, if it is
-- no `init`, and which chip has automatic flow control; it has an outcome that it should have; and if ticks pass, it
-- succeeds
pub record Follows (s : State) (call : Call) (a : Answer) (t : State) : Type 0 where
  pub ready : Ready s → Ready t
  pub fits : KeepsSize s call → BurstsFit s → BurstsFit t
  pub wired : IsWired s → IsWired t
  pub takes : (fields (inner_of t)).size ≡ (fields (inner_of s)).size
  pub size : KeepsSize s call → SameSizes (machine_of s).chip (machine_of t).chip
  pub timely : KeepsSize s call → IsTimely s → IsTimely t
  pub checks : KeepsChecks call → IsUnchecked s → IsUnchecked t
  pub flow : (machine_of t).chip.auto_flow ≡ (machine_of s).chip.auto_flow
  pub comes_to : ComesTo s call a t
  pub succeeds : IsTimely s → Succeeds s call a

-- each of these calls does what is said of a call by itself
abbrev pub AllFollow : List Link → Type 0
AllFollow = EachLink Follows

-- ---- runs

-- The theorem speaks of every part of a run that is a session, so there is no clause for each position.

-- promise: driver and chip are a port of five fields: a session is a list of its steps, in which is sent what calls
--   report, received what they return, and told what `lsr` tells, while what arrives comes
-- with: Ran.port, Refines.leads, Refines.sent, Refines.received, Refines.came, Refines.told
-- shown by: what_is_said_of_sessions_holds_of_random_runs, ports_that_do_something_else_are_found
-- refused: a_saved_loss_is_told, uart_chip/full_ports_lose_silently, uart_chip/drops_the_new_character

-- these calls, with these answers, lead from s to t; each does what is promised of it alone; and each session in them
-- conserves, and is a run of a port
pub record Ran (s : State) (calls : List Call) (answers : List Answer) (t : State) : Type 0 where
  pub run : IsRun s calls answers t
  pub follows : AllFollow run.links
  -- each session among the calls conserves
  pub sessions : (front session rest : List Link) (a b : State) →
      -- these calls are a part of the run
      run.links ≡ front ++ (session ++ rest) →
      Chain s front a → Chain a session b → Chain b rest t → IsSession a session → Conserves a session b
  -- each session among the calls is a run of a port, in which is sent what the calls report, received what they return,
  -- and told what they tell
  pub port : (front session rest : List Link) (a b : State) →
      -- these calls are a part of the run
      run.links ≡ front ++ (session ++ rest) →
      Chain s front a → Chain a session b → Chain b rest t → IsSession a session → Refines a session b
