-- What all calls keep: the order of the accesses that switch the direction, write bytes, and look at the transmitter.
use Rattle.std.specs.Prelude.{◌≡◌, ℕ, Bool, true, false, List, [], ◌∷◌, ◌++◌, Result, Ok}
use Rattle.uart_spec.specs.Bits.{has_any}
use Rattle.uart_spec.specs.declared.access.Access.{Access}
use Rattle.uart_spec.specs.declared.access.Access.TheVariants.{Read, Write}
use Rattle.uart_spec.specs.declared.errors.ByteReceiveError.{ByteReceiveError}
use Rattle.uart_spec.specs.declared.errors.StalledError.{StalledError}
use Rattle.uart_spec.specs.declared.received.Received.{Received}
use Rattle.uart_spec.specs.declared.registers.modem_control.TheConstants.MCR
use Rattle.uart_spec.specs.declared.registers.offsets.TheConstants as offsets
use Rattle.uart_16550.specs.Driver.{Fields, Next, Saving}
use Rattle.uart_16550.specs.Frame.{ShowsIdle, unlooped}
use Rattle.uart_16550.specs.Io.{Flushes}
use Rattle.uart_16550.specs.Patience.{ReceivesWhile}
use Rattle.uart_16550.specs.Receive.{ReadyToReceive, TryReceive, TryReceiveWithErrors, Receives, ReceivesWithErrors}
use Rattle.uart_16550.specs.Receive.{ReceivesExact}
use Rattle.uart_16550.specs.Status.{TakesLsr}
use Rattle.uart_16550.specs.declared.patience.WaitError.{WaitError}
use Rattle.uart_rs485.specs.Bus.{BusDoing, BusFields, GivesUp, HearsEcho, OnDriver, SendsBytes, SendsBytesExact, Stays}
use Rattle.uart_rs485.specs.Bus.{TriesToFinish, Turns, unchanged}
use Rattle.uart_rs485.specs.Directions.{drives_itself, empty_after, sends_after, sends_by, turned}
use Rattle.uart_rs485.specs.declared.direction.Direction.{Direction}
use Rattle.uart_rs485.specs.declared.errors.BusyError.{BusyError}
use Rattle.uart_rs485.specs.declared.errors.EchoError.{EchoError}
use Rattle.uart_rs485.specs.declared.errors.NotSendingError.{NotSendingError}
use Rattle.uart_rs485.specs.declared.errors.SendError.{SendError}

-- in this list, which begins while the transceiver sends or does not, each byte is written to DATA while it sends. And
-- it is switched to receive only behind a look at LSR that showed an empty transmitter, with no byte written in
-- between. No write of MCR lets the chip drive the line itself, or turns loopback on, in which all outputs are off
pub record KeepsDirection (d : Direction) (sends : Bool) (l : List Access) : Type 0 where
  -- each byte is written to DATA while the transceiver sends
  pub bytes : (before behind : List Access) (byte : ℕ) →
      -- a byte is written to DATA
      l ≡ before ++ Write offsets.DATA byte ∷ behind →
      sends_after d sends before ≡ true
  -- the transceiver is switched to receive only behind a look at LSR that showed an empty transmitter, with no byte
  -- written in between
  pub turns : (before behind : List Access) (mcr : ℕ) →
      -- MCR is written
      l ≡ before ++ Write offsets.MCR mcr ∷ behind →
      -- with this value the transceiver receives
      sends_by d mcr ≡ false → empty_after false before ≡ true
  -- the chip does not drive the line itself
  pub own : (before behind : List Access) (mcr : ℕ) →
      -- MCR is written
      l ≡ before ++ Write offsets.MCR mcr ∷ behind →
      drives_itself d mcr ≡ false
  -- loopback is off
  pub loopback : (before behind : List Access) (mcr : ℕ) →
      -- MCR is written
      l ≡ before ++ Write offsets.MCR mcr ∷ behind →
      has_any mcr MCR.LOOP_BACK.0 ≡ false

-- the calls at a bus that make accesses
pub data BusCall : Type 0 where
  start_sending try_finish is_idle flush lsr ready_to_receive try_receive_byte try_receive_with_errors : BusCall
  send_bytes send_bytes_exact : (bytes : List ℕ) → BusCall
  receive_bytes receive_with_errors receive_bytes_exact receive_bytes_while : (slots : ℕ) → BusCall
  receive_echo : (sent : List ℕ) → BusCall

-- what a call did, whatever it returned
abbrev pub DoesCall : BusCall → BusDoing
DoesCall start_sending f l after = Turns true f l after
DoesCall try_finish f l after = (result : Result (Unit {0}) BusyError) × TriesToFinish result f l after
DoesCall is_idle f l after = (idle : Bool) × OnDriver (Saving (ShowsIdle idle)) unchanged f l after
DoesCall flush f l after =
    (result : Result (Unit {0}) StalledError) × OnDriver (Saving (Flushes result)) unchanged f l after
DoesCall lsr f l after = (status : ℕ) × OnDriver (TakesLsr status) unchanged f l after
DoesCall ready_to_receive f l after =
    (result : Result (Unit {0}) ByteReceiveError) × OnDriver (Saving (ReadyToReceive result)) unchanged f l after
DoesCall try_receive_byte f l after =
    (result : Result ℕ ByteReceiveError) × OnDriver (Saving (TryReceive result)) unchanged f l after
DoesCall try_receive_with_errors f l after =
    (result : Result Received ByteReceiveError) × OnDriver (Saving (TryReceiveWithErrors result)) unchanged f l after
DoesCall (send_bytes bytes) f l after = (result : Result ℕ NotSendingError) × SendsBytes bytes result f l after
DoesCall (send_bytes_exact bytes) f l after =
    (result : Result (Unit {0}) SendError) × SendsBytesExact bytes result f l after
DoesCall (receive_bytes slots) f l after =
    (bytes : List ℕ) × OnDriver (Saving (Receives slots bytes)) unchanged f l after
DoesCall (receive_with_errors slots) f l after =
    (items : List Received) × OnDriver (Saving (ReceivesWithErrors slots items)) unchanged f l after
DoesCall (receive_bytes_exact slots) f l after =
    (bytes : List ℕ) × (result : Result (Unit {0}) StalledError)
    × OnDriver (Saving (ReceivesExact slots bytes result)) unchanged f l after
DoesCall (receive_bytes_while slots) f l after =
    (bytes : List ℕ) × (said : List Bool) × (result : Result (Unit {0}) WaitError)
    × OnDriver (Saving (ReceivesWhile slots bytes said result)) unchanged f l after
DoesCall (receive_echo sent) f l after =
    (result : Result (Unit {0}) EchoError) × OnDriver (Saving (HearsEcho sent result)) unchanged f l after

-- what calls did, one after another
abbrev pub DoesCalls : List BusCall → BusDoing
DoesCalls [] = Stays
DoesCalls (call ∷ calls) = Next (DoesCall call) (DoesCalls calls)

-- any calls, in any order, keep the direction: and afterwards a bus is taken to be sending exactly if it is
abbrev pub CallsKeepDirection : Type 0
CallsKeepDirection = (calls : List BusCall) (f : BusFields) (l : List Access) (after : BusFields) →
    DoesCalls calls f l after →
    KeepsDirection f.direction f.sends l × (after.sends ≡ sends_after f.direction f.sends l)

-- a `new` that succeeds, and then any calls, in any order, keep the direction, whatever it was before
abbrev pub KeepsFromNew : Type 0
KeepsFromNew = (d : Direction) (sends : Bool) (driver : Fields) (calls : List BusCall) (l m : List Access)
    (mid after : BusFields) →
    TriesToFinish {T = Unit {0}} (Ok tt) (record { driver = driver; direction = d; sends = true }) l mid →
    DoesCalls calls mid m after →
    KeepsDirection d sends (l ++ m) × (after.sends ≡ sends_after d sends (l ++ m))

-- with MCR so the transceiver sends, or does not, whatever happens in the chip
abbrev pub Switches : Direction → (sends : Bool) → (mcr : ℕ) → Type 0
Switches d sends mcr = (sends_by d mcr ≡ sends) × (drives_itself d mcr ≡ false)

-- these accesses are a look at LSR, one at MCR, and a write of MCR by which the transceiver receives, whatever happens
-- in the chip
pub record FreesBus (d : Direction) (l : List Access) : Type 0 where
  pub lsr : ℕ
  pub mcr : ℕ
  pub written : ℕ
  pub is : l ≡ Read offsets.LSR lsr ∷ Read offsets.MCR mcr ∷ Write offsets.MCR written ∷ []
  pub receives : Switches d false written
  pub loopback : has_any written MCR.LOOP_BACK.0 ≡ false

-- a `give_up` frees the bus, whatever the chip shows
abbrev pub GivingUpFrees : Type 0
GivingUpFrees = (status : ℕ) (f : BusFields) (l : List Access) (after : BusFields) →
    -- LSR is read, and the transceiver is switched to receive
    GivesUp status f l after → FreesBus f.direction l

-- what is written to MCR, whatever was read of it, switches the transceiver as asked
abbrev pub SwitchesTurn : Type 0
SwitchesTurn = (d : Direction) (sends : Bool) (mcr : ℕ) → Switches d sends (unlooped (turned d sends mcr))

-- with the outputs of `receiving`, and also without loopback, the transceiver does not send
abbrev pub OutputsReceive : Type 0
OutputsReceive = (d : Direction) (outputs : ℕ) →
    Switches d false (turned d false outputs) × Switches d false (unlooped (turned d false outputs))
