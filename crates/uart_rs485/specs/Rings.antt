-- Rings at a bus: what they hold, and what each call does.
use Rattle.std.specs.Prelude.{◌≡◌, ◌≢◌, ◌⊎◌, ℕ, Bool, true, false, List, [], ◌∷◌, ◌++◌, Result, Ok, Err}
use Rattle.uart_spec.specs.Access.{Path}
use Rattle.uart_spec.specs.declared.access.Access.{Access}
use Rattle.uart_spec.specs.declared.registers.offsets.TheConstants as offsets
use Rattle.uart_16550.specs.Driver.{Doing, Next, Saving}
use Rattle.uart_16550.specs.Frame.{ShowsIdle, unlooped}
use Rattle.uart_16550.specs.Grammar.{Modifies}
use Rattle.uart_ring.specs.Handle.{Handles}
use Rattle.uart_ring.specs.Receive.{ClearsReceive, TakesBytes}
use Rattle.uart_ring.specs.Ring as rings
use Rattle.uart_ring.specs.Ring.{RingDoing, RingFields, ring_backend_of, ring_fields, waiting}
use Rattle.uart_ring.specs.Status.{TakesLine}
use Rattle.uart_ring.specs.Storm.{Restarts, TriesToHandle}
use Rattle.uart_ring.specs.Transmit.{ClearsTransmit, Queues}
use Rattle.uart_ring.specs.declared.ring.Uart16550Ring.{Uart16550Ring}
use Rattle.uart_ring.specs.declared.ring.service.Handled.{Handled}
use Rattle.uart_ring.specs.declared.ring.storm.StuckError.{StuckError}
use Rattle.uart_rs485.specs.Directions.{sends_after, turned}
use Rattle.uart_rs485.specs.Laws.{FreesBus, KeepsDirection}
use Rattle.uart_rs485.specs.declared.direction.Direction.{Direction}
use Rattle.uart_ring.specs.declared.refused.Refused.{Refused}
use Rattle.uart_rs485.specs.declared.errors.BusyError.{BusyError}
use Rattle.uart_rs485.specs.declared.errors.NotSendingError.{NotSendingError}
use Rattle.uart_rs485.specs.declared.rings.HalfDuplexRing.{HalfDuplexRing}

-- the rings at a bus
abbrev pub rings_of : {B : Type 0} → HalfDuplexRing B → Uart16550Ring B
rings_of b = b.ring

-- rings at a bus without their backend: what they hold, how the transceiver is switched, and whether its direction is
-- to send
pub record RingBusFields : Type 0 where
  pub rings : RingFields
  pub direction : Direction
  pub sends : Bool

-- what these hold beside their backend
abbrev pub ring_bus_fields : {B : Type 0} → HalfDuplexRing B → RingBusFields
ring_bus_fields b = record { rings = ring_fields b.ring; direction = b.direction; sends = b.is_sending }

-- what a call does: the fields before it, its accesses, and the fields after it
abbrev pub RingBusDoing : Type 1
RingBusDoing = RingBusFields → List Access → RingBusFields → Type 0

-- the call did this, on a path of the backend's steps
pub record RingBusDid {B : Type 0} (step : B → Access → B → Type 0) (G : RingBusDoing)
    (old new : HalfDuplexRing B) : Type 0 where
  pub list : List Access
  pub path : Path step (ring_backend_of old.ring) list (ring_backend_of new.ring)
  pub does : G (ring_bus_fields old) list (ring_bus_fields new)

-- the fields as they are; with other rings; with this direction
abbrev pub same : RingBusFields → RingBusFields
same f = f

abbrev pub with_rings : RingFields → RingBusFields → RingBusFields
with_rings rings f = record f { rings = rings }

abbrev pub rings_with_sends : Bool → RingBusFields → RingBusFields
rings_with_sends sends f = record f { sends = sends }

-- The contracts are made of the calls of rings and driver, so no access is specified twice.

-- the rings do this, and of the other fields only this changes
abbrev pub OnRings : RingDoing → (RingBusFields → RingBusFields) → RingBusDoing
OnRings G change f l after = G f.rings l after.rings × (after ≡ with_rings after.rings (change f))

-- the driver under the rings does this
abbrev pub OfDriver : Doing → RingDoing
OfDriver G = rings.OnDriver G rings.unchanged

-- nothing at all
abbrev pub RingStays : RingBusDoing
RingStays f l after = (l ≡ []) × (after ≡ f)

-- the transceiver is switched: MCR is read, and written with the line as it is to be in this direction, without
-- loopback, and at RTS without automatic flow control
abbrev pub RingTurns : (sends : Bool) → RingBusDoing
RingTurns sends f = OnRings (OfDriver (Saving (Modifies offsets.MCR (λ mcr. unlooped (turned f.direction sends mcr)))))
    (rings_with_sends sends) f

-- a look at LSR shows that the transmitter is empty, or that it is not
abbrev pub RingLooks : (idle : Bool) → RingBusDoing
RingLooks idle = OnRings (OfDriver (Saving (ShowsIdle idle))) same

-- `try_finish`: no byte waits, a look at LSR shows that the transmitter is empty, and the transceiver is switched to
-- receive; or a byte waits, and nothing is done; or none does, and the look shows that it is not
abbrev pub RingTriesToFinish : {T : Type 0} → Result T BusyError → RingBusDoing
RingTriesToFinish (Ok x) f l after = (waiting f.rings ≡ []) × Next (RingLooks true) (RingTurns false) f l after
RingTriesToFinish (Err e) f l after =
    ((waiting f.rings ≢ []) × RingStays f l after) ⊎ ((waiting f.rings ≡ []) × RingLooks false f l after)

-- rings at a bus of which nothing is known, so that its direction is taken to be to send
abbrev pub rings_unknown : {B : Type 0} → Uart16550Ring B → Direction → HalfDuplexRing B
rings_unknown ring direction = record { ring = ring; direction = direction; is_sending = true }

-- `new`: as `try_finish` of rings of whose direction nothing is known, so that it is taken to be to send. If that
-- fails, the rings are returned
abbrev pub RingBegins : {B : Type 0} → (B → Access → B → Type 0) → Uart16550Ring B → Direction →
    Result (HalfDuplexRing B) (Refused (Uart16550Ring B) BusyError) → Type 0
RingBegins step ring direction (Ok bus) =
    RingBusDid step (RingTriesToFinish {T = Unit {0}} (Ok tt)) (rings_unknown ring direction) bus
RingBegins step ring direction (Err refused) =
    RingBusDid step (RingTriesToFinish {T = Unit {0}} (Err refused.cause)) (rings_unknown ring direction)
    (rings_unknown refused.given direction)

-- `queue`: while the direction is to send, a `queue` of the rings; else nothing, and the error
abbrev pub RingQueues : List ℕ → Result ℕ NotSendingError → RingBusDoing
RingQueues bytes (Ok count) f l after = (f.sends ≡ true) × OnRings (Queues bytes count) same f l after
RingQueues bytes (Err e) f l after = (f.sends ≡ false) × RingStays f l after

-- rings at a bus that receives
abbrev pub rings_receiving : {B : Type 0} → Uart16550Ring B → Direction → HalfDuplexRing B
rings_receiving ring direction = record { ring = ring; direction = direction; is_sending = false }

-- `give_up`: a `take_line` of the rings, the transceiver is switched to receive, whatever LSR shows, and the bytes of
-- the transmit ring are dropped
abbrev pub RingGivesUp : (status : ℕ) → RingBusDoing
RingGivesUp status f l after = (dropped : ℕ)
    × Next (Next (OnRings (TakesLine status) same) (RingTurns false)) (OnRings (ClearsTransmit dropped) same) f l after

-- ---- what all calls keep

-- the calls of rings at a bus that make accesses, but for `give_up`, after which there is no bus. A `take_with_errors`
-- is a `take`
pub data RingBusCall : Type 0 where
  start_sending try_finish is_idle take_line clear_transmit clear_receive : RingBusCall
  queue : (bytes : List ℕ) → RingBusCall
  take : (slots : ℕ) → RingBusCall
  handle : (limit : ℕ) → RingBusCall
  try_handle : (limit rounds : ℕ) → RingBusCall
  restart : (interrupts : ℕ) → RingBusCall

-- what a call did, whatever it returned
abbrev pub DoesRingCall : RingBusCall → RingBusDoing
DoesRingCall start_sending f l after = RingTurns true f l after
DoesRingCall try_finish f l after = (result : Result (Unit {0}) BusyError) × RingTriesToFinish result f l after
DoesRingCall is_idle f l after = (idle : Bool) × RingLooks idle f l after
DoesRingCall clear_transmit f l after = (count : ℕ) × OnRings (ClearsTransmit count) same f l after
DoesRingCall clear_receive f l after = (count : ℕ) × OnRings (ClearsReceive count) same f l after
DoesRingCall take_line f l after = (line : ℕ) × OnRings (TakesLine line) same f l after
DoesRingCall (queue bytes) f l after = (result : Result ℕ NotSendingError) × RingQueues bytes result f l after
DoesRingCall (take slots) f l after = (bytes : List ℕ) × OnRings (TakesBytes slots bytes) same f l after
DoesRingCall (handle limit) f l after = (handled : Handled) × OnRings (Handles limit handled) same f l after
DoesRingCall (try_handle limit rounds) f l after =
    (result : Result Handled StuckError) × OnRings (TriesToHandle limit rounds result) same f l after
DoesRingCall (restart interrupts) f l after = OnRings (Restarts interrupts) same f l after

-- what calls did, one after another
abbrev pub DoesRingCalls : List RingBusCall → RingBusDoing
DoesRingCalls [] = RingStays
DoesRingCalls (call ∷ calls) = Next (DoesRingCall call) (DoesRingCalls calls)

-- while the direction is not to send, no byte waits
abbrev pub WaitsToSend : RingBusFields → Type 0
WaitsToSend f = f.sends ≡ false → waiting f.rings ≡ []

-- any calls, in any order, keep the direction: each byte that was queued is written while the transceiver sends, and
-- the bus is given back only if none waits
abbrev pub RingCallsKeepDirection : Type 0
RingCallsKeepDirection = (calls : List RingBusCall) (f : RingBusFields) (l : List Access) (after : RingBusFields) →
    DoesRingCalls calls f l after →
    -- while the direction is not to send, no byte waits
    WaitsToSend f →
    KeepsDirection f.direction f.sends l × (after.sends ≡ sends_after f.direction f.sends l) × WaitsToSend after

-- a `new` that succeeds, and then any calls, in any order, keep the direction, whatever it was before
abbrev pub RingKeepsFromNew : Type 0
RingKeepsFromNew = (d : Direction) (sends : Bool) (f : RingFields) (calls : List RingBusCall) (l m : List Access)
    (mid after : RingBusFields) →
    RingTriesToFinish {T = Unit {0}} (Ok tt) (record { rings = f; direction = d; sends = true }) l mid →
    DoesRingCalls calls mid m after →
    KeepsDirection d sends (l ++ m) × (after.sends ≡ sends_after d sends (l ++ m))

-- these accesses are a look at LSR, one at MCR, and a write of MCR by which the transceiver receives, and no byte of
-- the transmit ring is left
pub record RingFreesBus (d : Direction) (l : List Access) (after : RingBusFields) : Type 0 where
  pub frees : FreesBus d l
  pub none : after.rings.transmit.items ≡ []

-- a `give_up` of rings frees the bus, whatever the chip shows, and nothing of what was queued is sent later
abbrev pub RingGivingUpFrees : Type 0
RingGivingUpFrees = (status : ℕ) (f : RingBusFields) (l : List Access) (after : RingBusFields) →
    -- LSR is read, the transceiver is switched to receive, and the transmit ring is emptied
    RingGivesUp status f l after → RingFreesBus f.direction l after
