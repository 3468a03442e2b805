-- What the output of the chip makes the transceiver do, at each moment of calls at a bus.
use Rattle.std.specs.Prelude.{◌≡◌, ◌≤◌, ℕ, Bool, true, false, not, ◌&&◌, List, [], ◌∷◌, Ok, if◌then◌else◌}
use Rattle.uart_spec.specs.Access.{Path}
use Rattle.uart_spec.specs.Bits.{has_any}
use Rattle.uart_spec.specs.declared.access.Access.{Access}
use Rattle.uart_spec.specs.declared.registers.modem_control.TheConstants.MCR
use Rattle.uart_16550.specs.Driver.{Fields}
use Rattle.uart_events.specs.declared.event.Event.{Event}
use Rattle.uart_events.specs.declared.event.Event.TheVariants.{Ticks, Access as Gate, Mark}
use Rattle.uart_chip.specs.Chip.{ChipState, is_loopback, is_transmitter_empty, rts_output, tick, ticks}
use Rattle.uart_chip.specs.Machine.{MachineState, MachineStep, perform}
use Rattle.uart_ring.specs.Ring.{RingFields}
use Rattle.uart_rs485.specs.Bus.{BusFields, GivesUp, TriesToFinish}
use Rattle.uart_rs485.specs.Directions.{drives_itself, sends_after_one, sends_by}
use Rattle.uart_rs485.specs.Laws.{BusCall, DoesCalls}
use Rattle.uart_rs485.specs.Rings.{DoesRingCalls, RingBusCall, RingBusFields, RingTriesToFinish, WaitsToSend}
use Rattle.uart_rs485.specs.declared.direction.Direction.{Direction}
use Rattle.uart_rs485.specs.declared.direction.DirectionLine.{DirectionLine}
use Rattle.uart_rs485.specs.declared.direction.DirectionLine.TheVariants.{Rts, Dtr}

-- ---- one moment

-- the output of this line, as the chip shows it: in loopback all outputs are off
abbrev pub output : DirectionLine → ChipState → Bool
output Rts c = not (is_loopback c.latches) && rts_output c
output Dtr c = not (is_loopback c.latches) && has_any c.latches.mcr MCR.DTR.0

-- whether the output makes the transceiver send
abbrev pub sends_by_output : Direction → ChipState → Bool
sends_by_output d c = if output d.line c then d.sends_when_set else not d.sends_when_set

-- whether no character is in the transmitter
abbrev pub is_sent : ChipState → Bool
is_sent c = is_transmitter_empty c.transmitter.queue c.transmitter.shift_register

-- the output makes the transceiver send, or receive, and it sends while a character is in the transmitter
pub record IsSwitched (d : Direction) (sends : Bool) (c : ChipState) : Type 0 where
  pub direction : sends_by_output d c ≡ sends
  -- the transceiver sends
  pub whole :
      -- a character is in the transmitter
      is_sent c ≡ false →
      sends_by_output d c ≡ true

-- ---- each moment

-- this holds at each moment up to an access: before each event, after each tick, and when the access is made
abbrev pub UpToAccess : (ChipState → Type 0) → List Event → ChipState → Type 0
UpToAccess P [] c = P c × P (tick c)
UpToAccess P (Gate ∷ events) c = P c
UpToAccess P (Mark ∷ events) c = P c × P (tick c)
UpToAccess P (Ticks n ∷ events) c = ((k : ℕ) → k ≤ n → P (ticks k c)) × UpToAccess P events (ticks n c)
UpToAccess P (event ∷ events) c = P c × UpToAccess P events (perform event c)

-- at each moment of these accesses the transceiver is switched as MCR was last written, whatever happens meanwhile; at
-- first it sends, or it does not
abbrev pub IsSwitchedThroughout : Direction → (sends : Bool) → (l : List Access) → (m n : MachineState) →
    Path MachineStep m l n → Type 0
IsSwitchedThroughout d sends [] m n path = IsSwitched d sends m.chip
IsSwitchedThroughout d sends (access ∷ l) m n path =
    UpToAccess (IsSwitched d sends) m.ahead m.chip
    × IsSwitchedThroughout d (sends_after_one d sends access) l path.0 n path.2

-- ---- calls

-- between calls at a bus: MCR says whether the transceiver sends, and nothing in the chip says otherwise; while it does
-- not, no character is in the transmitter
pub record IsAtBus (d : Direction) (sends : Bool) (c : ChipState) : Type 0 where
  -- MCR has the line as it is to be in this direction
  pub mcr : sends_by d c.latches.mcr ≡ sends
  -- the chip does not drive the line itself
  pub own : drives_itself d c.latches.mcr ≡ false
  -- loopback is off
  pub loopback : is_loopback c.latches ≡ false
  -- while the transceiver receives, no character is in the transmitter
  pub sent : sends ≡ false → is_sent c ≡ true

-- after a `new` that succeeds, whatever the chip was before, the transceiver receives
abbrev pub BeginsAtBus : Type 0
BeginsAtBus = (d : Direction) (driver : Fields) (l : List Access) (mid : BusFields) (m n : MachineState) →
    TriesToFinish {T = Unit {0}} (Ok tt) (record { driver = driver; direction = d; sends = true }) l mid →
    Path MachineStep m l n → IsAtBus d false n.chip

-- what happens between calls leaves a chip so
abbrev pub EventsStayAtBus : Type 0
EventsStayAtBus = (d : Direction) (sends : Bool) (event : Event) (c : ChipState) →
    IsAtBus d sends c → IsAtBus d sends (perform event c)

-- calls, in any order: the transceiver is switched as they ask for at each moment of each, and after them the bus is
-- taken to be sending exactly if it is
pub record HoldsBus (d : Direction) (before after : Bool) (l : List Access) (m n : MachineState)
    (path : Path MachineStep m l n) : Type 0 where
  -- at each moment
  pub throughout : IsSwitchedThroughout d before l m n path
  pub at_bus : IsAtBus d after n.chip

abbrev pub CallsHoldBus : Type 0
CallsHoldBus = (calls : List BusCall) (f after : BusFields) (l : List Access) (m n : MachineState) →
    DoesCalls calls f l after → (path : Path MachineStep m l n) → IsAtBus f.direction f.sends m.chip →
    HoldsBus f.direction f.sends after.sends l m n path

-- after a `give_up` the output makes the transceiver receive, whatever the chip was before
abbrev pub GivingUpReceives : Type 0
GivingUpReceives = (status : ℕ) (f after : BusFields) (l : List Access) (m n : MachineState) →
    -- LSR is read, and the transceiver is switched to receive
    GivesUp status f l after →
    Path MachineStep m l n → sends_by_output f.direction n.chip ≡ false

-- ---- calls of rings

-- after a `new` of rings at a bus that succeeds, whatever the chip was before, the transceiver receives
abbrev pub RingsBeginAtBus : Type 0
RingsBeginAtBus = (d : Direction) (f : RingFields) (l : List Access) (mid : RingBusFields) (m n : MachineState) →
    RingTriesToFinish {T = Unit {0}} (Ok tt) (record { rings = f; direction = d; sends = true }) l mid →
    Path MachineStep m l n → IsAtBus d false n.chip

-- calls of rings at a bus, in any order: the transceiver is switched as they ask for at each moment of each
abbrev pub RingCallsHoldBus : Type 0
RingCallsHoldBus = (calls : List RingBusCall) (f after : RingBusFields) (l : List Access) (m n : MachineState) →
    DoesRingCalls calls f l after →
    -- while the direction is not to send, no byte waits
    WaitsToSend f →
    (path : Path MachineStep m l n) → IsAtBus f.direction f.sends m.chip →
    HoldsBus f.direction f.sends after.sends l m n path
