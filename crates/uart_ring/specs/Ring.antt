-- The rings over a driver: their contents, and what a ring call does to them and to the backend.
use Rattle.std.specs.Prelude.{◌≡◌, ◌≤◌, ◌==◌, ◌-◌, ◌&&◌, ◌||◌, ◌+◌, ℕ, zero, suc, nat_lt, nat_le, min, Bool, false}
use Rattle.std.specs.Prelude.{List, []}
use Rattle.std.specs.Prelude.{◌++◌, length, drop, Option, Some, None, if◌then◌else◌}
use Rattle.std.specs.Prelude.{option_to_list}
use Rattle.uart_spec.specs.Access.{Path}
use Rattle.uart_spec.specs.declared.access.Access.{Access}
use Rattle.uart_16550.specs.Driver.{Fields, Doing, Next, fields, backend_of}
use Rattle.uart_16550.specs.declared.driver.Uart16550.{Uart16550}
use Rattle.uart_ring.specs.Queue.{Queue, queue}
use Rattle.uart_ring.specs.declared.ring.TheConstants.{MAX_CAPACITY}
use Rattle.uart_ring.specs.declared.ring.Uart16550Ring.{Uart16550Ring}
use Rattle.uart_ring.specs.declared.ring.storm.StuckError.{StuckError}

-- how many bytes a ring can be made for: 1 to 4096
abbrev pub IsCapacity : ℕ → Type 0
IsCapacity capacity = (1 ≤ capacity) × (capacity ≤ MAX_CAPACITY)

-- how many more bytes a ring has room for
abbrev pub free : Queue → ℕ
free ring = ring.capacity - length ring.items

-- the ring has no more room
abbrev pub is_full : Queue → Bool
is_full ring = length ring.items == ring.capacity

-- the ring with these bytes at its end
abbrev pub with_last : List ℕ → Queue → Queue
with_last bytes ring = queue (ring.items ++ bytes) ring.capacity

-- the ring without n bytes at its front
abbrev pub without_first : ℕ → Queue → Queue
without_first count ring = queue (drop count ring.items) ring.capacity

-- the driver under the rings
abbrev pub driver_of : {B : Type 0} → Uart16550Ring B → Uart16550 B
driver_of r = r.uart

-- the backend under the driver
abbrev pub ring_backend_of : {B : Type 0} → Uart16550Ring B → B
ring_backend_of r = backend_of r.uart

-- rings without their backend
pub record RingFields : Type 0 where
  pub driver : Fields
  pub transmit : Queue
  pub receive : Queue
  -- the bits that were noted of LSR, and of MSR
  pub line : ℕ
  pub modem : ℕ
  -- whether receiving is paused
  pub is_paused : Bool
  -- the urgent byte that waits, and whether the transmit ring is held
  pub urgent : Option ℕ
  pub is_held : Bool
  -- whether `adjust_xoff` told the other end XOFF, and not XON since
  pub has_told_xoff : Bool
  -- at how many bytes at the end of the receive ring `obey_xoff` has not looked: at all of them, if there are fewer
  pub unlooked : ℕ
  -- the low mark, and whether the transmit ring fell to it
  pub low_mark : ℕ
  pub is_low : Bool
  -- how many rounds in a row were left unfinished, and why the chip is stuck
  pub rounds : ℕ
  pub stuck : Option StuckError

-- what these rings hold beside their backend
abbrev pub ring_fields : {B : Type 0} → Uart16550Ring B → RingFields
ring_fields r = record {
  driver = fields r.uart;
  transmit = r.transmit;
  receive = r.receive;
  line = r.line.0;
  modem = r.modem.0;
  is_paused = r.is_paused;
  urgent = r.urgent;
  is_held = r.is_held;
  has_told_xoff = r.has_told_xoff;
  unlooked = r.unlooked;
  low_mark = r.low_mark;
  is_low = r.is_low;
  rounds = r.rounds;
  stuck = r.stuck;
}

-- the rings that hold this, over this driver
abbrev pub rings_over : {B : Type 0} → Uart16550 B → RingFields → Uart16550Ring B
rings_over driver f = record {
  uart = driver;
  transmit = f.transmit;
  receive = f.receive;
  line = record { 0 = f.line };
  modem = record { 0 = f.modem };
  is_paused = f.is_paused;
  urgent = f.urgent;
  is_held = f.is_held;
  has_told_xoff = f.has_told_xoff;
  unlooked = f.unlooked;
  low_mark = f.low_mark;
  is_low = f.is_low;
  rounds = f.rounds;
  stuck = f.stuck;
}

-- empty rings of these capacities over this driver, in which nothing is held, paused or stuck, and XOFF was never told
pub record AreEmpty {B : Type 0} (r : Uart16550Ring B) (driver : Uart16550 B) (transmit receive : ℕ) : Type 0 where
  pub uart : driver_of r ≡ driver
  pub begins : ring_fields r ≡ record {
    driver = fields driver;
    transmit = queue [] transmit;
    receive = queue [] receive;
    line = 0;
    modem = 0;
    is_paused = false;
    urgent = None;
    is_held = false;
    has_told_xoff = false;
    unlooked = 0;
    low_mark = 0;
    is_low = false;
    rounds = 0;
    stuck = None;
  }

-- ---- bytes that wait to be sent

-- in the order in which they are sent: the urgent byte, and then the transmit ring
abbrev pub waiting : RingFields → List ℕ
waiting f = option_to_list f.urgent ++ f.transmit.items

-- the bytes of a ring that may leave it: none while it is held
abbrev pub unless_held : Bool → List ℕ → List ℕ
unless_held is_held items = if is_held then [] else items

-- those of them that may be handed to the chip: none while the chip is stuck, and only the urgent byte while the ring
-- is held
abbrev pub allowed : Option StuckError → (is_held : Bool) → (urgent : Option ℕ) → (items : List ℕ) → List ℕ
allowed (Some error) is_held urgent items = []
allowed None is_held urgent items = option_to_list urgent ++ unless_held is_held items

abbrev pub sendable : RingFields → List ℕ
sendable f = allowed f.stuck f.is_held f.urgent f.transmit.items

-- what a ring call does: the fields before it, its accesses, and the fields after it
abbrev pub RingDoing : Type 1
RingDoing = RingFields → List Access → RingFields → Type 0

-- the ring call did this, on a path of the backend's steps
pub record RingDid {B : Type 0} (step : B → Access → B → Type 0) (G : RingDoing)
    (old new : Uart16550Ring B) : Type 0 where
  pub list : List Access
  pub path : Path step (ring_backend_of old) list (ring_backend_of new)
  pub does : G (ring_fields old) list (ring_fields new)

-- ---- changes of the fields

-- the fields as they are; with another driver
abbrev pub unchanged : RingFields → RingFields
unchanged f = f

abbrev pub with_driver : Fields → RingFields → RingFields
with_driver driver f = record f { driver = driver }

-- bytes are appended to the transmit ring
abbrev pub with_queued : List ℕ → RingFields → RingFields
with_queued bytes f = record f { transmit = with_last bytes f.transmit }

-- a number falls from above the mark to the mark or below
abbrev pub falls : (mark before after : ℕ) → Bool
falls mark before after = nat_lt mark before && nat_le after mark

-- the transmit ring has fewer bytes, and it is noted if it fell to the low mark
abbrev pub with_less : Queue → RingFields → RingFields
with_less ring f = record f {
  transmit = ring;
  is_low = f.is_low || falls f.low_mark (length f.transmit.items) (length ring.items);
}

-- the urgent byte that is left once so many bytes were sent, of which it is the first
abbrev pub urgent_left : (count : ℕ) → Option ℕ → Option ℕ
urgent_left zero urgent = urgent
urgent_left (suc n) urgent = None

-- the fields without so many of the bytes that wait
abbrev pub without_sent : ℕ → RingFields → RingFields
without_sent count f =
    with_less (without_first (count - length (option_to_list f.urgent)) f.transmit)
    (record f { urgent = urgent_left count f.urgent })

-- the same of rings over a driver
abbrev pub without_sent_bytes : {B : Type 0} → ℕ → Uart16550Ring B → Uart16550Ring B
without_sent_bytes count r =
    let left = without_sent count (ring_fields r) in
    record r { urgent = left.urgent; transmit = left.transmit; is_low = left.is_low }

-- the transmit ring without its bytes
abbrev pub cleared : RingFields → RingFields
cleared f = with_less (queue [] f.transmit.capacity) f

-- the fields with this urgent byte; with the transmit ring held or not; with XOFF told last or not; with this low mark;
-- with a fall noted or not
abbrev pub with_urgent : Option ℕ → RingFields → RingFields
with_urgent urgent f = record f { urgent = urgent }

abbrev pub with_hold : Bool → RingFields → RingFields
with_hold held f = record f { is_held = held }

abbrev pub with_told_xoff : Bool → RingFields → RingFields
with_told_xoff told f = record f { has_told_xoff = told }

abbrev pub with_low_mark : ℕ → RingFields → RingFields
with_low_mark mark f = record f { low_mark = mark }

abbrev pub with_low : Bool → RingFields → RingFields
with_low low f = record f { is_low = low }

-- the fields with so many rounds left unfinished; with a chip that is stuck for this reason; with one that is not
abbrev pub with_rounds : ℕ → RingFields → RingFields
with_rounds rounds f = record f { rounds = rounds }

abbrev pub with_stuck : StuckError → RingFields → RingFields
with_stuck error f = record f { rounds = 0; stuck = Some error }

abbrev pub restarted : RingFields → RingFields
restarted f = record f { rounds = 0; stuck = None }

-- bytes are appended to the receive ring, and `obey_xoff` has not looked at them; bytes are removed from its front when
-- they are taken
abbrev pub with_received : List ℕ → RingFields → RingFields
with_received bytes f = record f {
  receive = with_last bytes f.receive;
  unlooked = min f.unlooked (length f.receive.items) + length bytes;
}

abbrev pub without_taken : ℕ → RingFields → RingFields
without_taken count f = record f { receive = without_first count f.receive }

-- `obey_xoff` looked at all bytes of the receive ring
abbrev pub looked : RingFields → RingFields
looked f = record f { unlooked = 0 }

-- the fields with these bits of LSR noted; of MSR; with receiving paused or not
abbrev pub with_line : ℕ → RingFields → RingFields
with_line bits f = record f { line = bits }

abbrev pub with_modem : ℕ → RingFields → RingFields
with_modem bits f = record f { modem = bits }

abbrev pub with_paused : Bool → RingFields → RingFields
with_paused paused f = record f { is_paused = paused }

-- ---- how doings are put together

-- The contracts of ring calls are made of the driver's own calls, so no access is specified twice.

-- the driver does this, and of the other fields only this changes
abbrev pub OnDriver : Doing → (RingFields → RingFields) → RingDoing
OnDriver G change f l after = G f.driver l after.driver × (after ≡ with_driver after.driver (change f))

-- nothing at all
abbrev pub Stays : RingDoing
Stays f l after = (l ≡ []) × (after ≡ f)

-- no access, and this change of the fields
abbrev pub RingSets : (RingFields → RingFields) → RingDoing
RingSets change f l after = (l ≡ []) × (after ≡ change f)

-- the first, and then the second
abbrev pub RingNext : RingDoing → RingDoing → RingDoing
RingNext G H = Next G H

-- this if the count is more than 0, else nothing at all
abbrev pub IfAny : ℕ → RingDoing → RingDoing
IfAny zero G = Stays
IfAny (suc n) G = G
