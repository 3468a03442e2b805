-- What is done by rings at a bus, one call after another.
use Rattle.std.proofs.Common.{◌≡◌, ◌++◌, ◌∙◌, ℕ, Bool, false, List, [], ◌∷◌, Option, Some, None, length, refl, ap, subst, is_some, arith}
use Rattle.std.specs.Prelude.{option_to_list}
use Rattle.uart_spec.specs.declared.access.Access.{Access}
use Rattle.uart_16550.specs.Driver.{Made, Next, Saving, fields}
use Rattle.uart_16550.specs.Grammar.{Language}
use Rattle.uart_16550.proofs.Doings.{did_made}
use Rattle.uart_16550.proofs.Paths.{path_then}
use Rattle.uart_ring.specs.Ring as rings
use Rattle.uart_ring.specs.Ring.{ring_backend_of, ring_fields}
use Rattle.uart_ring.specs.Status.{TakesLine}
use Rattle.uart_ring.specs.Transmit.{ClearsTransmit}
use Rattle.uart_rs485.specs.Rings.{OfDriver, OnRings, RingBusDid, RingBusDoing, RingBusFields, RingGivesUp, RingTurns, ring_bus_fields}
use Rattle.uart_rs485.specs.Rings.{rings_receiving, same, with_rings}
use Rattle.uart_rs485.specs.declared.direction.Direction.{Direction}
use Rattle.uart_rs485.specs.declared.rings.HalfDuplexRing.{HalfDuplexRing}

-- the driver under the rings made this and saved it, and of the other fields only this changed
pub ring_made : {B : Type 0} {step : B → Access → B → Type 0} {L : Language} (change : RingBusFields → RingBusFields)
    (a b : HalfDuplexRing B) → Made step L a.ring.uart b.ring.uart →
    ring_fields b.ring ≡ rings.with_driver (fields b.ring.uart) (ring_fields a.ring) →
    ring_bus_fields b ≡ with_rings (ring_fields b.ring) (change (ring_bus_fields a)) →
    RingBusDid step (OnRings (OfDriver (Saving L)) change) a b
ring_made change a b p held others =
    let did = did_made p in record { list = did.list; path = did.path; does = ((did.does, held), others) }

-- one doing and then another
pub ring_bus_then : {B : Type 0} {step : B → Access → B → Type 0} {G H : RingBusDoing} {a b c : HalfDuplexRing B} →
    RingBusDid step G a b → RingBusDid step H b c → RingBusDid step (Next G H) a c
ring_bus_then {step} {a} {b} {c} p q = record {
  list = p.list ++ q.list;
  path = path_then step (ring_backend_of a.ring) (ring_backend_of b.ring) (ring_backend_of c.ring) p.list q.list p.path q.path;
  does = record { front = p.list; back = q.list; mid = ring_bus_fields b; whole = refl; first = p.does; second = q.does };
}

-- what is done is among more
pub ring_bus_among : {B : Type 0} {step : B → Access → B → Type 0} {G H : RingBusDoing} {a b : HalfDuplexRing B} →
    ((l : List Access) → G (ring_bus_fields a) l (ring_bus_fields b) → H (ring_bus_fields a) l (ring_bus_fields b)) →
    RingBusDid step G a b → RingBusDid step H a b
ring_bus_among h p = record { list = p.list; path = p.path; does = h p.list p.does }

-- no byte waits
pub nothing_waits : (urgent : Option ℕ) (items : List ℕ) → length items ≡ 0 → is_some urgent ≡ false → option_to_list urgent ++ items ≡ []
nothing_waits None [] none not_urgent = refl
nothing_waits (Some byte) items none not_urgent = absurd cc
nothing_waits None (byte ∷ items) none not_urgent = absurd (omega (arith, none))

-- rings that are returned by `give_up`
pub rings_given_up : {B : Type 0} {step : B → Access → B → Type 0} (status dropped : ℕ) (a b : HalfDuplexRing B) →
    RingBusDid step (Next (Next (OnRings (TakesLine status) same) (RingTurns false)) (OnRings (ClearsTransmit dropped) same)) a b →
    RingBusDid step (RingGivesUp status) a (rings_receiving b.ring a.direction)
rings_given_up status dropped a b p =
    let first = p.does.first in
    let way : b.direction ≡ a.direction = ap (λ (f : RingBusFields). f.direction) p.does.second.1
    ∙ (ap (λ (f : RingBusFields). f.direction) first.second.1 ∙ ap (λ (f : RingBusFields). f.direction) first.first.1) in
    let off : b.is_sending ≡ false = ap (λ (f : RingBusFields). f.sends) p.does.second.1
    ∙ ap (λ (f : RingBusFields). f.sends) first.second.1 in
    let is : ring_bus_fields b ≡ ring_bus_fields (rings_receiving b.ring a.direction) =
    λ i. record { rings = ring_fields b.ring; direction = way i; sends = off i } in
    let P : RingBusFields → Type 0 = λ f. RingGivesUp status (ring_bus_fields a) p.list f in
    record { list = p.list; path = p.path; does = subst P is (dropped, p.does) }
