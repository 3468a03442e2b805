-- What is done at a bus, one call after another.
use Rattle.std.proofs.Common.{◌≡◌, ◌++◌, ◌∙◌, ℕ, false, List, Err, refl, ap, subst}
use Rattle.uart_spec.specs.declared.access.Access.{Access}
use Rattle.uart_16550.specs.Driver.{Did, Doing, Made, Next, Saving, fields}
use Rattle.uart_16550.specs.Grammar.{Language}
use Rattle.uart_16550.specs.declared.driver.Uart16550.{Uart16550}
use Rattle.uart_16550.proofs.Doings.{did_made}
use Rattle.uart_16550.proofs.Paths.{path_then}
use Rattle.uart_rs485.specs.Bus.{BusDid, BusDoing, BusFields, GivesUp, OnDriver, TriesToFinish, bus_backend_of, bus_fields}
use Rattle.uart_rs485.specs.Bus.{receiving, unchanged, unknown, with_driver}
use Rattle.uart_rs485.specs.declared.bus.HalfDuplex.{HalfDuplex}
use Rattle.uart_rs485.specs.declared.direction.Direction.{Direction}
use Rattle.uart_rs485.specs.declared.errors.BusyError.{BusyError}

-- the driver did this, and the other fields changed so
pub bus_did : {B : Type 0} {step : B → Access → B → Type 0} {G : Doing} (change : BusFields → BusFields) (a b : HalfDuplex B) →
    Did step G a.uart b.uart → bus_fields b ≡ with_driver (fields b.uart) (change (bus_fields a)) → BusDid step (OnDriver G change) a b
bus_did change a b p same = record { list = p.list; path = p.path; does = (p.does, same) }

-- the driver made this and saved it, and of the other fields none changed
pub bus_made : {B : Type 0} {step : B → Access → B → Type 0} {L : Language} (a b : HalfDuplex B) → Made step L a.uart b.uart →
    b.direction ≡ a.direction → b.is_sending ≡ a.is_sending → BusDid step (OnDriver (Saving L) unchanged) a b
bus_made a b p direction sends =
    bus_did unchanged a b (did_made p) (λ i. record { driver = fields b.uart; direction = direction i; sends = sends i })

-- one doing and then another
pub bus_then : {B : Type 0} {step : B → Access → B → Type 0} {G H : BusDoing} {a b c : HalfDuplex B} → BusDid step G a b →
    BusDid step H b c → BusDid step (Next G H) a c
bus_then {step} {a} {b} {c} p q = record {
  list = p.list ++ q.list;
  path = path_then step (bus_backend_of a) (bus_backend_of b) (bus_backend_of c) p.list q.list p.path q.path;
  does = record { front = p.list; back = q.list; mid = bus_fields b; whole = refl; first = p.does; second = q.does };
}

-- what is done is among more
pub bus_among : {B : Type 0} {step : B → Access → B → Type 0} {G H : BusDoing} {a b : HalfDuplex B} →
    ((l : List Access) → G (bus_fields a) l (bus_fields b) → H (bus_fields a) l (bus_fields b)) → BusDid step G a b → BusDid step H a b
bus_among h p = record { list = p.list; path = p.path; does = h p.list p.does }

-- a driver that is returned since its transmitter is not empty
pub refused : {B : Type 0} {step : B → Access → B → Type 0} (driver : Uart16550 B) (direction : Direction) (e : BusyError)
    (b : HalfDuplex B) → BusDid step (TriesToFinish {T = Unit {0}} (Err e)) (unknown driver direction) b →
    BusDid step (TriesToFinish {T = Unit {0}} (Err e)) (unknown driver direction) (unknown b.uart direction)
refused driver direction e b p =
    let old = bus_fields (unknown driver direction) in
    let same : bus_fields b ≡ bus_fields (unknown b.uart direction) = p.does.1 in
    let P : BusFields → Type 0 = λ f. TriesToFinish {T = Unit {0}} (Err e) old p.list f in
    record { list = p.list; path = p.path; does = subst P same p.does }

-- a driver that is returned by `give_up`
pub given_up : {B : Type 0} {step : B → Access → B → Type 0} (status : ℕ) (a b : HalfDuplex B) → BusDid step (GivesUp status) a b →
    BusDid step (GivesUp status) a (receiving b.uart a.direction)
given_up status a b p =
    let way : p.does.mid.direction ≡ a.direction = ap (λ (f : BusFields). f.direction) p.does.first.1 in
    let same : bus_fields b ≡ bus_fields (receiving b.uart a.direction) =
    p.does.second.1 ∙ ap (λ (d : Direction). record { driver = fields b.uart; direction = d; sends = false }) way in
    let P : BusFields → Type 0 = λ f. GivesUp status (bus_fields a) p.list f in
    record { list = p.list; path = p.path; does = subst P same p.does }
