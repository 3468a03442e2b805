-- What the rings do, one after another.
use Rattle.std.proofs.Common.{◌≡◌, ◌+◌, ℕ, zero, suc, Bool, List, [], ◌++◌, refl, sym, subst, add-one, append_assoc, append-nil}
use Rattle.uart_spec.specs.Access.{Path}
use Rattle.uart_spec.specs.declared.access.Access.{Access}
use Rattle.uart_16550.specs.Driver.{Did, Doing, fields}
use Rattle.uart_16550.proofs.Paths.{path_then}
use Rattle.uart_ring.specs.Ring.{RingFields, RingDoing, RingDid, ring_fields, ring_backend_of, OnDriver, Stays, RingSets, RingNext}
use Rattle.uart_ring.specs.Ring.{with_driver}
use Rattle.uart_ring.specs.Service.{ServesOne, ServesTimes}
use Rattle.uart_ring.specs.declared.ring.Uart16550Ring.{Uart16550Ring}

-- the driver did this, and the other fields changed so
pub ring_did : {B : Type 0} {step : B → Access → B → Type 0} {G : Doing} (change : RingFields → RingFields) (a b : Uart16550Ring B) →
    Did step G a.uart b.uart → ring_fields b ≡ with_driver (fields b.uart) (change (ring_fields a)) → RingDid step (OnDriver G change) a b
ring_did change a b p same = record { list = p.list; path = p.path; does = (p.does, same) }

-- one doing and then another
pub ring_then : {B : Type 0} {step : B → Access → B → Type 0} {G H : RingDoing} {a b c : Uart16550Ring B} → RingDid step G a b →
    RingDid step H b c → RingDid step (RingNext G H) a c
ring_then {step} {a} {b} {c} p q = record {
  list = p.list ++ q.list;
  path = path_then step (ring_backend_of a) (ring_backend_of b) (ring_backend_of c) p.list q.list p.path q.path;
  does = record { front = p.list; back = q.list; mid = ring_fields b; whole = refl; first = p.does; second = q.does };
}

-- what is done is among more
pub ring_among : {B : Type 0} {step : B → Access → B → Type 0} {G H : RingDoing} {a b : Uart16550Ring B} →
    ((l : List Access) → G (ring_fields a) l (ring_fields b) → H (ring_fields a) l (ring_fields b)) → RingDid step G a b →
    RingDid step H a b
ring_among h p = record { list = p.list; path = p.path; does = h p.list p.does }

-- nothing at all
pub ring_none : {B : Type 0} {step : B → Access → B → Type 0} {a : Uart16550Ring B} → RingDid step Stays a a
ring_none = record { list = []; path = refl; does = (refl, refl) }

-- the fields are changed
pub ring_set : {B : Type 0} {step : B → Access → B → Type 0} (change : RingFields → RingFields) (a b : Uart16550Ring B) →
    ring_backend_of b ≡ ring_backend_of a → ring_fields b ≡ change (ring_fields a) → RingDid step (RingSets change) a b
ring_set change a b same set = record { list = []; path = same; does = (refl, set) }

-- what is done by rings whose fields were changed before
pub ring_from : {B : Type 0} {step : B → Access → B → Type 0} {G H : RingDoing} {a c : Uart16550Ring B} (b : Uart16550Ring B) →
    ring_backend_of a ≡ ring_backend_of b →
    ((l : List Access) → G (ring_fields b) l (ring_fields c) → H (ring_fields a) l (ring_fields c)) → RingDid step G b c →
    RingDid step H a c
ring_from {B} {step} {a} {c} b same h p = record {
  list = p.list;
  path = let P : B → Type 0 = λ x. Path step x p.list (ring_backend_of c) in subst P (sym same) p.path;
  does = h p.list p.does;
}

-- one interrupt more was served
times_more : (sends : Bool) (n : ℕ) (room next left : Bool) (f g h : RingFields) (l m : List Access) →
    ServesTimes sends n room next f l g → ServesOne sends next left g m h → ServesTimes sends (n + 1) room left f (l ++ m) h
times_more sends zero room next left f g h l m p q =
    let same : f ≡ g = sym p.1.1 in
    let D : RingFields → Type 0 = λ e. ServesOne sends room left e m h in
    let N : Bool → Type 0 = λ r. ServesOne sends r left g m h in
    rw p.1.0 (
      left,
      record {
        front = m;
        back = [];
        mid = h;
        whole = sym (append-nil m);
        first = subst D (sym same) (subst N p.0 q);
        second = (refl, (refl, refl));
      },
    )
times_more sends (suc n) room next left f g h l m (first, p) q =
    let rest = times_more sends n first next left p.mid g h p.back m p.second q in
    rw (add-one (suc n)) (
      first,
      record {
        front = p.front;
        back = p.back ++ m;
        mid = p.mid;
        whole = rw p.whole (append_assoc p.front p.back m);
        first = p.first;
        second = rw (add-one n) at rest;
      },
    )

pub ring_times : {B : Type 0} {step : B → Access → B → Type 0} (sends : Bool) (n : ℕ) (room next left : Bool) {a b c : Uart16550Ring B} →
    RingDid step (ServesTimes sends n room next) a b → RingDid step (ServesOne sends next left) b c →
    RingDid step (ServesTimes sends (n + 1) room left) a c
ring_times sends n room next left {a} {b} {c} p q =
    ring_among (λ l t. let mid = t.mid in
    rw t.whole (times_more sends n room next left (ring_fields a) mid (ring_fields c) t.front t.back t.first t.second))
    (ring_then p q)

-- what comes after two comes after the second of them
pub then_later : (G H K : RingDoing) (f : RingFields) (l : List Access) (a : RingFields) → RingNext (RingNext G H) K f l a →
    RingNext G (RingNext H K) f l a
then_later G H K f l a t = record {
  front = t.first.front;
  back = t.first.back ++ t.back;
  mid = t.first.mid;
  whole = rw (t.whole, t.first.whole) (append_assoc t.first.front t.first.back t.back);
  first = t.first.first;
  second = record { front = t.first.back; back = t.back; mid = t.mid; whole = refl; first = t.first.second; second = t.second };
}
