-- No handler is forgotten that came while the rings were in use.
use Rattle.std.proofs.Common.{◌≡◌, Bool, true, false, [], ◌∷◌, refl, sym, ◌∙◌, ap, not, ◌&&◌, ◌||◌}
use Rattle.std.specs.Prelude.{if◌then◌else◌}
use Rattle.uart_waits.specs.Occupancy.{Event, LeavesNoneBehind, MarksTell, NextServes, after, after_all, unserved, unserved_all}
use Rattle.uart_waits.specs.declared.occupancy.Occupancy.{Occupancy}

handler : (taken owed : Bool) → taken ≡ (if taken then (owed || true) else (owed && false))
handler true true = refl
handler true false = refl
handler false true = refl
handler false false = refl

caller : (taken owed : Bool) → owed ≡ (if taken then (owed || false) else (owed && true))
caller true true = refl
caller true false = refl
caller false true = refl
caller false false = refl

done : (owed : Bool) → (not owed && owed) ≡ false
done true = refl
done false = refl

one : (o : Occupancy) (event : Event) → unserved o.is_owed o event ≡ (after o event).is_owed
one o (Event.comes true) = handler o.is_taken o.is_owed
one o (Event.comes false) = caller o.is_taken o.is_owed
one o Event.is_done = done o.is_owed
one o Event.goes = refl

pub marks_tell : MarksTell
marks_tell o [] = refl
marks_tell o (event ∷ events) =
    ap (λ (before : Bool). unserved_all before (after o event) events) (one o event) ∙ marks_tell (after o event) events

pub leaves_none_behind : LeavesNoneBehind
leaves_none_behind o events free = marks_tell o events ∙ free

pub next_serves : NextServes
next_serves o events owed = sym (caller false (after_all o events).is_owed) ∙ (sym (marks_tell o events) ∙ owed)
