-- Whether shared rings are in use, and that no handler is forgotten which came meanwhile.
use Rattle.std.specs.Prelude.{◌≡◌, Bool, true, false, not, ◌&&◌, ◌||◌, List, [], ◌∷◌, if◌then◌else◌}
use Rattle.uart_waits.specs.declared.occupancy.Occupancy.{Occupancy}

-- somebody came: who comes while the rings are taken is refused, and a handler leaves a mark; a handler that is let in
-- takes the mark
abbrev pub entered : (is_handler : Bool) → Occupancy → Occupancy
entered is_handler o = record {
  is_taken = true;
  is_owed = if o.is_taken then (o.is_owed || is_handler) else (o.is_owed && not is_handler);
}

-- who uses the rings is done: they are free, unless there is a mark, which goes
abbrev pub left : Occupancy → Occupancy
left o = record { is_taken = o.is_owed; is_owed = false }

-- who uses the rings went in the middle: they are free, and a mark stays
abbrev pub abandoned : Occupancy → Occupancy
abandoned o = record { is_taken = false; is_owed = o.is_owed }

-- ---- what happens, one after another

-- somebody comes, a handler or not; who uses the rings is done, or goes in the middle
pub data Event : Type 0 where
  comes : (is_handler : Bool) → Event
  is_done goes : Event

abbrev pub after : Occupancy → Event → Occupancy
after o (Event.comes is_handler) = entered is_handler o
after o Event.is_done = left o
after o Event.goes = abandoned o

abbrev pub after_all : Occupancy → List Event → Occupancy
after_all o [] = o
after_all o (event ∷ events) = after_all (after o event) events

-- whether a handler came for which nobody has begun to serve: one that is refused did. One that is let in serves, and
-- who is done and finds a mark
abbrev pub unserved : (before : Bool) → Occupancy → Event → Bool
unserved before o (Event.comes true) = o.is_taken
unserved before o (Event.comes false) = before
unserved before o Event.is_done = not o.is_owed && before
unserved before o Event.goes = before

abbrev pub unserved_all : (before : Bool) → Occupancy → List Event → Bool
unserved_all before o [] = before
unserved_all before o (event ∷ events) = unserved_all (unserved before o event) (after o event) events

-- there is a mark exactly if a handler came for which nobody has begun to serve
abbrev pub MarksTell : Type 0
MarksTell = (o : Occupancy) (events : List Event) → unserved_all o.is_owed o events ≡ (after_all o events).is_owed

-- who is done and leaves the rings free leaves no handler unserved
abbrev pub LeavesNoneBehind : Type 0
LeavesNoneBehind = (o : Occupancy) (events : List Event) →
    -- who is done leaves the rings free
    (left (after_all o events)).is_taken ≡ false →
    unserved_all o.is_owed o events ≡ false

-- who comes after one that went in the middle does not leave before what was unserved is served
abbrev pub NextServes : Type 0
NextServes = (o : Occupancy) (events : List Event) →
    -- a handler came for which nobody has begun to serve
    unserved_all o.is_owed o events ≡ true →
    (left (entered false (abandoned (after_all o events)))).is_taken ≡ true
