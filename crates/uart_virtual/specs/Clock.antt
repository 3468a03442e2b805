-- A monitor with a clock: which signals it may put off, and that nobody waits for ever.
use Rattle.std.specs.Prelude.{◌≡◌, ℕ, ◌+◌, ◌≤◌, Bool, true, false, not, ◌&&◌, ◌||◌, List, [], ◌∷◌, ◌++◌}
use Rattle.std.specs.Prelude.{◌⊎◌, ◌==◌, if◌then◌else◌}
use Rattle.uart_chip.specs.Chip.{ticks}
use Rattle.uart_spec.specs.declared.registers.offsets.TheConstants as offsets
use Rattle.uart_virtual.specs.declared.told.Todo.{Todo}
use Rattle.uart_virtual.specs.Port.{PortState, PortCall, Read, Write, after, todo, happen, brings, moves_data}
use Rattle.uart_virtual.specs.Port.{stays_up, is_up, has_room, IsTold, IsPort}

-- A call lets time pass that a real line would still take. So the guest's access of DATA can take the line up before a
-- real one would rise: a reception timeout is due at once for what is left in the FIFO, and a transmitter is empty
-- again. A monitor with a clock may put such a signal off until the time has passed. Most guests have done by then what
-- it would call them for.

-- the signal that this call asks for can wait: the guest reads DATA, and the line was up before; or it writes DATA
abbrev pub can_wait : PortCall → Todo → Bool
can_wait (Read offset) t = (offset == offsets.DATA) && (t.signal && not t.has_moved)
can_wait (Write offset value) t = (offset == offsets.DATA) && t.signal
can_wait _ t = false

-- what is left to be done now: all of it, but for a signal that is put off
abbrev pub todo_now : (waits : Bool) → Todo → Todo
todo_now waits t = record t { signal = t.signal && not waits }

-- the guest is owed a signal after a call: one is put off now; or none is given, one was put off before, and the line
-- is still up
abbrev pub owed_after : (was_owed waits : Bool) → Todo → Bool
owed_after was_owed waits t = t.level && (if t.signal then waits else was_owed)

-- what happens to a port whose monitor has a clock: a call, whose signal the monitor puts off, if it can wait, or does
-- not; and the time passes for which signals are put off
pub data Event : Type 0 where
  Call : (puts_off : Bool) (call : PortCall) → Event
  TimePasses : Event

-- a port, and whether its monitor owes the guest a signal that it put off
pub record Clocked : Type 0 where
  pub port : PortState
  pub is_owed : Bool

-- the signal that this call asks for is put off
abbrev pub is_put_off : (puts_off : Bool) → PortCall → Clocked → Bool
is_put_off puts_off call m = puts_off && can_wait call (todo call m.port)

-- the guest's interrupt is signalled: the call asks for it, and it is not put off; or the time has passed, and a signal
-- is owed
abbrev pub is_given : Event → Clocked → Bool
is_given (Call puts_off call) m = (todo call m.port).signal && not (is_put_off puts_off call m)
is_given TimePasses m = m.is_owed

-- the port after this event, and what is owed then
abbrev pub after_event : Event → Clocked → Clocked
after_event (Call puts_off call) m =
    record {
      port = after call m.port;
      is_owed = owed_after m.is_owed (is_put_off puts_off call m) (todo call m.port);
    }
after_event TimePasses m = record m { is_owed = false }

-- after these events in turn
abbrev pub after_events : List Event → Clocked → Clocked
after_events [] m = m
after_events (event ∷ events) m = after_events events (after_event event m)

-- the guest's interrupt is signalled in one of these events
abbrev pub some_given : List Event → Clocked → Bool
some_given [] m = false
some_given (event ∷ events) m = is_given event m || some_given events (after_event event m)

-- ---- laws

-- Nobody waits for ever. If no signal covers others, as after each read of ISR, and later the line is down at any
-- moment of a call, and still later it is up: then a signal was given on the way, or it is given as soon as the time
-- passes, whatever the monitor puts off
abbrev pub NobodyWaitsForEver : Type 0
NobodyWaitsForEver =
    (before later : List Event) (puts_off : Bool) (call : PortCall) (n : ℕ) (m : Clocked) →
    let here = after_events before m in
    -- no signal covers others at first
    m.port.told.spare ≡ 0 → IsPort here.port →
    -- the line is down at a moment of the call
    is_up (ticks n (happen call here.port.chip)) ≡ false →
    -- it is up later
    is_up (after_events later (after_event (Call puts_off call) here)).port.chip ≡ true →
    some_given (before ++ (Call puts_off call ∷ later ++ TimePasses ∷ [])) m ≡ true

-- a line that is down between two events, and up between later ones: a signal was given in between, or it is given as
-- soon as the time passes
abbrev pub EachRiseIsGiven : Type 0
EachRiseIsGiven =
    (events : List Event) (m : Clocked) → IsTold m.port →
    -- the line is down at first
    is_up m.port.chip ≡ false →
    -- it is up in the end
    is_up (after_events events m).port.chip ≡ true → some_given (events ++ TimePasses ∷ []) m ≡ true

-- the guest writes DATA
abbrev pub writes_data : PortCall → Bool
writes_data (Write offset value) = offset == offsets.DATA
writes_data _ = false

-- a rise from call to call is signalled at once, unless the guest writes DATA, and the monitor puts that off
abbrev pub ARiseIsGivenAtOnce : Type 0
ARiseIsGivenAtOnce =
    (puts_off : Bool) (call : PortCall) (m : Clocked) → IsTold m.port → is_up m.port.chip ≡ false →
    is_up (after call m.port).chip ≡ true →
    (is_given (Call puts_off call) m ≡ true) ⊎ ((puts_off ≡ true) × (writes_data call ≡ true))

-- the monitor puts nothing off while the guest reads or writes DATA in these events, so it puts nothing off at all
abbrev pub none_waits : List Event → Bool
none_waits [] = true
none_waits (Call puts_off call ∷ events) = not (puts_off && moves_data call) && none_waits events
none_waits (TimePasses ∷ events) = none_waits events

-- A guest that looks until it sees no interrupt, and then returns, needs no clock. If the line is down, as it is after
-- such a look, and up later, then a signal was given in between, though no time passes
abbrev pub ALookIsEnough : Type 0
ALookIsEnough =
    (events : List Event) (m : Clocked) → IsTold m.port →
    -- in between the guest makes no access of DATA whose signal the monitor puts off
    none_waits events ≡ true →
    -- the line is down at first
    is_up m.port.chip ≡ false →
    -- it is up in the end
    is_up (after_events events m).port.chip ≡ true → some_given events m ≡ true

-- input that leaves no room is signalled at once, if the line is up when the call ends. So no guest is without a signal
-- for good while input comes
abbrev pub AFullFifoIsGiven : Type 0
AFullFifoIsGiven =
    (puts_off : Bool) (call : PortCall) (m : Clocked) →
    -- the call brings input
    brings call m.port.chip ≡ true →
    -- the line is up when it ends
    is_up (after call m.port).chip ≡ true →
    -- no room is left then
    has_room (after call m.port).chip ≡ false →
    is_given (Call puts_off call) m ≡ true

-- what can wait is a signal for what time brings: right after the access the line was down (a write in loopback counts
-- as such), and the time that passes in the call took it up
abbrev pub WhatCanWaitIsTime : Type 0
WhatCanWaitIsTime =
    (call : PortCall) (p : PortState) → IsTold p →
    -- the signal can wait
    can_wait call (todo call p) ≡ true →
    (stays_up call (happen call p.chip) ≡ false) × (is_up (after call p).chip ≡ true)

-- what is known of a port whose monitor has a clock: the monitor was told what is so, and owes a signal only while the
-- line is up
pub record IsClocked (m : Clocked) : Type 0 where
  pub told : IsTold m.port
  pub owes : m.is_owed ≡ true → is_up m.port.chip ≡ true

-- that stays so
abbrev pub ClockedStays : Type 0
ClockedStays = (events : List Event) (m : Clocked) → IsClocked m → IsClocked (after_events events m)

-- a signal is given only while the line is up, and nothing is owed after the time has passed
abbrev pub GivenWhileUp : Type 0
GivenWhileUp =
    (event : Event) (m : Clocked) → IsClocked m → is_given event m ≡ true →
    (is_up (after_event event m).port.chip ≡ true) × ((after_event event m).is_owed ≡ false)

-- how many signals are given
abbrev pub given : List Event → Clocked → ℕ
given [] m = 0
given (event ∷ events) m = (if is_given event m then 1 else 0) + given events (after_event event m)

-- how many signals these events ask for
abbrev pub asked : List Event → Clocked → ℕ
asked [] m = 0
asked (Call puts_off call ∷ events) m =
    (if (todo call m.port).signal then 1 else 0) + asked events (after_event (Call puts_off call) m)
asked (TimePasses ∷ events) m = asked events (after_event TimePasses m)

-- a clock adds no signal: a monitor gives at most as many as its port asks for, and one that was owed before
abbrev pub AClockAddsNone : Type 0
AClockAddsNone =
    (events : List Event) (m : Clocked) → given events m ≤ asked events m + (if m.is_owed then 1 else 0)
