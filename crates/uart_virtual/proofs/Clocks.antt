-- A monitor with a clock: nobody waits for ever.
use Rattle.std.proofs.Common.{◌≡◌, ℕ, ◌+◌, ◌-◌, ◌≤◌, Bool, true, false, not, ◌&&◌, ◌||◌, ◌⊎◌, inl, inr}
use Rattle.std.proofs.Common.{List, [], ◌∷◌, ◌++◌, ◌==◌, length, nat_lt, refl, ap, sym, ◌∙◌, subst, arith, if◌then◌else◌}
use Rattle.std.proofs.lemmas.Bool.{eqb-true, or_left, or_right}
use Rattle.uart_spec.specs.declared.registers.offsets.TheConstants as offsets
use Rattle.uart_chip.specs.Chip.{ChipState, ticks, after_write, is_loopback, is_dlab_set, cut_of}
use Rattle.uart_chip.specs.Transmitter.{TransmitterState, room, load}
use Rattle.uart_chip.proofs.AccessMoves.{both_if}
use Rattle.uart_live.proofs.Sends.{each}
use Rattle.uart_virtual.specs.Port.{PortState, PortCall, Read, Write, Receive, ReceiveOne, SetLines, TakeOutput, after, todo}
use Rattle.uart_virtual.specs.Port.{happen, brings, falls, looks, moves_data, stays_up, settle, is_up, has_room, differ, rest_of}
use Rattle.uart_virtual.specs.Port.{IsTold, IsPort}
use Rattle.uart_virtual.specs.Clock.{Event, Call, TimePasses, Clocked, is_put_off, is_given, after_event, after_events}
use Rattle.uart_virtual.specs.Clock.{some_given, given, asked, IsClocked, NobodyWaitsForEver, EachRiseIsGiven, AFullFifoIsGiven}
use Rattle.uart_virtual.specs.Clock.{ARiseIsGivenAtOnce, WhatCanWaitIsTime, ClockedStays, GivenWhileUp, AClockAddsNone}
use Rattle.uart_virtual.specs.Clock.{none_waits, ALookIsEnough}
use Rattle.uart_virtual.proofs.Stays.{dip_signalled, stays-part}
use Rattle.uart_virtual.proofs.Tells.{told_after, signals_up, full_signalled, no_other_signals}

-- ---- lists of events

either : (a b : Bool) → (a || b) ≡ true → (a ≡ true) ⊎ (b ≡ true)
either true b e = inl refl
either false b e = inr e

given_first : (xs ys : List Event) (m : Clocked) → some_given xs m ≡ true → some_given (xs ++ ys) m ≡ true
given_first [] ys m g = absurd (cc)
given_first (x ∷ xs) ys m g =
    elim (either (is_given x m) (some_given xs (after_event x m)) g) [
      | inl now ↦ or_left (is_given x m) _ now
      | inr later ↦ or_right (is_given x m) _ (given_first xs ys (after_event x m) later)
    ]

given_rest : (xs ys : List Event) (m : Clocked) → some_given ys (after_events xs m) ≡ true → some_given (xs ++ ys) m ≡ true
given_rest [] ys m g = g
given_rest (x ∷ xs) ys m g = or_right (is_given x m) _ (given_rest xs ys (after_event x m) g)

told_events : (events : List Event) (m : Clocked) → IsTold m.port → IsTold (after_events events m).port
told_events [] m h = h
told_events (Call puts_off call ∷ events) m h = told_events events (after_event (Call puts_off call) m) (told_after call m.port)
told_events (TimePasses ∷ events) m h = told_events events (after_event TimePasses m) h

-- ---- what is owed, and what is still to rise

-- a signal is owed, or the line is down
abbrev Pending : Clocked → Type 0
Pending m = (m.is_owed ≡ true) ⊎ (m.port.told.line ≡ false)

pending : (signal waits level was line others : Bool) → signal ≡ (level && (not line || others)) → (was ≡ true) ⊎ (line ≡ false) →
    ((signal && not waits) ≡ true) ⊎ (((level && (if signal then waits else was)) ≡ true) ⊎ (level ≡ false))
pending signal waits false was line others e f = inr (inr refl)
pending true true true was line others e f = inr (inl refl)
pending true false true was line others e f = inl refl
pending false waits true was line others e (inl f) = inr (inl f)
pending false waits true was false others e (inr f) = absurd (cc)
pending false waits true was true others e (inr f) = absurd (cc)

pending_event : (event : Event) (m : Clocked) → Pending m → (is_given event m ≡ true) ⊎ Pending (after_event event m)
pending_event TimePasses m (inl o) = inl o
pending_event TimePasses m (inr d) = inr (inr d)
pending_event (Call puts_off call) m f =
    pending (todo call m.port).signal (is_put_off puts_off call m) (todo call m.port).level m.is_owed m.port.told.line _ refl f

pendings : (events : List Event) (m : Clocked) → Pending m → (some_given events m ≡ true) ⊎ Pending (after_events events m)
pendings [] m f = inr f
pendings (event ∷ events) m f =
    elim (pending_event event m f) [
      | inl now ↦ inl (or_left (is_given event m) _ now)
      | inr next ↦ elim (pendings events (after_event event m) next) [
        | inl later ↦ inl (or_right (is_given event m) _ later)
        | inr end ↦ inr end
      ]
    ]

abbrev time : List Event
time = TimePasses ∷ []

-- it comes, if the line is up at the end
pending_given : (events : List Event) (m : Clocked) → Pending m → (after_events events m).port.told.line ≡ true →
    some_given (events ++ time) m ≡ true
pending_given events m f up =
    elim (pendings events m f) [
      | inl g ↦ given_first events time m g
      | inr (inl o) ↦ given_rest events time m (or_left (is_given TimePasses (after_events events m)) _ o)
      | inr (inr d) ↦ let no : true ≡ false = sym up ∙ d in absurd (cc)
    ]

pub rise_given : EachRiseIsGiven
rise_given events m h down up = pending_given events m (inr (h.line ∙ down)) ((told_events events m h).line ∙ up)

-- ---- what answers a fall within a call

-- the next one is signalled, or one is owed, or the line is down
abbrev Answers : Clocked → Type 0
Answers m = (m.port.told.spare ≡ 0) ⊎ Pending m

spare_left : (looked signal moves knows fell : Bool) (n rest : ℕ) → signal ≡ false → n ≡ 0 →
    (if looked then 0 else if signal then (if moves && knows then rest else 0) else if moves && fell then n - 1 else n) ≡ 0
spare_left true signal moves knows fell n rest s z = refl
spare_left false true moves knows fell n rest s z = absurd (cc)
spare_left false false true knows true n rest s z = omega (arith, z)
spare_left false false true knows false n rest s z = z
spare_left false false false knows fell n rest s z = z

uncovered : (signal waits level was : Bool) (spare left : ℕ) → (signal ≡ false → spare ≡ 0 → left ≡ 0) → spare ≡ 0 →
    ((signal && not waits) ≡ true) ⊎
    ((left ≡ 0) ⊎ (((level && (if signal then waits else was)) ≡ true) ⊎ (level ≡ false)))
uncovered signal waits false was spare left f z = inr (inr (inr refl))
uncovered true true true was spare left f z = inr (inr (inl refl))
uncovered true false true was spare left f z = inl refl
uncovered false waits true was spare left f z = inr (inl (f refl z))

answers_event : (event : Event) (m : Clocked) → Answers m → (is_given event m ≡ true) ⊎ Answers (after_event event m)
answers_event event m (inr f) =
    elim (pending_event event m f) [
      | inl now ↦ inl now
      | inr next ↦ inr (inr next)
    ]
answers_event TimePasses m (inl z) = inr (inl z)
answers_event (Call puts_off call) m (inl z) =
    let p : PortState = m.port in
    uncovered (todo call p).signal (is_put_off puts_off call m) (todo call p).level m.is_owed p.told.spare (after call p).told.spare
    (spare_left (looks call) (todo call p).signal (moves_data call) p.told.has_looked (falls (stays_up call (happen call p.chip)) p.told)
    p.told.spare (rest_of (settle (happen call p.chip)))) z

answers : (events : List Event) (m : Clocked) → Answers m → (some_given events m ≡ true) ⊎ Answers (after_events events m)
answers [] m f = inr f
answers (event ∷ events) m f =
    elim (answers_event event m f) [
      | inl now ↦ inl (or_left (is_given event m) _ now)
      | inr next ↦ elim (answers events (after_event event m) next) [
        | inl later ↦ inl (or_right (is_given event m) _ later)
        | inr end ↦ inr end
      ]
    ]

asks : (signal waits level was : Bool) → signal ≡ true → level ≡ true →
    ((signal && not waits) ≡ true) ⊎ ((level && (if signal then waits else was)) ≡ true)
asks true true true was s l = inr refl
asks true false true was s l = inl refl
asks false waits level was s l = absurd (cc)
asks true waits false was s l = absurd (cc)

-- a call in which the line is down at a moment
answers_dip : (puts_off : Bool) (call : PortCall) (n : ℕ) (m : Clocked) → Answers m → IsPort m.port →
    is_up (ticks n (happen call m.port.chip)) ≡ false →
    (is_given (Call puts_off call) m ≡ true) ⊎ Pending (after_event (Call puts_off call) m)
answers_dip puts_off call n m (inr f) h down = pending_event (Call puts_off call) m f
answers_dip puts_off call n m (inl z) h down = go (is_up (after call m.port).chip) refl
  where
    go : (level : Bool) → is_up (after call m.port).chip ≡ level →
        (is_given (Call puts_off call) m ≡ true) ⊎ Pending (after_event (Call puts_off call) m)
    go false e = inr (inr e)
    go true e =
        elim (asks (todo call m.port).signal (is_put_off puts_off call m) (todo call m.port).level m.is_owed
        (dip_signalled call m.port n h down e z) e) [
          | inl now ↦ inl now
          | inr owed ↦ inr (inl owed)
        ]

-- ---- nobody waits for ever

from_dip : (later : List Event) (puts_off : Bool) (call : PortCall) (n : ℕ) (m : Clocked) → Answers m → IsPort m.port →
    is_up (ticks n (happen call m.port.chip)) ≡ false →
    is_up (after_events later (after_event (Call puts_off call) m)).port.chip ≡ true →
    some_given (Call puts_off call ∷ later ++ time) m ≡ true
from_dip later puts_off call n m f h down up =
    let next : Clocked = after_event (Call puts_off call) m in
    elim (answers_dip puts_off call n m f h down) [
      | inl now ↦ or_left (is_given (Call puts_off call) m) _ now
      | inr p ↦ or_right (is_given (Call puts_off call) m) _
          (pending_given later next p ((told_events later next (told_after call m.port)).line ∙ up))
    ]

pub nobody_waits : NobodyWaitsForEver
nobody_waits before later puts_off call n m z h down up =
    elim (answers before m (inl z)) [
      | inl g ↦ given_first before (Call puts_off call ∷ later ++ time) m g
      | inr f ↦ given_rest before (Call puts_off call ∷ later ++ time) m
          (from_dip later puts_off call n (after_events before m) f h down up)
    ]

-- ---- what is given at once

read_at_once : (up line others puts_off moves : Bool) → line ≡ false → up ≡ true →
    ((up && (not line || others)) &&
    not (puts_off && (moves && ((up && (not line || others)) && not (if up then not line else line))))) ≡ true
read_at_once true false others false moves l u = refl
read_at_once true false others true false l u = refl
read_at_once true false others true true l u = refl
read_at_once true true others puts_off moves l u = absurd (cc)
read_at_once false line others puts_off moves l u = absurd (cc)

write_at_once : (signal puts_off moves : Bool) → signal ≡ true →
    ((signal && not (puts_off && (moves && signal))) ≡ true) ⊎ ((puts_off ≡ true) × (moves ≡ true))
write_at_once true false moves s = inl refl
write_at_once true true false s = inl refl
write_at_once true true true s = inr (refl, refl)
write_at_once false puts_off moves s = absurd (cc)

at_once : (signal puts_off : Bool) → signal ≡ true → (signal && not (puts_off && false)) ≡ true
at_once true true s = refl
at_once true false s = refl
at_once false puts_off s = absurd (cc)

rises : (up line others : Bool) → line ≡ false → up ≡ true → (up && (not line || others)) ≡ true
rises true false others l u = refl
rises true true others l u = absurd (cc)
rises false line others l u = absurd (cc)

-- a rise from call to call asks for a signal
rise_asks : (call : PortCall) (p : PortState) → IsTold p → is_up p.chip ≡ false → is_up (after call p).chip ≡ true →
    (todo call p).signal ≡ true
rise_asks call p h down up = rises (is_up (after call p).chip) p.told.line _ (h.line ∙ down) up

pub rise_at_once : ARiseIsGivenAtOnce
rise_at_once puts_off (Read offset) m h down up =
    inl (read_at_once (is_up (after (Read offset) m.port).chip) m.port.told.line _ puts_off (offset == offsets.DATA) (h.line ∙ down) up)
rise_at_once puts_off (Write offset value) m h down up =
    write_at_once (todo (Write offset value) m.port).signal puts_off (offset == offsets.DATA)
    (rise_asks (Write offset value) m.port h down up)
rise_at_once puts_off (Receive bytes) m h down up =
    inl (at_once (todo (Receive bytes) m.port).signal puts_off (rise_asks (Receive bytes) m.port h down up))
rise_at_once puts_off (ReceiveOne byte errors) m h down up =
    inl (at_once (todo (ReceiveOne byte errors) m.port).signal puts_off (rise_asks (ReceiveOne byte errors) m.port h down up))
rise_at_once puts_off (SetLines inputs) m h down up =
    inl (at_once (todo (SetLines inputs) m.port).signal puts_off (rise_asks (SetLines inputs) m.port h down up))
rise_at_once puts_off (TakeOutput count) m h down up =
    inl (at_once (todo (TakeOutput count) m.port).signal puts_off (rise_asks (TakeOutput count) m.port h down up))

-- ---- a guest that looks until it sees no interrupt

read_given : (signal puts_off moves moved : Bool) → signal ≡ true → not (puts_off && moves) ≡ true →
    (signal && not (puts_off && (moves && (signal && not moved)))) ≡ true
read_given true false moves moved s n = refl
read_given true true false moved s n = refl
read_given true true true moved s n = absurd (cc)
read_given false puts_off moves moved s n = absurd (cc)

write_given : (signal puts_off moves : Bool) → signal ≡ true → not (puts_off && moves) ≡ true →
    (signal && not (puts_off && (moves && signal))) ≡ true
write_given true false moves s n = refl
write_given true true false s n = refl
write_given true true true s n = absurd (cc)
write_given false puts_off moves s n = absurd (cc)

-- a signal is given, unless the guest moves data, and the monitor puts that off
asked_given : (puts_off : Bool) (call : PortCall) (m : Clocked) → (todo call m.port).signal ≡ true →
    not (puts_off && moves_data call) ≡ true → is_given (Call puts_off call) m ≡ true
asked_given puts_off (Read offset) m s n =
    read_given (todo (Read offset) m.port).signal puts_off (offset == offsets.DATA) (todo (Read offset) m.port).has_moved s n
asked_given puts_off (Write offset value) m s n =
    write_given (todo (Write offset value) m.port).signal puts_off (offset == offsets.DATA) s n
asked_given puts_off (Receive bytes) m s n = at_once (todo (Receive bytes) m.port).signal puts_off s
asked_given puts_off (ReceiveOne byte errors) m s n = at_once (todo (ReceiveOne byte errors) m.port).signal puts_off s
asked_given puts_off (SetLines inputs) m s n = at_once (todo (SetLines inputs) m.port).signal puts_off s
asked_given puts_off (TakeOutput count) m s n = at_once (todo (TakeOutput count) m.port).signal puts_off s

rise_without_time : (events : List Event) (m : Clocked) → none_waits events ≡ true → m.port.told.line ≡ false →
    (after_events events m).port.told.line ≡ true → some_given events m ≡ true
rise_without_time [] m n down up = absurd (cc)
rise_without_time (TimePasses ∷ events) m n down up =
    or_right (is_given TimePasses m) _ (rise_without_time events (after_event TimePasses m) n down up)
rise_without_time (Call puts_off call ∷ events) m n down up =
    let both = each (not (puts_off && moves_data call)) (none_waits events) n in
    go (is_up (settle (happen call m.port.chip))) refl both.0
    (λ e. rise_without_time events (after_event (Call puts_off call) m) both.1 e up)
  where
    go : (level : Bool) → is_up (settle (happen call m.port.chip)) ≡ level → not (puts_off && moves_data call) ≡ true →
        ((after_event (Call puts_off call) m).port.told.line ≡ false →
        some_given events (after_event (Call puts_off call) m) ≡ true) →
        some_given (Call puts_off call ∷ events) m ≡ true
    go true e stays later =
        or_left (is_given (Call puts_off call) m) _ (asked_given puts_off call m
        (rises (is_up (settle (happen call m.port.chip))) m.port.told.line _ down e) stays)
    go false e stays later = or_right (is_given (Call puts_off call) m) _ (later e)

pub look_is_enough : ALookIsEnough
look_is_enough events m h n down up = rise_without_time events m n (h.line ∙ down) ((told_events events m h).line ∙ up)

pub full_given : AFullFifoIsGiven
full_given puts_off (Read offset) m b up none = absurd (cc)
full_given puts_off (Write offset value) m b up none = absurd (cc)
full_given puts_off (Receive bytes) m b up none =
    at_once (todo (Receive bytes) m.port).signal puts_off (full_signalled (Receive bytes) m.port b up none)
full_given puts_off (ReceiveOne byte errors) m b up none =
    at_once (todo (ReceiveOne byte errors) m.port).signal puts_off (full_signalled (ReceiveOne byte errors) m.port b up none)
full_given puts_off (SetLines inputs) m b up none =
    at_once (todo (SetLines inputs) m.port).signal puts_off (full_signalled (SetLines inputs) m.port b up none)
full_given puts_off (TakeOutput count) m b up none =
    at_once (todo (TakeOutput count) m.port).signal puts_off (full_signalled (TakeOutput count) m.port b up none)

-- ---- what can wait

-- a transmitter in whose place another one is raises no interrupt, unless it is pending there
replaced : (c : ChipState) (t : TransmitterState) → (t.is_thr_pending ≡ true → c.transmitter.is_thr_pending ≡ true) →
    is_up c ≡ false → is_up (record c { transmitter = t }) ≡ false
replaced c t pends down = go (is_up (record c { transmitter = t })) refl
  where
    go : (up : Bool) → is_up (record c { transmitter = t }) ≡ up → up ≡ false
    go false e = refl
    go true e =
        let up : is_up c ≡ true =
        stays-part (record c { transmitter = t }) c.transmitter c.receiver.timeout_ticks pends (λ h. h) e in
        absurd (cc)

-- a write of DATA raises no interrupt before time passes
write_raises_none : (value : ℕ) (c : ChipState) → is_up c ≡ false → is_up (after_write offsets.DATA value c) ≡ false
write_raises_none value c down =
    both_if (λ (d : ChipState). is_up d ≡ false) _ _ (is_dlab_set c.latches) down
    (replaced c (load c.fifo (cut_of c value) c.transmitter) (λ p. none_pending p) down)
  where
    none_pending : (load c.fifo (cut_of c value) c.transmitter).is_thr_pending ≡ true → c.transmitter.is_thr_pending ≡ true
    none_pending p =
        let cleared : (load c.fifo (cut_of c value) c.transmitter).is_thr_pending ≡ false =
        both_if (λ (t : TransmitterState). t.is_thr_pending ≡ false) _ _
        (nat_lt (length c.transmitter.queue) (room c.fifo c.transmitter.size)) refl refl in
        let no : true ≡ false = sym p ∙ cleared in
        absurd (cc)

fallen : (value : ℕ) (c : ChipState) → is_up c ≡ false → stays_up (Write offsets.DATA value) (happen (Write offsets.DATA value) c) ≡ false
fallen value c down =
    ap (λ (up : Bool). up && not (is_loopback (after_write offsets.DATA value c).latches)) (write_raises_none value c down)

unmoved : (line level : Bool) → level ≡ true → not (differ line level) ≡ true → line ≡ true
unmoved true level u e = refl
unmoved false true u e = absurd (cc)
unmoved false false u e = absurd (cc)

-- the line is up before and after the access of a guest, which asks for a signal: it fell in between
dipped : (call : PortCall) (p : PortState) → IsTold p → brings call p.chip ≡ false → (todo call p).signal ≡ true →
    is_up p.chip ≡ true → stays_up call (happen call p.chip) ≡ false
dipped call p h b s up = go (no_other_signals call p h s)
  where
    go : (is_up p.chip ≡ false) ⊎ ((stays_up call (happen call p.chip) ≡ false) ⊎
        ((brings call p.chip ≡ true) × (has_room (after call p).chip ≡ false))) →
        stays_up call (happen call p.chip) ≡ false
    go (inl e) = let no : true ≡ false = sym up ∙ e in absurd (cc)
    go (inr (inl e)) = e
    go (inr (inr (brought, r))) = let no : true ≡ false = sym brought ∙ b in absurd (cc)

pub what_can_wait : WhatCanWaitIsTime
what_can_wait (Read offset) p h w =
    let call : PortCall = Read offset in
    let asked = each (offset == offsets.DATA) ((todo call p).signal && not (todo call p).has_moved) w in
    let ask = each (todo call p).signal (not (todo call p).has_moved) asked.1 in
    let up : is_up (after call p).chip ≡ true = signals_up call p ask.0 in
    let line : p.told.line ≡ true = unmoved p.told.line (is_up (after call p).chip) up ask.1 in
    (dipped call p h refl ask.0 (sym h.line ∙ line), up)
what_can_wait (Write offset value) p h w =
    let call : PortCall = Write offset value in
    let ask = each (offset == offsets.DATA) (todo call p).signal w in
    (fell (eqb-true offset offsets.DATA ask.0) (is_up p.chip) refl ask.1, signals_up call p ask.1)
  where
    fell : offset ≡ offsets.DATA → (up : Bool) → is_up p.chip ≡ up → (todo (Write offset value) p).signal ≡ true →
        stays_up (Write offset value) (happen (Write offset value) p.chip) ≡ false
    fell e true up s = dipped (Write offset value) p h refl s up
    fell e false up s =
        subst (λ (at : ℕ). stays_up (Write at value) (happen (Write at value) p.chip) ≡ false) (sym e) (fallen value p.chip up)
what_can_wait _ p h w = absurd (cc)

-- ---- what is known of what is owed

owed_level : (signal waits level was : Bool) → (level && (if signal then waits else was)) ≡ true → level ≡ true
owed_level signal waits true was e = refl
owed_level signal waits false was e = absurd (cc)

clocked_event : (event : Event) (m : Clocked) → IsClocked m → IsClocked (after_event event m)
clocked_event TimePasses m h = record { told = h.told; owes = λ o. absurd (cc) }
clocked_event (Call puts_off call) m h =
    record {
      told = told_after call m.port;
      owes = λ o. owed_level (todo call m.port).signal (is_put_off puts_off call m) (todo call m.port).level m.is_owed o;
    }

pub clocked_stays : ClockedStays
clocked_stays [] m h = h
clocked_stays (event ∷ events) m h = clocked_stays events (after_event event m) (clocked_event event m h)

none_owed : (signal waits level was : Bool) → (signal && not waits) ≡ true →
    (signal ≡ true) × ((level && (if signal then waits else was)) ≡ false)
none_owed true false true was g = (refl, refl)
none_owed true false false was g = (refl, refl)
none_owed true true level was g = absurd (cc)
none_owed false waits level was g = absurd (cc)

pub given_up : GivenWhileUp
given_up TimePasses m h g = (h.owes g, refl)
given_up (Call puts_off call) m h g =
    let known = none_owed (todo call m.port).signal (is_put_off puts_off call m) (todo call m.port).level m.is_owed g in
    (signals_up call m.port known.0, known.1)

-- ---- how many are given

abbrev one : Bool → ℕ
one b = if b then 1 else 0

one_event : (signal waits level was : Bool) →
    one (signal && not waits) + one (level && (if signal then waits else was)) ≤ one signal + one was
one_event true true true true = omega arith
one_event true true true false = omega arith
one_event true true false true = omega arith
one_event true true false false = omega arith
one_event true false true true = omega arith
one_event true false true false = omega arith
one_event true false false true = omega arith
one_event true false false false = omega arith
one_event false waits true true = omega arith
one_event false waits true false = omega arith
one_event false waits false true = omega arith
one_event false waits false false = omega arith

in_sum : (now gave ask asks owed was : ℕ) → now + owed ≤ ask + was → gave ≤ asks + owed → now + gave ≤ ask + asks + was
in_sum now gave ask asks owed was h k = omega (arith, h, k)

time_sum : (gave asks was : ℕ) → gave ≤ asks + 0 → was + gave ≤ asks + was
time_sum gave asks was h = omega (arith, h)

pub adds_none : AClockAddsNone
adds_none [] m = omega arith
adds_none (TimePasses ∷ events) m =
    let next : Clocked = after_event TimePasses m in
    time_sum (given events next) (asked events next) (one m.is_owed) (adds_none events next)
adds_none (Call puts_off call ∷ events) m =
    let next : Clocked = after_event (Call puts_off call) m in
    in_sum (one (is_given (Call puts_off call) m)) (given events next) (one (todo call m.port).signal) (asked events next)
    (one next.is_owed) (one m.is_owed)
    (one_event (todo call m.port).signal (is_put_off puts_off call m) (todo call m.port).level m.is_owed)
    (adds_none events next)
