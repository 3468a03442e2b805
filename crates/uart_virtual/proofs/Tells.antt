-- Lemmas of ports.
use Rattle.std.proofs.Common.{◌≡◌, ◌≢◌, ℕ, ◌-◌, ◌==◌, Bool, true, false, not, ◌&&◌, ◌||◌, ◌⊎◌, inl}
use Rattle.std.proofs.Common.{inr, List, [], ◌∷◌, ◌++◌, map, take, length, if◌then◌else◌}
use Rattle.std.proofs.Common.{refl, ap, sym, ◌∙◌, subst, arith}
use Rattle.std.proofs.lemmas.Bool.{eqb-true, or_left, or_right}
use Rattle.uart_spec.specs.declared.registers.offsets.TheConstants as offsets
use Rattle.uart_spec.specs.FifoSize.{characters}
use Rattle.uart_spec.specs.declared.setup.FifoSize.{FifoSize}
use Rattle.uart_chip.specs.Chip.{ChipState, ticks}
use Rattle.uart_chip.specs.Transmitter.{TransmitterState, out, shift_bytes, room}
use Rattle.uart_chip.proofs.lasting.Lasting.{LastsInAccesses, lasts-write}
use Rattle.uart_live.specs.Live.{IsLive}
use Rattle.uart_live.specs.declared.fixed.TheConstants.{WIRE_ROOM}
use Rattle.uart_live.specs.Laws as live
use Rattle.uart_live.specs.Laws.{Act, Ticks, Arrive, TakeWire, in_turn, AllInTurn, sent, taken, IsCareful}
use Rattle.uart_live.proofs.Orders.{bytes_leave}
use Rattle.uart_live.proofs.Sends.{each, unset}
use Rattle.uart_virtual.specs.declared.told.Kind.{Kind}
use Rattle.uart_virtual.specs.declared.told.Todo.{Todo}
use Rattle.uart_virtual.specs.declared.told.Told.{Told}
use Rattle.uart_virtual.specs.Port.{PortState, PortCall, Write, Receive, after, todo}
use Rattle.uart_virtual.specs.Port.{happen, brings, looks, moves_data, kind_of, stays_up, settle, settle_ticks, is_up, idle}
use Rattle.uart_virtual.specs.Port.{has_room, is_empty, IsTold, IsPaced, tell, todo_of, seen_of, is_signalled, rest_of, spare_after}
use Rattle.uart_virtual.specs.Port.{falls, room_after}
use Rattle.uart_virtual.specs.Port.{differ, arrive_all, accepted}
use Rattle.uart_virtual.specs.Laws.{after_all, some_told, ToldStays, SignalsAreUp, EachRiseIsSignalled, ASignalCovers}
use Rattle.uart_virtual.specs.Laws.{none_looks, NoLookCoversNothing, AFullFifoIsSignalled, NoOtherSignals}
use Rattle.uart_virtual.specs.Laws.{acts_of, acts_of_all, BytesGoOut, FcrKeepsTheOutput}

-- what a call leaves was told
pub told_holds : (kind : Kind) (was_up : Bool) (ended : ChipState) (told : Told) →
    IsTold (record { chip = ended; told = tell kind was_up ended told })
told_holds kind was_up ended told =
    record { line = refl; room = kept (has_room ended) told.has_room kind.may_make_room (is_empty ended) }
  where
    kept : (some known up none : Bool) →
        (some && (known || (up || none))) ≡ (some && ((some && (known || (up || none))) || none))
    kept false known up none = refl
    kept true true up none = refl
    kept true false true none = refl
    kept true false false true = refl
    kept true false false false = refl

pub told_after : (call : PortCall) (p : PortState) → IsTold (after call p)
told_after call p =
    let c : ChipState = happen call p.chip in
    told_holds (kind_of call p.chip) (stays_up call c) (settle c) p.told

pub told_stays : ToldStays
told_stays [] p h = h
told_stays (call ∷ calls) p h =
    told_stays calls (after call p) (told_after call p)

-- a port and what is to be told, of the chip right after what happens in a call
pub did_call : (call : PortCall) (p : PortState) (c x : ChipState) (t : Told) → c ≡ happen call p.chip → x ≡ settle c →
    t ≡ tell (kind_of call p.chip) (stays_up call c) (settle c) p.told → record { chip = x; told = t } ≡ after call p
did_call call p c x t e settled told =
    let kind : Kind = kind_of call p.chip in
    ap (λ (u : Told). record { chip = x; told = u }) told ∙
    (ap (λ (y : ChipState). record { chip = y; told = tell kind (stays_up call c) (settle c) p.told }) settled ∙
    ap (λ (d : ChipState). record { chip = settle d; told = tell kind (stays_up call d) (settle d) p.told }) e)

pub did_tell : (call : PortCall) (p : PortState) (c : ChipState) (it : Todo) → c ≡ happen call p.chip →
    it ≡ todo_of (kind_of call p.chip) (stays_up call c) (settle c) p.told → it ≡ todo call p
did_tell call p c it e told =
    told ∙ ap (λ (d : ChipState). todo_of (kind_of call p.chip) (stays_up call d) (settle d) p.told) e

-- ---- the line

rises_from_down : (up line others : Bool) → line ≡ false → up ≡ true → (up && (not line || others)) ≡ true
rises_from_down true false others l u = refl
rises_from_down true true others l u = absurd (cc)
rises_from_down false line others l u = absurd (cc)

told-rise : (calls : List PortCall) (p : PortState) → p.told.line ≡ false → (after_all calls p).told.line ≡ true →
    some_told (λ (t : Todo). t.signal) calls p ≡ true
told-rise [] p down up = absurd (cc)
told-rise (call ∷ calls) p down up =
    go (is_up (settle (happen call p.chip))) refl (λ e. told-rise calls (after call p) e up)
  where
    go : (level : Bool) → is_up (settle (happen call p.chip)) ≡ level →
        ((after call p).told.line ≡ false → some_told (λ (t : Todo). t.signal) calls (after call p) ≡ true) →
        some_told (λ (t : Todo). t.signal) (call ∷ calls) p ≡ true
    go true e later = or_left (todo call p).signal _ (rises_from_down _ p.told.line _ down e)
    go false e later = or_right (todo call p).signal _ (later e)

pub rise_signalled : EachRiseIsSignalled
rise_signalled calls p h down up = told-rise calls p (h.line ∙ down) ((told_stays calls p h).line ∙ up)

pub signals_up : SignalsAreUp
signals_up call p h = first (is_up (settle (happen call p.chip))) _ h
  where
    first : (a b : Bool) → (a && b) ≡ true → a ≡ true
    first true b e = refl
    first false b e = e

-- how many more accesses are covered, by what is known of a call
abbrev covered : (looks moves knows signal fell fifo : Bool) → FifoSize → ℕ → ℕ
covered looks moves knows signal fell fifo size n =
    if looks then 0
    else if signal then (if moves && knows then room fifo size - 1 else 0)
    else if moves && fell then n - 1
    else n

covers : (l m k s d f : Bool) (size : FifoSize) (n : ℕ) → (covered l m k s d f size n ≢ 0) → (l ≡ false) ×
    (((s ≡ true) × ((m ≡ true) × ((k ≡ true) × (covered l m k s d f size n ≡ characters size - 1)))) ⊎
    ((s ≡ false) × ((n ≢ 0) × (covered l m k s d f size n ≡ (if m && d then n - 1 else n)))))
covers true m k s d f size n h = absurd (h refl)
covers false true true true d true size n h = (refl, inl (refl, (refl, (refl, refl))))
covers false true true true d false size n h = absurd (h refl)
covers false true false true d f size n h = absurd (h refl)
covers false false k true d f size n h = absurd (h refl)
covers false true k false true f size n h = (refl, inr (refl, (some n h, refl)))
  where
    some : (n : ℕ) → (n - 1 ≢ 0) → n ≢ 0
    some n h e = h (omega (arith, e))
covers false true k false false f size n h = (refl, inr (refl, (h, refl)))
covers false false k false d f size n h = (refl, inr (refl, (h, refl)))

pub a_signal_covers : ASignalCovers
a_signal_covers call p h =
    let ended : ChipState = settle (happen call p.chip) in
    covers (looks call) (moves_data call) p.told.has_looked (todo call p).signal (falls (stays_up call (happen call p.chip)) p.told)
    ended.fifo ended.transmitter.size p.told.spare h

none_left : (s m k d : Bool) (n rest : ℕ) → k ≡ false → n ≡ 0 →
    ((k && not s) ≡ false) × ((if s then (if m && k then rest else 0) else if m && d then n - 1 else n) ≡ 0)
none_left s m true d n rest e z = absurd (cc)
none_left true true false d n rest e z = (refl, refl)
none_left true false false d n rest e z = (refl, refl)
none_left false true false true n rest e z = (refl, omega (arith, z))
none_left false true false false n rest e z = (refl, z)
none_left false false false d n rest e z = (refl, z)

pub no_look_covers_nothing : NoLookCoversNothing
no_look_covers_nothing [] p h k n = (k, n)
no_look_covers_nothing (call ∷ calls) p h k n =
    let both = each (not (looks call)) (none_looks calls) h in
    let blind : looks call ≡ false = unset (looks call) both.0 in
    let rest : ℕ = rest_of (settle (happen call p.chip)) in
    let fell : Bool = falls (stays_up call (happen call p.chip)) p.told in
    let left = none_left (todo call p).signal (moves_data call) p.told.has_looked fell p.told.spare rest k n in
    no_look_covers_nothing calls (after call p) both.1 (rw blind left.0) (rw blind left.1)

-- ---- input

full : (up line b room dip : Bool) → b ≡ true → up ≡ true → room ≡ false → (up && (not line || ((b && not room) || dip))) ≡ true
full true false true false dip e u r = refl
full true true true false dip e u r = refl
full false line b room dip e u r = absurd (cc)
full true line false room dip e u r = absurd (cc)
full true line true true dip e u r = absurd (cc)

pub full_signalled : AFullFifoIsSignalled
full_signalled call p h up none =
    full (is_up (settle (happen call p.chip))) p.told.line (brings call p.chip) (has_room (settle (happen call p.chip)))
    (not (stays_up call (happen call p.chip)) && (p.told.spare == 0)) h up none

causes : (up line b room stays z : Bool) → (up && (not line || ((b && not room) || (not stays && z)))) ≡ true →
    (line ≡ false) ⊎ ((stays ≡ false) ⊎ ((b ≡ true) × (room ≡ false)))
causes false line b room stays z e = absurd (cc)
causes true false b room stays z e = inl refl
causes true true true false stays z e = inr (inr (refl, refl))
causes true true true true false z e = inr (inl refl)
causes true true true true true z e = absurd (cc)
causes true true false room false z e = inr (inl refl)
causes true true false room true z e = absurd (cc)

pub no_other_signals : NoOtherSignals
no_other_signals call p h s =
    go (causes (is_up (settle (happen call p.chip))) p.told.line (brings call p.chip) (has_room (settle (happen call p.chip)))
    (stays_up call (happen call p.chip)) (p.told.spare == 0) s)
  where
    go : (p.told.line ≡ false) ⊎ ((stays_up call (happen call p.chip) ≡ false) ⊎
        ((brings call p.chip ≡ true) × (has_room (settle (happen call p.chip)) ≡ false))) →
        (is_up p.chip ≡ false) ⊎ ((stays_up call (happen call p.chip) ≡ false) ⊎
        ((brings call p.chip ≡ true) × (has_room (settle (happen call p.chip)) ≡ false)))
    go (inl e) = inl (sym h.line ∙ e)
    go (inr e) = inr e

-- ---- output

acts-append : (xs ys : List Act) (c : ChipState) → live.after_all (xs ++ ys) c ≡ live.after_all ys (live.after_all xs c)
acts-append [] ys c = refl
acts-append (x ∷ xs) ys c = acts-append xs ys (live.after x c)

acts-arrive : (bytes : List ℕ) (c : ChipState) → live.after_all (map (λ (byte : ℕ). Arrive byte 0) bytes) c ≡ arrive_all bytes c
acts-arrive [] c = refl
acts-arrive (byte ∷ bytes) c = acts-arrive bytes (live.after (Arrive byte 0) c)

-- the acts of a careful call leave the chip of the port: FCR is not written
acts-call : (call : PortCall) (p : PortState) → AllInTurn IsCareful (acts_of call p.chip) p.chip →
    live.after_all (acts_of call p.chip) p.chip ≡ (after call p).chip
acts-call (Receive bytes) p h =
    let xs : List ℕ = take (accepted bytes p.chip) bytes in
    let n : ℕ = settle_ticks (arrive_all xs p.chip).transmitter.size in
    acts-append (map (λ (byte : ℕ). Arrive byte 0) xs) (Ticks n ∷ []) p.chip ∙
    ap (λ (c : ChipState). ticks n c) (acts-arrive xs p.chip)
acts-call (Write offset value) p h = go (offset == offsets.FCR) refl
  where
    go : (b : Bool) → (offset == offsets.FCR) ≡ b →
        live.after_all (acts_of (Write offset value) p.chip) p.chip ≡ (after (Write offset value) p).chip
    go true e = absurd (h.0.0 (eqb-true offset offsets.FCR e))
    go false e = rw e refl
acts-call _ p h = refl

-- acts in turn that are careful are so in two parts
careful-first : (xs ys : List Act) (c : ChipState) → AllInTurn IsCareful (xs ++ ys) c → AllInTurn IsCareful xs c
careful-first [] ys c h = tt
careful-first (x ∷ xs) ys c h = (h.0, careful-first xs ys (live.after x c) h.1)

careful-rest : (xs ys : List Act) (c : ChipState) → AllInTurn IsCareful (xs ++ ys) c →
    AllInTurn IsCareful ys (live.after_all xs c)
careful-rest [] ys c h = h
careful-rest (x ∷ xs) ys c h = careful-rest xs ys (live.after x c) h.1

acts-all : (calls : List PortCall) (p : PortState) → AllInTurn IsCareful (acts_of_all calls p) p.chip →
    live.after_all (acts_of_all calls p) p.chip ≡ (after_all calls p).chip
acts-all [] p h = refl
acts-all (call ∷ calls) p h =
    let first : List Act = acts_of call p.chip in
    let rest : List Act = acts_of_all calls (after call p) in
    let same = acts-call call p (careful-first first rest p.chip h) in
    acts-append first rest p.chip ∙
    (ap (λ (c : ChipState). live.after_all rest c) same ∙
    acts-all calls (after call p) (subst (λ (c : ChipState). AllInTurn IsCareful rest c) same (careful-rest first rest p.chip h)))

pub bytes_go : BytesGoOut
bytes_go calls p h =
    let acts : List Act = acts_of_all calls p in
    ap (λ (c : ChipState). in_turn taken acts p.chip ++ out c.transmitter) (sym (acts-all calls p h)) ∙ bytes_leave acts p.chip h

-- a write of FCR finds nothing to discard
abbrev Keeps : List ℕ → TransmitterState → Type 0
Keeps bytes t = (t.queue ≡ []) × (out t ≡ bytes)

keeps_lasts : (bytes : List ℕ) → LastsInAccesses (Keeps bytes)
keeps_lasts bytes = record {
  pending = λ t pending h. h;
  cleared = λ t pending h. (refl, ap (λ (queue : List ℕ). t.wire ++ (shift_bytes t.shift_register ++ queue)) (sym h.0) ∙ h.1);
  resized = λ t size h. (refl, ap (λ (queue : List ℕ). t.wire ++ (shift_bytes t.shift_register ++ queue)) (sym h.0) ∙ h.1);
}

pub fcr_keeps : FcrKeepsTheOutput
fcr_keeps value c e =
    (lasts-write (Keeps (out c.transmitter)) (keeps_lasts (out c.transmitter)) offsets.FCR value c refl (e, refl)).1

-- ---- how many bytes are ready

pub ready_is : {size : FifoSize} (c : ChipState) → IsLive size c → IsPaced c → (room : ℕ) →
    room ≡ c.transmitter.capacity - length c.transmitter.wire → WIRE_ROOM - room ≡ length c.transmitter.wire
ready_is c w k room e = omega (arith, e, k.room, w.whole.sound.chip.transmitter.on_wire)

-- ---- nothing is new

quiet_line : (up covered : Bool) → (up && (not up || (false || (not up && covered)))) ≡ false
quiet_line true covered = refl
quiet_line false covered = refl

quiet_room : (some : Bool) → (some && not some) ≡ false
quiet_room true = refl
quiet_room false = refl

with_false : (b : Bool) → (b && true) ≡ b
with_false true = refl
with_false false = refl

-- no signal is given
quiet_signal : (c : ChipState) (told : Told) → IsTold (record { chip = c; told = told }) →
    is_signalled idle (is_up c) (seen_of c) told ≡ false
quiet_signal c told h =
    let up : Bool = is_up c in
    ap (λ (line : Bool). up && (not line || (false || (not up && (told.spare == 0))))) h.line ∙ quiet_line up (told.spare == 0)

-- if line and room are as they were told, idle time tells nothing
pub nothing_told : (c : ChipState) (told : Told) → IsTold (record { chip = c; told = told }) → tell idle (is_up c) c told ≡ told
nothing_told c told h =
    let up : Bool = is_up c in
    ap (λ (signal : Bool). record told {
      line = up;
      has_room = room_after idle (seen_of c) told;
      has_looked = told.has_looked && not signal;
      spare = spare_after idle up signal (rest_of c) told;
    }) (quiet_signal c told h) ∙
    (ap (λ (line : Bool). record told {
      line = line;
      has_room = room_after idle (seen_of c) told;
      has_looked = told.has_looked && true;
    }) (sym h.line) ∙
    (ap (λ (some : Bool). record told { has_room = some; has_looked = told.has_looked && true }) (sym h.room) ∙
    ap (λ (looked : Bool). record told { has_looked = looked }) (with_false told.has_looked)))

same_differs : (level : Bool) → differ level level ≡ false
same_differs true = refl
same_differs false = refl

-- what is to be done then
abbrev pub nothing : ChipState → Told → Todo
nothing c told =
    record { signal = false; level = told.line; has_moved = false; has_room = false; ready = length c.transmitter.wire }

pub nothing_todo : (c : ChipState) (told : Told) → IsTold (record { chip = c; told = told }) →
    nothing c told ≡ todo_of idle (is_up c) c told
nothing_todo c told h =
    let up : Bool = is_up c in
    let unmoved : differ told.line up ≡ false = ap (λ (line : Bool). differ line up) h.line ∙ same_differs up in
    let no_room : (room_after idle (seen_of c) told && not told.has_room) ≡ false =
    ap (λ (some : Bool). some && not told.has_room) (sym h.room) ∙ quiet_room told.has_room in
    ap (λ (line : Bool). record (nothing c told) { level = line }) h.line ∙
    (ap (λ (signal : Bool). record (nothing c told) { signal = signal; level = up }) (sym (quiet_signal c told h)) ∙
    (ap (λ (moved : Bool). record (todo_of idle up c told) { has_moved = moved; has_room = false }) (sym unmoved) ∙
    ap (λ (some : Bool). record (todo_of idle up c told) { has_room = some }) (sym no_room)))
