-- When a monitor is told of room.
use Rattle.std.proofs.Common.{◌≡◌, ◌≤◌, ℕ, zero, suc, ◌-◌, ◌==◌, nat_lt, Bool, true, false, not, ◌&&◌, ◌||◌, ◌⊎◌, inl, inr}
use Rattle.std.proofs.Common.{List, [], ◌∷◌, take, length, if◌then◌else◌, refl, ap, sym, ◌∙◌, arith}
use Rattle.std.proofs.lemmas.Bool.{or_left, or_right}
use Rattle.std.proofs.lemmas.Grind.{common_steps}
use Rattle.std.proofs.lemmas.List.{length-append}
use Rattle.uart_spec.specs.declared.registers.offsets.TheConstants as offsets
use Rattle.uart_events.specs.declared.event.ArrivalMark.TheVariants.{Dropped}
use Rattle.uart_chip.specs.declared.receiver.Character.{Character}
use Rattle.uart_chip.specs.declared.receiver.Origin.TheVariants.{Live}
use Rattle.uart_chip.specs.Receiver.{ReceiverState, enter, replace, set_mark, is_unscheduled}
use Rattle.uart_chip.specs.Chip.{ChipState, tick, ticks, is_loopback, is_dlab_set, receive_room, arrive_live, cut_of}
use Rattle.uart_chip.specs.Chip.{interrupt, is_thr_empty, after_write}
use Rattle.uart_chip.specs.Transmitter.{room}
use Rattle.uart_chip.proofs.AccessMoves.{both_if}
use Rattle.uart_virtual.specs.declared.told.Todo.{Todo}
use Rattle.uart_virtual.specs.Port.{PortState, PortCall, Read, Write, Receive, ReceiveOne, SetLines, TakeOutput, after, todo}
use Rattle.uart_virtual.specs.Port.{holds_less}
use Rattle.uart_virtual.specs.Port.{happen, may_make_room, kind_of, settle, settle_ticks, is_up, has_room, is_empty, seen_of, room_after}
use Rattle.uart_virtual.specs.Port.{arrive_all, accepted}
use Rattle.uart_virtual.specs.Laws.{after_all, some_told, reads_data, RoomIsTold, RoomIsToldAtOnce, RoomIsToldOnce}
use Rattle.uart_virtual.specs.Laws.{RefusalLeavesNoRoom, RestoredIsTold}
use Rattle.uart_virtual.proofs.Tells.{told_stays}

is_new : (now before : Bool) → now ≡ true → before ≡ false → (now && not before) ≡ true
is_new true false n b = refl
is_new true true n b = absurd (cc)
is_new false before n b = absurd (cc)

told-room : (calls : List PortCall) (p : PortState) → p.told.has_room ≡ false → (after_all calls p).told.has_room ≡ true →
    some_told (λ (t : Todo). t.has_room) calls p ≡ true
told-room [] p none some = absurd (cc)
told-room (call ∷ calls) p none some =
    go (room_after (kind_of call p.chip) (seen_of (settle (happen call p.chip))) p.told) refl (λ e. told-room calls (after call p) e some)
  where
    go : (now : Bool) → room_after (kind_of call p.chip) (seen_of (settle (happen call p.chip))) p.told ≡ now →
        ((after call p).told.has_room ≡ false → some_told (λ (t : Todo). t.has_room) calls (after call p) ≡ true) →
        some_told (λ (t : Todo). t.has_room) (call ∷ calls) p ≡ true
    go true e later = or_left (todo call p).has_room _ (is_new _ p.told.has_room e none)
    go false e later = or_right (todo call p).has_room _ (later e)

no_room_known : (known some none : Bool) → known ≡ (some && (known || none)) → some ≡ false → known ≡ false
no_room_known false some none h e = refl
no_room_known true true none h e = absurd (cc)
no_room_known true false none h e = absurd (cc)

room_known : (known some none : Bool) → known ≡ (some && (known || none)) → some ≡ true → none ≡ true → known ≡ true
room_known true some none h e f = refl
room_known false true true h e f = absurd (cc)
room_known false false none h e f = absurd (cc)
room_known false some false h e f = absurd (cc)

pub room_told : RoomIsTold
room_told calls p h none some empty =
    told-room calls p (no_room_known p.told.has_room (has_room p.chip) (is_empty p.chip) h.room none)
    (room_known (after_all calls p).told.has_room (has_room (after_all calls p).chip) (is_empty (after_all calls p).chip)
    (told_stays calls p h).room some empty)

pub room_told_once : RoomIsToldOnce
room_told_once call p known =
    go p.told.has_room (has_room (settle (happen call p.chip))) (may_make_room call) (is_empty (settle (happen call p.chip))) known
  where
    go : (known some up none : Bool) → known ≡ true →
        (((some && (known || (up || none))) && not known) ≡ false) × ((some && (known || (up || none))) ≡ some)
    go true true up none e = (refl, refl)
    go true false up none e = (refl, refl)
    go false some up none e = absurd (cc)

-- time makes no room and takes none
room-tick : (c : ChipState) → receive_room (tick c) ≡ receive_room c
room-tick c = go (is_loopback c.latches) refl
  where
    go : (b : Bool) → is_loopback c.latches ≡ b → receive_room (tick c) ≡ receive_room c
    go true e = rw e refl
    go false e = rw e refl

room-ticks : (n : ℕ) (c : ChipState) → receive_room (ticks n c) ≡ receive_room c
room-ticks zero c = refl
room-ticks (suc n) c = room-tick (ticks n c) ∙ room-ticks n c

-- no call but a read of DATA and a write of FCR or MCR makes room
front_room : (n : ℕ) (new : Character) (queue : List Character) (r : ReceiverState) → n - length r.queue ≡ 0 → r.queue ≡ queue →
    n ≡ 1 → n - length (replace queue new r).queue ≡ 0
front_room n new [] r e q one = e
front_room n new (x ∷ xs) r e q one = omega (arith, one)

room_enter : (fifo : Bool) (new : Character) (r : ReceiverState) → room fifo r.size - length r.queue ≡ 0 →
    room fifo (enter fifo new r).size - length (enter fifo new r).queue ≡ 0
room_enter fifo new r e =
    let full : nat_lt (length r.queue) (room fifo r.size) ≡ false = grind (arith, common_steps) in
    rw full (go fifo e)
  where
    after : Bool → ReceiverState
    after b =
        if b then record r {
          is_overrun = true;
          timeout_ticks = 0;
          marks = set_mark new.origin Dropped r.marks;
          is_unscheduled_lost = if is_unscheduled new.origin then false else r.is_unscheduled_lost;
        } else replace r.queue new r

    go : (b : Bool) → room b r.size - length r.queue ≡ 0 → room b (after b).size - length (after b).queue ≡ 0
    go true e = e
    go false e = front_room 1 new r.queue r e refl refl

none_arrives : (byte errors : ℕ) (c : ChipState) → receive_room c ≡ 0 → receive_room (arrive_live byte errors c) ≡ 0
none_arrives byte errors c e = go (is_loopback c.latches) refl
  where
    go : (b : Bool) → is_loopback c.latches ≡ b → receive_room (arrive_live byte errors c) ≡ 0
    go true l = rw l refl
    go false l =
        let left : room c.fifo c.receiver.size - length c.receiver.queue ≡ 0 = rw l at e in
        rw l (room_enter c.fifo (record { byte = cut_of c byte; errors = errors; origin = Live }) c.receiver left)

abbrev NoRoom : ChipState → Type 0
NoRoom c = receive_room c ≡ 0

none_made : (call : PortCall) (c : ChipState) → reads_data call ≡ false → may_make_room call ≡ false → NoRoom c → NoRoom (happen call c)
none_made (Read offset) c r u e =
    rw r (both_if NoRoom _ _ (offset == offsets.ISR) (both_if NoRoom _ _ (is_thr_empty (interrupt c)) e e)
    (both_if NoRoom _ _ (offset == offsets.LSR) e (both_if NoRoom _ _ (offset == offsets.MSR) e e)))
none_made (Write offset value) c r u e =
    let a = neither (offset == offsets.FCR) (offset == offsets.MCR) u in
    let d : ChipState = after_write offset value c in
    let after : NoRoom d =
    both_if NoRoom _ _ (offset == offsets.DATA) (both_if NoRoom _ _ (is_dlab_set c.latches) e e)
    (both_if NoRoom _ _ (offset == offsets.IER) (both_if NoRoom _ _ (is_dlab_set c.latches) e e)
    (rw (a.0, a.1) (both_if NoRoom _ _ (offset == offsets.LCR) e (both_if NoRoom _ _ (offset == offsets.SPR) e e)))) in
    both_if NoRoom _ _ ((offset == offsets.FCR) && holds_less c d) after after
  where
    neither : (x y : Bool) → (x || y) ≡ false → (x ≡ false) × (y ≡ false)
    neither true y e = absurd (cc)
    neither false true e = absurd (cc)
    neither false false e = (refl, refl)
none_made (Receive bytes) c r u e =
    let none : accepted bytes c ≡ 0 = omega (arith, e) in
    rw none e
none_made (ReceiveOne byte errors) c r u e = none_arrives byte errors c e
none_made (SetLines inputs) c r u e = e
none_made (TakeOutput count) c r u e = e

pub room_told_at_once : RoomIsToldAtOnce
room_told_at_once call p h none some free = at_end (may_make_room call || is_empty ended) refl
  where
    ended : ChipState
    ended = settle (happen call p.chip)

    untold : p.told.has_room ≡ false
    untold = no_room_known p.told.has_room (has_room p.chip) (is_empty p.chip) h.room none

    told : (known some new : Bool) → known ≡ false → some ≡ true → new ≡ true → ((some && (known || new)) && not known) ≡ true
    told false true true a b d = refl
    told true some new a b d = absurd (cc)
    told false false new a b d = absurd (cc)
    told false true false a b d = absurd (cc)

    zero_room : (n : ℕ) → not (n == 0) ≡ false → n ≡ 0
    zero_room n e = grind (arith, common_steps)

    neither : (x y : Bool) → (x || y) ≡ false → (x ≡ false) × (y ≡ false)
    neither true y e = absurd (cc)
    neither false true e = absurd (cc)
    neither false false e = (refl, refl)

    made : (reads_data call ≡ false) ⊎ (is_empty ended ≡ true) → may_make_room call ≡ false → is_empty ended ≡ false → false ≡ true
    made (inr empty) u e = sym e ∙ empty
    made (inl r) u e =
        let before : receive_room p.chip ≡ 0 = zero_room (receive_room p.chip) none in
        let c : ChipState = happen call p.chip in
        let after : receive_room ended ≡ 0 =
        room-ticks (settle_ticks c.transmitter.size) c ∙ none_made call p.chip r u before in
        sym (ap (λ (n : ℕ). not (n == 0)) after) ∙ some

    at_end : (b : Bool) → (may_make_room call || is_empty ended) ≡ b → (todo call p).has_room ≡ true
    at_end true e = told p.told.has_room (has_room ended) (may_make_room call || is_empty ended) untold some e
    at_end false e =
        let each = neither (may_make_room call) (is_empty ended) e in
        let no : false ≡ true = made free each.0 each.1 in absurd (cc)

room-arrive : (byte k : ℕ) (c : ChipState) → receive_room c ≡ suc k → receive_room (arrive_live byte 0 c) ≡ k
room-arrive byte k c e = go (is_loopback c.latches) refl
  where
    new : Character
    new = record { byte = cut_of c byte; errors = 0; origin = Live }

    go : (b : Bool) → is_loopback c.latches ≡ b → receive_room (arrive_live byte 0 c) ≡ k
    go true l = let no : 0 ≡ suc k = rw l at e in absurd (cc)
    go false l =
        let left : room c.fifo c.receiver.size - length c.receiver.queue ≡ suc k = rw l at e in
        let fits : nat_lt (length c.receiver.queue) (room c.fifo c.receiver.size) ≡ true = grind (arith, common_steps) in
        let longer = length-append c.receiver.queue (new ∷ []) in
        rw (l, fits) (omega (arith, left, longer))

room-all : (k : ℕ) (bytes : List ℕ) (c : ChipState) → receive_room c ≡ k → k ≤ length bytes →
    receive_room (arrive_all (take k bytes) c) ≡ 0
room-all zero bytes c e h = e
room-all (suc k) [] c e h = absurd (omega (arith, h))
room-all (suc k) (byte ∷ bytes) c e h =
    room-all k bytes (arrive_live byte 0 c) (room-arrive byte k c e) (omega (arith, h))

pub refusal_leaves_no_room : RefusalLeavesNoRoom
refusal_leaves_no_room bytes p h =
    let k : ℕ = receive_room p.chip in
    let all : accepted bytes p.chip ≡ k = omega (arith, h) in
    let none : receive_room (arrive_all (take k bytes) p.chip) ≡ 0 = room-all k bytes p.chip refl (omega (arith, h)) in
    let d : ChipState = arrive_all (take (accepted bytes p.chip) bytes) p.chip in
    ap (λ (n : ℕ). not (n == 0))
    (room-ticks (settle_ticks d.transmitter.size) d ∙
    (ap (λ (n : ℕ). receive_room (arrive_all (take n bytes) p.chip)) all ∙ none))

pub restored_is_told : RestoredIsTold
restored_is_told c = (with_true (has_room c && true) ∙ with_true (has_room c), with_true (is_up c))
  where
    with_true : (b : Bool) → (b && true) ≡ b
    with_true true = refl
    with_true false = refl
