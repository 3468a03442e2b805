-- Flow control by XOFF loses nothing in its direction: over numbers, and then over calls of a link.
use Rattle.uart_link.proofs.Names.{◌≡◌, ◌⊎◌, inl, inr, ◌≤◌, ◌+◌, ◌-◌, ℕ, Bool, true, false, not, ◌&&◌, List, [], ◌∷◌, ◌++◌, length, map}
use Rattle.uart_link.proofs.Names.{length-append, append-nil, refl, sym, ◌∙◌, ap, subst, arith, None, AllByRecursion, option_to_list}
use Rattle.uart_link.proofs.Names.{length-drop, length-map, nil_from_length, characters, MachineState, at_mark, out, IsSound, at_least_16}
use Rattle.uart_link.proofs.Names.{room_within, Drop, drop_split, drop_receivers, Modes, most_held, RingFields, ring_fields, data_written}
use Rattle.uart_link.proofs.Names.{ReceiveMarks, wired_call, ring_passes_call, RingCall, RingAnswer, RingState, ring_machine, RingCallStep}
use Rattle.uart_link.proofs.Names.{IsOfRings, to_send, to_send_with, Moment, Side, Left, Right, Link, on_cable, receiver_at, IsJoined}
use Rattle.uart_link.proofs.Names.{OfEnd, beyond, receive_room, arrived_in, since_call, since_at, DropsNothing, at_end, other}
use Rattle.uart_link.proofs.Names.{CabledCallStep, EndStep, Step, LinkChain, of_side, XoffPace, has_told, is_holding, urgent_at}
use Rattle.uart_link.proofs.Names.{xoff_hold_of, AdjustsXoffIfAny, IsXoffStep, AllXoffInTime, SinceXoff, from_now_on, urged_by, counted_on}
use Rattle.uart_link.proofs.Names.{since_xoff, ObeysInTime, AllObeyed, BeginsByXoff, IsPacedByXoff, HoldsInTime, MayTell}
use Rattle.uart_ring.specs.Ring as ring
use Rattle.uart_ring_runs.specs.declared.call.RingCall.TheVariants as call
use Rattle.uart_link.proofs.{EndActs.end_begins, EndFlows.waits, EndFlows.sent_of, EndFlows.EndFlows, EndFlows.end_moves, EndPasses.InEnd}
use Rattle.uart_link.proofs.{EndPasses.settle_passes, Holds.CallKeeps, Holds.call_keeps, Holds.Adjusts, Holds.adjusts, LinkSteps.link_chain}
use Rattle.uart_link.proofs.{LinkSteps.joined_after, Stretches.same_rooms}
use Rattle.uart_link.proofs.Flows.{line_of, sent_is, less_room, held_few, none_waits, no_drop_still, behind_at, some_beyond}

-- ---- what an end sends

-- these bytes were written to the chip, of those that waited, as a call changes them
pub record Sent (x : Modes) (change : List ℕ → List ℕ) (s t : RingState) : Type 0 where
  pub written : List ℕ
  pub grows : out (ring_machine t) ≡ out (ring_machine s) ++ map x.cut written
  pub all : written ++ to_send t ≡ change (to_send s)

sent_access : (x : Modes) (s t : RingState) (c : RingCall) (a : RingAnswer) → IsOfRings c → InEnd x s → RingCallStep s c a t →
    Sent x (to_send_with c a) s t
sent_access x s t c a own w h =
    let p = ring_passes_call x s t c a w.session own (wired_call s c own w.wired) h in
    record { written = data_written p.made; grows = p.passed.passed.went.sends.grows; all = p.sent }

sent_call : (x : Modes) (s t : RingState) (c : RingCall) (a : RingAnswer) → InEnd x s → CabledCallStep s c a t →
    Sent x (to_send_with c a) s t
sent_call x s t call.Next a w h =
    let chip : (ring_machine t).chip ≡ (at_mark (ring_machine s)).chip = ap (λ (o : MachineState). o.chip) h.passes.machine in
    let p = (settle_passes x (Unit {0}) (Unit {0}) s t w.session chip h.passes.rings).ends in
    record { written = data_written p.made; grows = p.went.sends.grows; all = p.sent tt }
sent_call x s t (call.Driver c) a w h = absurd h
sent_call x s t other a w h = sent_access x s t other a tt w h

-- the moments before the call write nothing
pub sent_end : (x : Modes) (moments : List Moment) (there s t : RingState) (c : RingCall) (a : RingAnswer) → InEnd x s →
    EndStep moments there s c a t → Sent x (to_send_with c a) s t
sent_end x moments there s t c a w h =
    let begins = h.begins in
    let b = end_begins x moments there s t c a w h in
    let written = data_written b.ends.made in
    let same : to_send begins ≡ to_send s = ap (λ (f : RingFields). ring.waiting f) h.arranges.rings in
    let sizes : length (written ++ to_send begins) ≡ length (to_send s ++ []) = ap length (b.ends.sent tt) in
    let one = length-append written (to_send begins) in
    let two = length-append (to_send s) [] in
    let same_size : length (to_send begins) ≡ length (to_send s) = ap length same in
    let none : written ≡ [] = nil_from_length written (omega (arith, sizes, one, two, same_size)) in
    let still : out (ring_machine begins) ≡ out (ring_machine s) =
    b.ends.went.sends.grows ∙ (ap (λ bytes. out (ring_machine s) ++ map x.cut bytes) none ∙ append-nil (out (ring_machine s))) in
    let p = sent_call x begins t c a b.session h.called in
    record {
      written = p.written;
      grows = p.grows ∙ ap (λ zs. zs ++ map x.cut p.written) still;
      all = p.all ∙ ap (to_send_with c a) same;
    }

-- a call at an end: if it leaves the transmit ring held, no more bytes leave the driver than urgent ones that waited or were queued; no
-- more of them wait then; and only `adjust_xoff` changes what was told last
pub record Urges (c : RingCall) (a : RingAnswer) (s t : RingState) : Type 0 where
  pub held : is_holding t ≡ true → sent_of t + urgent_at t ≤ sent_of s + (urgent_at s + urged_by c a)
  pub urgent : urgent_at t ≤ urgent_at s + urged_by c a
  pub told : xoff_hold_of c ≡ None → has_told t ≡ has_told s

pub urges : (x : Modes) (moments : List Moment) (there s t : RingState) (c : RingCall) (a : RingAnswer) → InEnd x s →
    EndStep moments there s c a t → Urges c a s t
urges x moments there s t c a w h =
    let p = sent_end x moments there s t c a w h in
    let C : RingFields → Type 0 = λ f. CallKeeps c a f (ring_fields t) in
    let k = subst C h.arranges.rings (call_keeps h.begins t c a h.called) in
    let grows : length (out (ring_machine t)) ≡ length (out (ring_machine s) ++ map x.cut p.written) = ap length p.grows in
    let one = length-append (out (ring_machine s)) (map x.cut p.written) in
    let cut = length-map p.written x.cut in
    let all : length (p.written ++ to_send t) ≡ length (to_send_with c a (to_send s)) = ap length p.all in
    let two = length-append p.written (to_send t) in
    let after = length-append (option_to_list (ring_fields t).urgent) (ring_fields t).transmit.items in
    record {
      held = λ on. let most = k.held on in omega (arith, most, grows, one, cut, all, two, after);
      urgent = k.urgent;
      told = k.told;
    }

-- ---- from one end to the other, in numbers

-- before XOFF: few wait, and there is room for what may come until it is told, and after it
abbrev Untold : XoffPace → (extra since : ℕ) → (to : RingState) → Type 0
Untold pace extra since to =
    (waits to ≤ since) × (pace.between + pace.until_held + pace.urgent + extra + waits to ≤ receive_room to + since)

-- after it: so many characters may still come, for which there is room; no more are on their way if the sender holds its ring; and it
-- obeys in time
record Told (pace : XoffPace) (extra since : ℕ) (x : SinceXoff) (from to : RingState) : Type 0 where
  pub left : ℕ
  pub count : (receiver_at to).arrived + left ≡ x.arrived + (pace.until_held + pace.urgent + extra + 16)
  pub room : waits to + left ≤ receive_room to + 16
  pub few : (waits to ≤ since) ⊎ (waits to + left ≤ 16)
  pub urgent : urgent_at from ≤ x.urgent
  pub obeys : ObeysInTime pace x from
  pub line : is_holding from ≡ true → line_of from to + urgent_at from + pace.urgent ≤ left + x.urgent

-- by whether XOFF was told
abbrev Phase : (told : Bool) → XoffPace → (extra since : ℕ) → SinceXoff → (from to : RingState) → Type 0
Phase told pace extra since x from to =
    ((told ≡ false) × Untold pace extra since to) ⊎ ((told ≡ true) × Told pace extra since x from to)

-- what a transmitter holds, of which so many are beyond 16
held_most : (extra : ℕ) (s : RingState) → IsSound (ring_machine s) → most_held (ring_machine s).chip.transmitter ≡ extra + 16 →
    sent_of s ≤ length (ring_machine s).chip.transmitter.wire + (extra + 16)
held_most extra s w most =
    let t = (ring_machine s).chip.transmitter in
    let room = room_within (ring_machine s).chip.fifo t.size in
    let queue = w.chip.transmitter.in_room in
    let few = held_few t (omega (arith, room, queue)) in
    let all = sent_is s in omega (arith, few, all, most)

-- no more are on their way than may still come
line_left : (pace : XoffPace) (extra since : ℕ) (x : SinceXoff) (from to : RingState) → IsSound (ring_machine from) →
    most_held (ring_machine from).chip.transmitter ≡ extra + 16 →
    (receiver_at to).arrived ≤ length (ring_machine from).chip.transmitter.wire → (k : Told pace extra since x from to) →
    line_of from to ≤ k.left
line_left pace extra since x from to w most behind k = go k.obeys.holds
  where
    go : HoldsInTime pace x from → line_of from to ≤ k.left
    go (inl on) =
        let line = k.line on in
        let few = k.obeys.few in omega (arith, line, few)
    go (inr wire) =
        let out = held_most extra from w most in
        let count = k.count in omega (arith, out, wire, count)

-- the counts after a call that tells nothing
told_on : (pace : XoffPace) (extra since next urged : ℕ) (x : SinceXoff) (from to : RingState) → (k : Told pace extra since x from to) →
    (waits to ≤ next) ⊎ (waits to + k.left ≤ 16) → ObeysInTime pace (counted_on false x urged x) from →
    Told pace extra next (counted_on false x urged x) from to
told_on pace extra since next urged x from to k few obeys = record {
  left = k.left;
  count = k.count;
  room = k.room;
  few = few;
  urgent = let h = k.urgent in omega (arith, h);
  obeys = obeys;
  line = λ on. let h = k.line on in omega (arith, h);
}

-- ---- a call of the receiver

-- characters come, and are moved to the receive ring, from which some may be taken
comes : (pace : XoffPace) (extra since : ℕ) (x : SinceXoff) (Held Kept : Type 0) (told : Bool) (r s t : RingState) →
    IsSound (ring_machine r) → most_held (ring_machine r).chip.transmitter ≡ extra + 16 → (e : EndFlows Held Kept s t) →
    (receiver_at t).arrived ≤ length (ring_machine r).chip.transmitter.wire → Phase told pace extra since x r s →
    Phase told pace extra (since + e.came) x r t
comes pace extra since x Held Kept told r s t w most e behind (inl (off, (few, room))) =
    let waiting = e.waiting in
    let less = less_room s t e.moved e.ring e.capacity in
    inl (off, (omega (arith, waiting, few), omega (arith, waiting, less, room)))
comes pace extra since x Held Kept told r s t w most e behind (inr (on, k)) =
    let waiting = e.waiting in
    let arrived = e.arrived in
    let less = less_room s t e.moved e.ring e.capacity in
    let all = sent_is r in
    let count = k.count in
    let room = k.room in
    let line : line_of r t + e.came ≡ line_of r s = omega (arith, arrived, behind, all) in
    let within : line_of r s ≤ k.left = line_left pace extra since x r s w most (omega (arith, arrived, behind)) k in
    inr (
      on,
      record {
        left = k.left - e.came;
        count = omega (arith, count, arrived, line, within);
        room = omega (arith, waiting, less, room, line, within);
        few = fewer k.few (omega (arith, line, within)) waiting;
        urgent = k.urgent;
        obeys = k.obeys;
        line = λ held. let h = k.line held in omega (arith, h, line, within);
      },
    )
  where
    fewer : (waits s ≤ since) ⊎ (waits s + k.left ≤ 16) → e.came ≤ k.left → waits t + e.moved ≤ waits s + e.came →
        (waits t ≤ since + e.came) ⊎ (waits t + (k.left - e.came) ≤ 16)
    fewer (inl h) some moved = inl (omega (arith, h, moved))
    fewer (inr h) some moved = inr (omega (arith, h, moved, some))

-- and there is room in the receiver for all that come
fits : (pace : XoffPace) (extra since : ℕ) (x : SinceXoff) (Held Kept : Type 0) (told : Bool) (r s t : RingState) →
    IsSound (ring_machine r) → most_held (ring_machine r).chip.transmitter ≡ extra + 16 → (e : EndFlows Held Kept s t) →
    (receiver_at t).arrived ≤ length (ring_machine r).chip.transmitter.wire → since + e.came ≤ pace.between → pace.between ≤ 16 →
    Phase told pace extra since x r s → waits s + e.came ≤ 16
fits pace extra since x Held Kept told r s t w most e behind few small (inl (off, (all, room))) = omega (arith, all, few, small)
fits pace extra since x Held Kept told r s t w most e behind few small (inr (on, k)) = go k.few
  where
    go : (waits s ≤ since) ⊎ (waits s + k.left ≤ 16) → waits s + e.came ≤ 16
    go (inl h) = omega (arith, h, few, small)
    go (inr h) =
        let arrived = e.arrived in
        let all = sent_is r in
        let within : line_of r s ≤ k.left = line_left pace extra since x r s w most (omega (arith, arrived, behind)) k in
        omega (arith, h, within, arrived, behind, all)

-- a call that tells nothing
tells_nothing : (pace : XoffPace) (extra since : ℕ) (x now : SinceXoff) (b d : Bool) (r t : RingState) → d ≡ b →
    (d ≡ true → ObeysInTime pace (counted_on (not b && d) now 0 x) r) → Phase b pace extra since x r t →
    Phase d pace extra since (counted_on (not b && d) now 0 x) r t
tells_nothing pace extra since x now true true r t same obeys (inl (off, h)) = absurd (cc (off))
tells_nothing pace extra since x now true true r t same obeys (inr (on, k)) =
    inr (refl, told_on pace extra since since 0 x r t k k.few (obeys refl))
tells_nothing pace extra since x now false false r t same obeys (inl (off, h)) = inl (refl, h)
tells_nothing pace extra since x now false false r t same obeys (inr (on, k)) = absurd (cc (on))
tells_nothing pace extra since x now true false r t same obeys h = absurd (cc (same))
tells_nothing pace extra since x now false true r t same obeys h = absurd (cc (same))

-- an `adjust_xoff`, once nothing waits or the receive ring is full
tells_if_low : (pace : XoffPace) (extra since hold : ℕ) (x : SinceXoff) (b d : Bool) (r t : RingState) → IsSound (ring_machine r) →
    most_held (ring_machine r).chip.transmitter ≡ extra + 16 → 1 ≤ extra →
    (receiver_at t).arrived ≤ length (ring_machine r).chip.transmitter.wire → since ≤ pace.between →
    pace.between + pace.until_held + pace.urgent + extra ≤ hold → (d ≡ false → hold ≤ receive_room t) →
    (waits t ≡ 0) ⊎ (receive_room t ≡ 0) →
    length (on_cable (ring_machine r).chip (ring_machine t).chip) ≤ pace.until_held →
    (d ≡ true → ObeysInTime pace (counted_on (not b && d) (from_now_on r t) 0 x) r) → Phase b pace extra since x r t →
    Phase d pace extra 0 (counted_on (not b && d) (from_now_on r t) 0 x) r t
tells_if_low pace extra since hold x b false r t w most some behind few mark high served near obeys h =
    inl (refl, untold served (high refl))
  where
    untold : (waits t ≡ 0) ⊎ (receive_room t ≡ 0) → hold ≤ receive_room t → Untold pace extra 0 t
    untold (inl none) room = (omega (arith, none), omega (arith, none, room, mark))
    untold (inr full) room = absurd (omega (arith, full, room, mark, some))
tells_if_low pace extra since hold x true true r t w most some behind few mark high served near obeys (inl (off, h)) = absurd (cc (off))
tells_if_low pace extra since hold x true true r t w most some behind few mark high served near obeys (inr (on, k)) =
    inr (refl, told_on pace extra since 0 0 x r t k (emptied served k.room) (obeys refl))
  where
    emptied : (waits t ≡ 0) ⊎ (receive_room t ≡ 0) → waits t + k.left ≤ receive_room t + 16 → (waits t ≤ 0) ⊎ (waits t + k.left ≤ 16)
    emptied (inl none) room = inl (omega (arith, none))
    emptied (inr full) room = inr (omega (arith, full, room))
tells_if_low pace extra since hold x false true r t w most some behind few mark high served near obeys (inr (on, h)) = absurd (cc (on))
tells_if_low pace extra since hold x false true r t w most some behind few mark high served near obeys (inl (off, (little, room))) =
    let out = held_most extra r w most in
    let all = sent_is r in
    let cable = length-drop (receiver_at t).arrived (ring_machine r).chip.transmitter.wire in
    inr (
      refl,
      record {
        left = pace.until_held + pace.urgent + extra + 16;
        count = refl;
        room = fills served;
        few = empty served;
        urgent = omega arith;
        obeys = obeys refl;
        line = λ on. omega (arith, out, all, cable, near, behind);
      },
    )
  where
    fills : (waits t ≡ 0) ⊎ (receive_room t ≡ 0) → waits t + (pace.until_held + pace.urgent + extra + 16) ≤ receive_room t + 16
    fills (inl none) = omega (arith, none, room, few)
    fills (inr full) = absurd (omega (arith, full, room, few, some))

    empty : (waits t ≡ 0) ⊎ (receive_room t ≡ 0) →
        (waits t ≤ 0) ⊎ (waits t + (pace.until_held + pace.urgent + extra + 16) ≤ 16)
    empty (inl none) = inl (omega (arith, none))
    empty (inr full) = absurd (omega (arith, full, room, few, some))

-- ---- one direction

-- the flow from one end to the other, whose transmitter may hold so many characters more than 16, if so many have arrived since XOFF was
-- adjusted, and so many since it was told
record XoffTo (pace : XoffPace) (extra since : ℕ) (x : SinceXoff) (from to : RingState) : Type 0 where
  pub held : most_held (ring_machine from).chip.transmitter ≡ extra + 16
  pub phase : Phase (has_told to) pace extra since x from to
  pub fifo : (ring_machine to).chip.fifo ≡ true
  pub behind : (receiver_at to).arrived ≤ length (ring_machine from).chip.transmitter.wire

-- the flow after a call, and that no character was dropped there
record XoffFlowed (pace : XoffPace) (extra since : ℕ) (x : SinceXoff) (from to before : RingState) : Type 0 where
  pub flow : XoffTo pace extra since x from to
  pub whole : Drop (receiver_at before) (receiver_at to) → ⊥

-- what an `adjust_xoff` leaves untold
adjusted_room : (moments : List Moment) (there s t : RingState) (marks : ReceiveMarks) (a : RingAnswer) →
    EndStep moments there s (call.AdjustXoff marks) a t → MayTell (ring_fields s).urgent (has_told s) → has_told t ≡ false →
    marks.hold ≤ receive_room t
adjusted_room moments there s t marks a h may off =
    let d = h.called.did in
    let A : RingFields → Type 0 = λ f. Adjusts marks f (ring_fields t) in
    let adjusted = adjusts marks h.called.outcome (ring_fields h.begins) d.list (ring_fields t) d.does in
    (subst A h.arranges.rings adjusted).room may off

-- the phase after a call of the receiver
phase_after : (x : Modes) (pace : XoffPace) (extra since : ℕ) (y : SinceXoff) (moments : List Moment) (c : RingCall) (a : RingAnswer)
    (r s t : RingState) → InEnd x s → IsSound (ring_machine r) → most_held (ring_machine r).chip.transmitter ≡ extra + 16 →
    EndStep moments r s c a t → AdjustsXoffIfAny pace (xoff_hold_of c) s t r → since ≤ pace.between →
    (receiver_at t).arrived ≤ length (ring_machine r).chip.transmitter.wire →
    (has_told t ≡ true → ObeysInTime pace (counted_on (not (has_told s) && has_told t) (from_now_on r t) 0 y) r) →
    Phase (has_told s) pace extra since y r t →
    Phase (has_told t) pace extra (since_call (xoff_hold_of c) since)
    (counted_on (not (has_told s) && has_told t) (from_now_on r t) 0 y) r t
phase_after x pace extra since y moments (call.AdjustXoff marks) a r s t w sound most h adjusts few behind obeys phase =
    tells_if_low pace extra since marks.hold y (has_told s) (has_told t) r t sound most
    (some_beyond extra (ring_machine r).chip.transmitter most) behind few (let mark = adjusts.mark in omega (arith, mark, most))
    (adjusted_room moments r s t marks a h adjusts.may_tell) (none_waits t adjusts.served) adjusts.near obeys phase
phase_after x pace extra since y moments other a r s t w sound most h adjusts few behind obeys phase =
    let k = urges x moments r s t other a w h in
    tells_nothing pace extra since y (from_now_on r t) (has_told s) (has_told t) r t (k.told refl) obeys phase

-- the receiver at s acts, and the sender at r stays
receiver_acts : (x : Modes) (pace : XoffPace) (extra since : ℕ) (y : SinceXoff) (moments : List Moment) (c : RingCall) (a : RingAnswer)
    (s t r u : RingState) → InEnd x s → IsSound (ring_machine r) → EndStep moments r s c a t → u ≡ r →
    AdjustsXoffIfAny pace (xoff_hold_of c) s t u → pace.between ≤ 16 →
    since + ((receiver_at t).arrived - (receiver_at s).arrived) ≤ pace.between →
    (receiver_at t).arrived ≤ length (ring_machine u).chip.transmitter.wire →
    (has_told t ≡ true → ObeysInTime pace (counted_on (not (has_told s) && has_told t) (from_now_on u t) 0 y) u) →
    XoffTo pace extra since y r s →
    XoffFlowed pace extra (since_call (xoff_hold_of c) (since + ((receiver_at t).arrived - (receiver_at s).arrived)))
    (counted_on (not (has_told s) && has_told t) (from_now_on u t) 0 y) u t s
receiver_acts x pace extra since y moments c a s t r u w sound h same adjusts small few behind obeys flows =
    (subst Goal (sym same) at_r) adjusts behind obeys
  where
    Goal : RingState → Type 0
    Goal u = AdjustsXoffIfAny pace (xoff_hold_of c) s t u → (receiver_at t).arrived ≤ length (ring_machine u).chip.transmitter.wire →
        (has_told t ≡ true → ObeysInTime pace (counted_on (not (has_told s) && has_told t) (from_now_on u t) 0 y) u) →
        XoffFlowed pace extra (since_call (xoff_hold_of c) (since + ((receiver_at t).arrived - (receiver_at s).arrived)))
        (counted_on (not (has_told s) && has_told t) (from_now_on u t) 0 y) u t s

    at_r : Goal r
    at_r adjusts behind obeys =
        let e = end_moves x moments r s t c a w h in
        let arrived = e.arrived in
        let came : since + e.came ≡ since + ((receiver_at t).arrived - (receiver_at s).arrived) = omega (arith, arrived) in
        let P : ℕ → Type 0 = λ n. Phase (has_told s) pace extra n y r t in
        let now = subst P came (comes pace extra since y _ _ (has_told s) r s t sound flows.held e behind flows.phase) in
        record {
          flow = record {
            held = flows.held;
            phase = phase_after x pace extra _ y moments c a r s t w sound flows.held h adjusts few behind obeys now;
            fifo = e.fifo ∙ flows.fifo;
            behind = behind;
          };
          whole =
              let least = at_least_16 (receiver_at s).size in
              let room =
              fits pace extra since y _ _ (has_told s) r s t sound flows.held e behind (omega (arith, came, few)) small flows.phase in
              e.whole flows.fifo (omega (arith, least, room));
        }

-- ---- a call of the sender

-- the phase after it
sends_on : (pace : XoffPace) (extra since : ℕ) (y now : SinceXoff) (c : RingCall) (a : RingAnswer) (b : Bool) (s t r : RingState) →
    IsSound (ring_machine s) → most_held (ring_machine s).chip.transmitter ≡ extra + 16 → Urges c a s t →
    (receiver_at r).arrived ≤ length (ring_machine s).chip.transmitter.wire →
    (receiver_at r).arrived ≤ length (ring_machine t).chip.transmitter.wire →
    (b ≡ true → ObeysInTime pace (counted_on (not b && b) now (urged_by c a) y) t) →
    Phase b pace extra since y s r → Phase b pace extra since (counted_on (not b && b) now (urged_by c a) y) t r
sends_on pace extra since y now c a b s t r w most k before behind obeys (inl (off, h)) = inl (off, h)
sends_on pace extra since y now c a false s t r w most k before behind obeys (inr (on, h)) = absurd (cc (on))
sends_on pace extra since y now c a true s t r w most k before behind obeys (inr (on, h)) = inr (
  refl,
  record {
    left = h.left;
    count = h.count;
    room = h.room;
    few = h.few;
    urgent = let u = h.urgent in let v = k.urgent in omega (arith, u, v);
    obeys = obeys refl;
    line = λ held. short held h.obeys.holds;
  },
)
  where
    short : is_holding t ≡ true → HoldsInTime pace y s →
        line_of t r + urgent_at t + pace.urgent ≤ h.left + (y.urgent + urged_by c a)
    short held (inl was) =
        let line = h.line was in
        let sent = k.held held in
        let one = sent_is s in
        let two = sent_is t in omega (arith, line, sent, one, two, before, behind)
    short held (inr wire) =
        let out = held_most extra s w most in
        let sent = k.held held in
        let count = h.count in
        let urgent = h.urgent in
        let two = sent_is t in omega (arith, out, wire, sent, count, urgent, two, behind)

-- the sender at s acts, and the receiver at r stays
sender_acts : (x : Modes) (pace : XoffPace) (extra since : ℕ) (y : SinceXoff) (moments : List Moment) (c : RingCall) (a : RingAnswer)
    (s t r u : RingState) → InEnd x s → EndStep moments r s c a t → u ≡ r →
    (receiver_at u).arrived ≤ length (ring_machine t).chip.transmitter.wire →
    (ring_machine t).chip.transmitter.size ≡ (ring_machine s).chip.transmitter.size →
    (has_told u ≡ true → ObeysInTime pace (counted_on (not (has_told r) && has_told u) (from_now_on t u) (urged_by c a) y) t) →
    XoffTo pace extra since y s r →
    XoffFlowed pace extra (since + ((receiver_at u).arrived - (receiver_at r).arrived))
    (counted_on (not (has_told r) && has_told u) (from_now_on t u) (urged_by c a) y) t u r
sender_acts x pace extra since y moments c a s t r u w h same behind size obeys flows = (subst Goal (sym same) at_r) behind obeys
  where
    Goal : RingState → Type 0
    Goal u = (receiver_at u).arrived ≤ length (ring_machine t).chip.transmitter.wire →
        (has_told u ≡ true → ObeysInTime pace (counted_on (not (has_told r) && has_told u) (from_now_on t u) (urged_by c a) y) t) →
        XoffFlowed pace extra (since + ((receiver_at u).arrived - (receiver_at r).arrived))
        (counted_on (not (has_told r) && has_told u) (from_now_on t u) (urged_by c a) y) t u r

    at_r : Goal r
    at_r behind obeys =
        let N : ℕ → Type 0 = λ n. Phase (has_told r) pace extra n
        (counted_on (not (has_told r) && has_told r) (from_now_on t r) (urged_by c a) y) t r in
        let none : since ≡ since + ((receiver_at r).arrived - (receiver_at r).arrived) = omega arith in
        record {
          flow = record {
            held = ap (λ size. characters size + 1) size ∙ flows.held;
            phase = subst N none (sends_on pace extra since y (from_now_on t r) c a (has_told r) s t r w.session.stands.sound flows.held
                (urges x moments r s t c a w h) flows.behind behind obeys flows.phase);
            fifo = flows.fifo;
            behind = behind;
          };
          whole = no_drop_still r r refl;
        }

-- ---- calls of a link

-- the same from an end to the other one
abbrev XoffFlowedTo : XoffPace → (extra since : ℕ) → SinceXoff → (end : Side) → (a b : Link) → Type 0
XoffFlowedTo pace extra since y end a b =
    XoffFlowed pace extra since y (at_end end b) (at_end (other end) b) (at_end (other end) a)

-- what is counted after a call of either end
abbrev counted : (end side : Side) → RingCall → RingAnswer → (a b : Link) → SinceXoff → SinceXoff
counted end side c answer a b y =
    let to = other end in
    counted_on (not (has_told (at_end to a)) && has_told (at_end to b)) (from_now_on (at_end end b) (at_end to b))
    (of_side end side (urged_by c answer)) y

step_flows : (x z : Modes) (pace : XoffPace) (extra since : ℕ) (y : SinceXoff) (end side : Side) (moments : List Moment) (c : RingCall)
    (answer : RingAnswer) (a b : Link) → InEnd x a.left → InEnd z a.right →
    EndStep moments (at_end (other side) a) (at_end side a) c answer (at_end side b) → at_end (other side) b ≡ at_end (other side) a →
    IsJoined b →
    OfEnd (other end) side
    (AdjustsXoffIfAny pace (xoff_hold_of c) (at_end (other end) a) (at_end (other end) b) (at_end end b)) → pace.between ≤ 16 →
    since + ((receiver_at (at_end (other end) b)).arrived - (receiver_at (at_end (other end) a)).arrived) ≤ pace.between →
    (ring_machine (at_end end b)).chip.transmitter.size ≡ (ring_machine (at_end end a)).chip.transmitter.size →
    (has_told (at_end (other end) b) ≡ true → ObeysInTime pace (counted end side c answer a b y) (at_end end b)) →
    XoffTo pace extra since y (at_end end a) (at_end (other end) a) →
    XoffFlowedTo pace extra (since_at (other end) side (xoff_hold_of c)
    (since + ((receiver_at (at_end (other end) b)).arrived - (receiver_at (at_end (other end) a)).arrived)))
    (counted end side c answer a b y) end a b
step_flows x z pace extra since y Left Left moments c answer a b w v h same joined adjusts small few size obeys flows =
    sender_acts x pace extra since y moments c answer a.left b.left a.right b.right w h same joined.right.behind size obeys flows
step_flows x z pace extra since y Right Right moments c answer a b w v h same joined adjusts small few size obeys flows =
    sender_acts z pace extra since y moments c answer a.right b.right a.left b.left v h same joined.left.behind size obeys flows
step_flows x z pace extra since y Left Right moments c answer a b w v h same joined adjusts small few size obeys flows =
    receiver_acts z pace extra since y moments c answer a.right b.right a.left b.left v w.session.stands.sound h same adjusts small few
    joined.right.behind obeys flows
step_flows x z pace extra since y Right Left moments c answer a b w v h same joined adjusts small few size obeys flows =
    receiver_acts x pace extra since y moments c answer a.left b.left a.right b.right w v.session.stands.sound h same adjusts small few
    joined.left.behind obeys flows

chain_flows : (x z : Modes) (pace : XoffPace) (extra since : ℕ) (y : SinceXoff) (end : Side) (a b : Link) (steps : List Step) →
    InEnd x a.left → InEnd z a.right → IsJoined a → LinkChain a steps b → pace.between ≤ 16 →
    AllByRecursion (IsXoffStep pace end) steps → AllXoffInTime (other end) pace.between since steps → AllObeyed pace end y steps →
    XoffTo pace extra since y (at_end end a) (at_end (other end) a) →
    Drop (receiver_at (at_end (other end) a)) (receiver_at (at_end (other end) b)) → ⊥
chain_flows x z pace extra since y end a b [] w v joined h small each in_time obeyed flow d =
    no_drop_still (at_end (other end) a) (at_end (other end) b) (ap (λ (o : Link). at_end (other end) o) h) d
chain_flows x z pace extra since y end a b (step ∷ steps) w v joined h small each in_time obeyed flow d =
    let here = sym h.0 in
    let to = other end in
    let w' = subst (λ (o : Link). InEnd x o.left) here w in
    let v' = subst (λ (o : Link). InEnd z o.right) here v in
    let joined' = subst (λ (o : Link). IsJoined o) here joined in
    let one = link_chain x z step.before step.after (step ∷ []) w' v' joined' (refl, h.1, refl) in
    let after = joined_after x z _ _ _ _ step.before step.after one in
    let flowed = step_flows x z pace extra since y end step.call.side step.call.moments.items step.call.call step.answer step.before
    step.after w' v' h.1.0 h.1.1 after each.0 small in_time.0
    (same_rooms x z end (step ∷ []) step.before step.after (record { left = w'; right = v'; joined = joined' }) (refl, h.1, refl)).size
    obeyed.0 (subst (λ (o : Link). XoffTo pace extra since y (at_end end o) (at_end to o)) here flow) in
    let now = since_at to step.call.side (xoff_hold_of step.call.call) (since + arrived_in to step) in
    let rest = chain_flows x z pace extra now (since_xoff end step y) end step.after b steps one.in_left one.in_right after h.2 small
    each.1 in_time.1 obeyed.1 flowed.flow in
    split (subst (λ (o : Link). Drop (receiver_at (at_end to o)) (receiver_at (at_end to step.after)) → ⊥) h.0 flowed.whole) rest
    (drop_split (receiver_at (at_end to a)) (receiver_at (at_end to step.after)) (receiver_at (at_end to b)) d)
  where
    split : {A B : Type 0} → (A → ⊥) → (B → ⊥) → A ⊎ B → ⊥
    split f g (inl p) = f p
    split f g (inr q) = g q

-- at first
begins_flow : (pace : XoffPace) (from to : RingState) → BeginsByXoff pace from to →
    (receiver_at to).arrived ≤ length (ring_machine from).chip.transmitter.wire →
    XoffTo pace (beyond from) 0 (from_now_on from to) from to
begins_flow pace from to begins behind =
    let none : waits to ≡ 0 =
    sym (length-map (receiver_at to).queue (λ character. character.byte)) ∙ ap length begins.empty in
    let least = at_least_16 (ring_machine from).chip.transmitter.size in
    record {
      held = omega (arith, least);
      phase = inl (begins.untold, (omega (arith, none), let room = begins.room in omega (arith, none, room)));
      fifo = begins.fifo;
      behind = behind;
    }

pub xoff_drops_nothing : (x z : Modes) (pace : XoffPace) (end : Side) (a b : Link) (steps : List Step) → InEnd x a.left →
    InEnd z a.right → IsJoined a → LinkChain a steps b → IsPacedByXoff pace end a steps → DropsNothing (other end) a b
xoff_drops_nothing x z pace end a b steps w v joined chain paced d =
    chain_flows x z pace (beyond (at_end end a)) 0 (from_now_on (at_end end a) (at_end (other end) a)) end a b steps w v joined chain
    paced.few paced.each paced.in_time paced.obeyed
    (begins_flow pace (at_end end a) (at_end (other end) a) paced.begins (behind_at end a joined)) (drop_receivers _ _ d)
