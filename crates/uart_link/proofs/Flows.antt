-- Flow control loses nothing in its direction: over numbers, and then over calls of a link.
use Rattle.uart_link.proofs.Names.{◌≡◌, ◌⊎◌, inl, inr, ◌≤◌, ◌<◌, ◌+◌, ◌-◌, ℕ, Bool, true, false, nat_lt, List, [], ◌∷◌, length}
use Rattle.uart_link.proofs.Names.{length-append, refl, sym, ◌∙◌, ap, subst, arith, Option, Some, None, AllByRecursion, common_steps}
use Rattle.uart_link.proofs.Names.{length-drop, length-map, has_any, settings_of, Shifting, TransmitterState, held, shift_bytes, waiting}
use Rattle.uart_link.proofs.Names.{IsSound, Drop, drop_split, drop_receivers, Modes, characters, at_least_16, room_within, most_held}
use Rattle.uart_link.proofs.Names.{ring_fields, RingCall, RingAnswer, RingState, ring_machine, Moment, Side, Left, Right, Link, on_cable}
use Rattle.uart_link.proofs.Names.{receiver_at, IsJoined, OfEnd, Pace, beyond, receive_room, hold_of, AdjustsIfAny, SeesLines, IsPacedStep}
use Rattle.uart_link.proofs.Names.{arrived_in, since_call, since_at, AllInTime, BeginsPaced, IsPaced, DropsNothing, at_end, other, EndStep}
use Rattle.uart_link.proofs.Names.{Step, LinkChain}
use Rattle.uart_spec.specs.declared.registers.modem_control.TheConstants.MCR
use Rattle.uart_ring_runs.specs.declared.call.RingCall.TheVariants as call
use Rattle.uart_link.proofs.{Calm.no_drop_same, EndPasses.InEnd, LinkSteps.link_chain, LinkSteps.joined_after, Stretches.same_rooms}
use Rattle.uart_link.proofs.EndFlows.{waits, in_ring, sent_of, IsHeldBack, KeepsMcr, IsRtsOff, EndKept, EndFlows, end_moves, rts_off}

-- ---- numbers

-- at an end wait so many characters, its receive ring has room for so many, so many are to come, and so many have arrived since RTS
-- was adjusted: either few have, and there is room for what they let through; or RTS is off, and there is room for all. Of those that
-- come once RTS is off, all but 16 are counted in `cable`
abbrev Flows : (cable between since : ℕ) → (Off : Type 0) → (waits room line : ℕ) → Type 0
Flows cable between since Off waits room line =
    ((waits ≤ since) × (cable + between + waits ≤ room + since))
    ⊎ (Off × (waits + line ≤ room + 16) × ((waits ≤ since) ⊎ (waits + line ≤ 16)))

-- characters arrive, and are moved to the receive ring, from which some may be taken
flows_received : (c d since came moved f g r q l k : ℕ) (Off Still : Type 0) → (Off → Still) → g + moved ≤ f + came →
    r ≤ q + moved → k + came ≡ l → Flows c d since Off f r l → Flows c d (since + came) Still g q k
flows_received c d since came moved f g r q l k Off Still still waits room line (inl (few, h)) =
    inl (omega (arith, few, waits), omega (arith, h, waits, room))
flows_received c d since came moved f g r q l k Off Still still waits room line (inr (off, h, inl few)) =
    inr (still off, omega (arith, h, waits, room, line), inl (omega (arith, few, waits)))
flows_received c d since came moved f g r q l k Off Still still waits room line (inr (off, h, inr small)) =
    inr (still off, omega (arith, h, waits, room, line), inr (omega (arith, small, waits, line)))

-- the other end sends, unless it is held back
flows_sent : (c d since f r l k written : ℕ) (Off : Type 0) → k ≡ l + written → (Off → written ≡ 0) → Flows c d since Off f r l →
    Flows c d since Off f r k
flows_sent c d since f r l k written Off line held (inl h) = inl h
flows_sent c d since f r l k written Off line held (inr (off, h, inl few)) =
    let none = held off in inr (off, omega (arith, h, line, none), inl few)
flows_sent c d since f r l k written Off line held (inr (off, h, inr small)) =
    let none = held off in inr (off, omega (arith, h, line, none), inr (omega (arith, small, line, none)))

-- RTS is adjusted once nothing waits, or the ring is full
flows_adjusted : (c d since f r l hold : ℕ) (Off Now : Type 0) → since ≤ d → (f ≡ 0) ⊎ (r ≡ 0) → 1 ≤ c → l ≤ c + 16 → c + d ≤ hold →
    (r < hold → Now) → Flows c d since Off f r l → Flows c d 0 Now f r l
flows_adjusted c d since f r l hold Off Now few served some short mark off flow = go (nat_lt r hold) refl flow served
  where
    go : (b : Bool) → nat_lt r hold ≡ b → Flows c d since Off f r l → (f ≡ 0) ⊎ (r ≡ 0) → Flows c d 0 Now f r l
    go true e (inl h) (inl none) =
        let low : r < hold = grind (arith, common_steps) in
        inr (off low, omega (arith, h.1, none, short, few), inl (omega (arith, none)))
    go true e (inl h) (inr full) = absurd (omega (arith, h.1, full, few, some))
    go true e (inr h) (inl none) =
        let low : r < hold = grind (arith, common_steps) in inr (off low, h.1, inl (omega (arith, none)))
    go true e (inr h) (inr full) =
        let low : r < hold = grind (arith, common_steps) in inr (off low, h.1, inr (omega (arith, h.1, full)))
    go false e flow (inl none) =
        let high : hold ≤ r = grind (arith, common_steps) in
        inl (omega (arith, none), omega (arith, none, high, mark))
    go false e flow (inr full) = let high : hold ≤ r = grind (arith, common_steps) in absurd (omega (arith, high, full, mark, some))

-- there is room in the receiver for all that arrive
flows_room : (c d since came f r l k : ℕ) (Off : Type 0) → since + came ≤ d → d ≤ 16 → k + came ≡ l → Flows c d since Off f r l →
    f + came ≤ 16
flows_room c d since came f r l k Off few small line (inl h) = omega (arith, few, small, h.0)
flows_room c d since came f r l k Off few small line (inr (off, h, inl waits)) = omega (arith, few, small, waits)
flows_room c d since came f r l k Off few small line (inr (off, h, inr all)) = omega (arith, line, all)

-- ---- one direction

-- what has left a driver and has not arrived
abbrev pub line_of : (from to : RingState) → ℕ
line_of from to = sent_of from - (receiver_at to).arrived

-- the flow from one end to the other, whose transmitter may hold so many characters more than 16, if so many have arrived since RTS was
-- adjusted
record FlowsTo (pace : Pace) (extra since : ℕ) (from to : RingState) : Type 0 where
  pub held : most_held (ring_machine from).chip.transmitter ≡ extra + 16
  pub flow : Flows (pace.on_cable + extra) pace.between since (IsRtsOff to) (waits to) (receive_room to) (line_of from to)
  pub checks : (settings_of (ring_fields from).driver).checks ≡ true
  pub fifo : (ring_machine to).chip.fifo ≡ true
  pub behind : (receiver_at to).arrived ≤ length (ring_machine from).chip.transmitter.wire

pub sent_is : (s : RingState) → sent_of s ≡ length (ring_machine s).chip.transmitter.wire + length (held (ring_machine s).chip.transmitter)
sent_is s = length-append (ring_machine s).chip.transmitter.wire (held (ring_machine s).chip.transmitter)

-- the room falls by no more than what was moved to the ring
pub less_room : (s t : RingState) (moved : ℕ) → in_ring t ≤ in_ring s + moved →
    (ring_fields t).receive.capacity ≡ (ring_fields s).receive.capacity → receive_room s ≤ receive_room t + moved
less_room s t moved ring capacity = omega (arith, ring, capacity)

-- a call at the end that receives: the characters that came, and nothing of the other end
received : (pace : Pace) (extra since : ℕ) (Held Kept : Type 0) (s t r : RingState) → (e : EndFlows Held Kept s t) →
    (receiver_at t).arrived ≤ length (ring_machine r).chip.transmitter.wire → (Still : Type 0) → (IsRtsOff s → Still) →
    FlowsTo pace extra since r s →
    Flows (pace.on_cable + extra) pace.between (since + e.came) Still (waits t) (receive_room t) (line_of r t)
received pace extra since Held Kept s t r e behind Still still h =
    let all = sent_is r in
    let line : line_of r t + e.came ≡ line_of r s = omega (arith, e.arrived, behind, all) in
    flows_received (pace.on_cable + extra) pace.between since e.came e.moved (waits s) (waits t) (receive_room s) (receive_room t)
    (line_of r s) (line_of r t) (IsRtsOff s) Still still e.waiting (less_room s t e.moved e.ring e.capacity) line h.flow

-- and none of them is dropped
keeps_all : (pace : Pace) (extra since : ℕ) (Held Kept : Type 0) (s t r : RingState) → (e : EndFlows Held Kept s t) →
    (receiver_at t).arrived ≤ length (ring_machine r).chip.transmitter.wire → since + e.came ≤ pace.between →
    pace.between ≤ 16 → FlowsTo pace extra since r s → Drop (receiver_at s) (receiver_at t) → ⊥
keeps_all pace extra since Held Kept s t r e behind few small h =
    let all = sent_is r in
    let line : line_of r t + e.came ≡ line_of r s = omega (arith, e.arrived, behind, all) in
    let least = at_least_16 (receiver_at s).size in
    e.whole h.fifo (at_least least (flows_room (pace.on_cable + extra) pace.between since e.came (waits s) (receive_room s) (line_of r s)
    (line_of r t)
    (IsRtsOff s) few small line h.flow))
  where
    at_least : {i n : ℕ} → 16 ≤ n → i ≤ 16 → i ≤ n
    at_least h k = omega (arith, h, k)

-- a call at the end that sends
sent : (pace : Pace) (extra since : ℕ) (moments : List Moment) (Kept : Type 0) (s t r : RingState) →
    EndFlows (IsHeldBack moments (ring_machine r).chip) Kept s t → SeesLines moments →
    (receiver_at r).arrived ≤ length (ring_machine t).chip.transmitter.wire →
    (ring_machine t).chip.transmitter.size ≡ (ring_machine s).chip.transmitter.size → FlowsTo pace extra since s r →
    FlowsTo pace extra since t r
sent pace extra since moments Kept s t r e lines behind size h =
    let all = sent_is s in
    let line : line_of t r ≡ line_of s r + e.written = omega (arith, e.grows, all, h.behind) in
    record {
      held = ap (λ size. characters size + 1) size ∙ h.held;
      flow = flows_sent (pace.on_cable + extra) pace.between since (waits r) (receive_room r) (line_of s r) (line_of t r)
          e.written (IsRtsOff r) line
          (λ off. e.held h.checks (lines, rts_off r off)) h.flow;
      checks = e.checks ∙ h.checks;
      fifo = h.fifo;
      behind = behind;
    }

-- no more characters are in a transmitter than those of the FIFO and one
pub held_few : (m : TransmitterState) → length m.queue ≤ characters m.size → length (held m) ≤ most_held m
held_few m h =
    let all = length-append (shift_bytes m.shift_register) m.queue in
    let one = place m.shift_register in
    omega (arith, all, one, h)
  where
    place : (p : Option Shifting) → length (shift_bytes p) ≤ 1
    place None = omega arith
    place (Some s) = omega arith

line_short : (pace : Pace) (extra : ℕ) (from to : RingState) → IsSound (ring_machine from) →
    most_held (ring_machine from).chip.transmitter ≡ extra + 16 →
    length (on_cable (ring_machine from).chip (ring_machine to).chip) ≤ pace.on_cable → line_of from to ≤ (pace.on_cable + extra) + 16
line_short pace extra from to w held near =
    let t = (ring_machine from).chip.transmitter in
    let room = room_within (ring_machine from).chip.fifo t.size in
    let queue = w.chip.transmitter.in_room in
    let few = held_few t (omega (arith, room, queue)) in
    let all = sent_is from in
    let cable = length-drop (receiver_at to).arrived t.wire in
    omega (arith, few, all, cable, near, held)

-- a transmitter may hold more than 16
pub some_beyond : (extra : ℕ) (t : TransmitterState) → most_held t ≡ extra + 16 → 1 ≤ extra
some_beyond extra t held = let least = at_least_16 t.size in omega (arith, least, held)

-- ---- a call at one end

-- RTS is off as MCR has it
rts_same : (s t : RingState) → KeepsMcr s t → IsRtsOff s → IsRtsOff t
rts_same s t same off = ap (λ mcr. has_any mcr MCR.RTS.0) same ∙ off

pub none_waits : (s : RingState) → (waiting (ring_machine s) ≡ []) ⊎ (receive_room s ≡ 0) → (waits s ≡ 0) ⊎ (receive_room s ≡ 0)
none_waits s (inl none) = inl (sym (length-map (receiver_at s).queue (λ character. character.byte)) ∙ ap length none)
none_waits s (inr full) = inr full

-- the flow to the end that acts, after the call
after_call : (pace : Pace) (extra since : ℕ) (Held : Type 0) (c : RingCall) (s t r : RingState) → (e : EndFlows Held (EndKept c s t) s t) →
    AdjustsIfAny pace (hold_of c) t r → IsSound (ring_machine r) → since + e.came ≤ pace.between →
    (receiver_at t).arrived ≤ length (ring_machine r).chip.transmitter.wire → FlowsTo pace extra since r s →
    Flows (pace.on_cable + extra) pace.between (since_call (hold_of c) (since + e.came)) (IsRtsOff t) (waits t) (receive_room t)
    (line_of r t)
after_call pace extra since Held (call.AdjustRts marks) s t r e adjusts sound few behind h =
    flows_adjusted (pace.on_cable + extra) pace.between (since + e.came) (waits t) (receive_room t) (line_of r t) marks.hold (IsRtsOff s)
    (IsRtsOff t) few (none_waits t adjusts.served)
    (let some = some_beyond extra (ring_machine r).chip.transmitter h.held in omega (arith, some))
    (line_short pace extra r t sound h.held adjusts.near)
    (let mark = adjusts.mark in let held = h.held in omega (arith, mark, held)) e.kept
    (received pace extra since Held _ s t r e behind (IsRtsOff s) (λ off. off) h)
after_call pace extra since Held other s t r e adjusts sound few behind h =
    received pace extra since Held _ s t r e behind (IsRtsOff t) (λ off. rts_same s t e.kept off) h

-- a call at the receiving end: how many have come since RTS was adjusted
abbrev since_after : RingCall → (since : ℕ) → (s t : RingState) → ℕ
since_after c since s t = since_call (hold_of c) (since + ((receiver_at t).arrived - (receiver_at s).arrived))

-- the flow from one end to the other after a call, and that no character was dropped there
record Flowed (pace : Pace) (extra since : ℕ) (from to before : RingState) : Type 0 where
  pub flow : FlowsTo pace extra since from to
  pub whole : Drop (receiver_at before) (receiver_at to) → ⊥

-- the receiver at s acts, and the sender at r stays
receiver_acts : (x : Modes) (pace : Pace) (extra since : ℕ) (moments : List Moment) (c : RingCall) (a : RingAnswer) (s t r u : RingState) →
    InEnd x s → IsSound (ring_machine r) → EndStep moments r s c a t → u ≡ r → AdjustsIfAny pace (hold_of c) t u → pace.between ≤ 16 →
    since + ((receiver_at t).arrived - (receiver_at s).arrived) ≤ pace.between →
    (receiver_at t).arrived ≤ length (ring_machine u).chip.transmitter.wire → FlowsTo pace extra since r s →
    Flowed pace extra (since_after c since s t) u t s
receiver_acts x pace extra since moments c a s t r u w sound h same adjusts small few behind flows =
    let e = end_moves x moments r s t c a w h in
    let came : since + e.came ≡ since + ((receiver_at t).arrived - (receiver_at s).arrived) = omega (arith, e.arrived) in
    let within : since + e.came ≤ pace.between = omega (arith, came, few) in
    let A : RingState → Type 0 = λ o. AdjustsIfAny pace (hold_of c) t o in
    let B : RingState → Type 0 = λ o. (receiver_at t).arrived ≤ length (ring_machine o).chip.transmitter.wire in
    let N : ℕ → Type 0 = λ n. FlowsTo pace extra (since_call (hold_of c) n) r t in
    let S : RingState → Type 0 = λ o. FlowsTo pace extra (since_after c since s t) o t in
    let behind' = subst B same behind in
    record {
      flow = subst S (sym same) (subst N came (record {
        held = flows.held;
        flow = after_call pace extra since _ c s t r e (subst A same adjusts) sound within behind' flows;
        checks = flows.checks;
        fifo = e.fifo ∙ flows.fifo;
        behind = behind';
      }));
      whole = keeps_all pace extra since _ _ s t r e behind' within small flows;
    }

-- nothing came to the end that stays
still_number : (number : ℕ) (r u : RingState) → u ≡ r → number ≡ number + ((receiver_at u).arrived - (receiver_at r).arrived)
still_number number r u same =
    let e : (receiver_at u).arrived ≡ (receiver_at r).arrived = ap (λ (o : RingState). (receiver_at o).arrived) same in omega (arith, e)

pub no_drop_still : (r u : RingState) → u ≡ r → Drop (receiver_at r) (receiver_at u) → ⊥
no_drop_still r u same d =
    no_drop_same (receiver_at r) (receiver_at u) (ap (λ (o : RingState). (receiver_at o).marks) same)
    (ap (λ (o : RingState). (receiver_at o).is_unscheduled_lost) same) d

-- the sender at s acts, and the receiver at r stays
sender_acts : (x : Modes) (pace : Pace) (extra since : ℕ) (moments : List Moment) (c : RingCall) (a : RingAnswer) (s t r u : RingState) →
    InEnd x s → EndStep moments r s c a t → u ≡ r → SeesLines moments →
    (receiver_at u).arrived ≤ length (ring_machine t).chip.transmitter.wire →
    (ring_machine t).chip.transmitter.size ≡ (ring_machine s).chip.transmitter.size → FlowsTo pace extra since s r →
    Flowed pace extra (since + ((receiver_at u).arrived - (receiver_at r).arrived)) t u r
sender_acts x pace extra since moments c a s t r u w h same lines behind size flows =
    let B : RingState → Type 0 = λ o. (receiver_at o).arrived ≤ length (ring_machine t).chip.transmitter.wire in
    let R : RingState → Type 0 = λ o. FlowsTo pace extra since t o in
    let N : ℕ → Type 0 = λ n. FlowsTo pace extra n t u in
    let e = end_moves x moments r s t c a w h in
    record {
      flow = subst N (still_number since r u same)
          (subst R (sym same) (sent pace extra since moments _ s t r e lines (subst B same behind) size flows));
      whole = no_drop_still r u same;
    }

-- ---- calls of a link

-- the same from an end to the other one
abbrev FlowedTo : Pace → (extra since : ℕ) → (end : Side) → (a b : Link) → Type 0
FlowedTo pace extra since end a b = Flowed pace extra since (at_end end b) (at_end (other end) b) (at_end (other end) a)

step_flows : (x y : Modes) (pace : Pace) (extra since : ℕ) (end side : Side) (moments : List Moment) (c : RingCall) (answer : RingAnswer)
    (a b : Link) → InEnd x a.left → InEnd y a.right →
    EndStep moments (at_end (other side) a) (at_end side a) c answer (at_end side b) → at_end (other side) b ≡ at_end (other side) a →
    IsJoined b → OfEnd end side (SeesLines moments) →
    OfEnd (other end) side (AdjustsIfAny pace (hold_of c) (at_end (other end) b) (at_end end b)) → pace.between ≤ 16 →
    since + ((receiver_at (at_end (other end) b)).arrived - (receiver_at (at_end (other end) a)).arrived) ≤ pace.between →
    (ring_machine (at_end end b)).chip.transmitter.size ≡ (ring_machine (at_end end a)).chip.transmitter.size →
    FlowsTo pace extra since (at_end end a) (at_end (other end) a) →
    FlowedTo pace extra (since_at (other end) side (hold_of c)
    (since + ((receiver_at (at_end (other end) b)).arrived - (receiver_at (at_end (other end) a)).arrived))) end a b
step_flows x y pace extra since Left Left moments c answer a b w v h same joined lines adjusts small few size flows =
    sender_acts x pace extra since moments c answer a.left b.left a.right b.right w h same lines joined.right.behind size flows
step_flows x y pace extra since Right Right moments c answer a b w v h same joined lines adjusts small few size flows =
    sender_acts y pace extra since moments c answer a.right b.right a.left b.left v h same lines joined.left.behind size flows
step_flows x y pace extra since Left Right moments c answer a b w v h same joined lines adjusts small few size flows =
    receiver_acts y pace extra since moments c answer a.right b.right a.left b.left v w.session.stands.sound h same adjusts small few
    joined.right.behind flows
step_flows x y pace extra since Right Left moments c answer a b w v h same joined lines adjusts small few size flows =
    receiver_acts x pace extra since moments c answer a.left b.left a.right b.right w v.session.stands.sound h same adjusts small few
    joined.left.behind flows

chain_flows : (x y : Modes) (pace : Pace) (extra since : ℕ) (end : Side) (a b : Link) (steps : List Step) → InEnd x a.left →
    InEnd y a.right → IsJoined a → LinkChain a steps b → pace.between ≤ 16 → AllByRecursion (IsPacedStep pace end) steps →
    AllInTime (other end) pace.between since steps → FlowsTo pace extra since (at_end end a) (at_end (other end) a) →
    Drop (receiver_at (at_end (other end) a)) (receiver_at (at_end (other end) b)) → ⊥
chain_flows x y pace extra since end a b [] w v joined h small each in_time flow d =
    no_drop_still (at_end (other end) a) (at_end (other end) b) (ap (λ (o : Link). at_end (other end) o) h) d
chain_flows x y pace extra since end a b (step ∷ steps) w v joined h small each in_time flow d =
    let here = sym h.0 in
    let to = other end in
    let w' = subst (λ (o : Link). InEnd x o.left) here w in
    let v' = subst (λ (o : Link). InEnd y o.right) here v in
    let joined' = subst (λ (o : Link). IsJoined o) here joined in
    let one = link_chain x y step.before step.after (step ∷ []) w' v' joined' (refl, h.1, refl) in
    let after = joined_after x y _ _ _ _ step.before step.after one in
    let flowed = step_flows x y pace extra since end step.call.side step.call.moments.items step.call.call step.answer step.before
    step.after w' v' h.1.0 h.1.1 after each.0.lines each.0.adjusts small in_time.0
    (same_rooms x y end (step ∷ []) step.before step.after (record { left = w'; right = v'; joined = joined' }) (refl, h.1, refl)).size
    (subst (λ (o : Link). FlowsTo pace extra since (at_end end o) (at_end to o)) here flow) in
    let now = since_at to step.call.side (hold_of step.call.call) (since + arrived_in to step) in
    let rest = chain_flows x y pace extra now end step.after b steps one.in_left one.in_right after h.2 small each.1 in_time.1
    flowed.flow in
    split (subst (λ (o : Link). Drop (receiver_at (at_end to o)) (receiver_at (at_end to step.after)) → ⊥) h.0 flowed.whole) rest
    (drop_split (receiver_at (at_end to a)) (receiver_at (at_end to step.after)) (receiver_at (at_end to b)) d)
  where
    split : {A B : Type 0} → (A → ⊥) → (B → ⊥) → A ⊎ B → ⊥
    split f g (inl p) = f p
    split f g (inr q) = g q

-- at first
begins_flow : (pace : Pace) (from to : RingState) → BeginsPaced pace from to →
    (receiver_at to).arrived ≤ length (ring_machine from).chip.transmitter.wire → FlowsTo pace (beyond from) 0 from to
begins_flow pace from to begins behind =
    let none : waits to ≡ 0 =
    sym (length-map (receiver_at to).queue (λ character. character.byte)) ∙ ap length begins.empty in
    let least = at_least_16 (ring_machine from).chip.transmitter.size in
    record {
      held = omega (arith, least);
      flow = inl (omega (arith, none), let room = begins.room in omega (arith, none, room));
      checks = begins.checks;
      fifo = begins.fifo;
      behind = behind;
    }

pub behind_at : (end : Side) (a : Link) → IsJoined a →
    (receiver_at (at_end (other end) a)).arrived ≤ length (ring_machine (at_end end a)).chip.transmitter.wire
behind_at Left a joined = joined.right.behind
behind_at Right a joined = joined.left.behind

pub drops_nothing : (x y : Modes) (pace : Pace) (end : Side) (a b : Link) (steps : List Step) → InEnd x a.left →
    InEnd y a.right → IsJoined a → LinkChain a steps b → IsPaced pace end a steps → DropsNothing (other end) a b
drops_nothing x y pace end a b steps w v joined chain paced d =
    chain_flows x y pace (beyond (at_end end a)) 0 end a b steps w v joined chain paced.few paced.each paced.in_time
    (begins_flow pace (at_end end a) (at_end (other end) a) paced.begins (behind_at end a joined)) (drop_receivers _ _ d)
