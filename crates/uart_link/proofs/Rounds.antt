-- Each round brings a byte nearer; so after rounds enough all has been taken that was queued.
use Rattle.uart_link.proofs.Names.{◌≡◌, ℕ, zero, suc, ◌+◌, ◌-◌, ◌<◌, ◌≤◌, Bool, true, false, List, [], ◌∷◌, ◌++◌, length, take, drop}
use Rattle.uart_link.proofs.Names.{append_assoc, length-append, refl, sym, ◌∙◌, ap, subst, arith, nat_lt, filter, map, None, ◌⊎◌, inl, inr}
use Rattle.uart_link.proofs.Names.{common_steps, length-drop, length-map, nil_from_length, take-append-le, take-append-drop, map-append}
use Rattle.uart_link.proofs.Names.{take-append_seam, length-filter, count_by-le-length, Event, has_any, Access, never_on, Modes}
use Rattle.uart_link.proofs.Names.{Went as Stretch, arriving_cut, loopback-in, ChipState, origin_stands, stands, waiting as received, out}
use Rattle.uart_link.proofs.Names.{ReceiverState, shift_bytes, TransmitterState, held, Character, Origin, IsUnheld, data_written, to_take}
use Rattle.uart_link.proofs.Names.{to_send, queued_by, RingState, ring_machine, RingCall, Side, Left, Right, Link, brought, on_cable}
use Rattle.uart_link.proofs.Names.{byte_of, left_in, of_end, receiver_at, to_be_taken, on_the_way, queued_at, gone_at, bytes_gone}
use Rattle.uart_link.proofs.Names.{AllKeepOrderAt, IsJoined, OfEnd, DropsNothing, CarriesAll, hold_of, at_end, other, Step, EndStep}
use Rattle.uart_link.proofs.Names.{LinkChain, LinkCallStep, Progresses, PassTime, BringAll, HandlesAll, TakesAll, Begin, Comes, HasRounds}
use Rattle.uart_link.proofs.Names.{arrives_in, in_calls_at, enough_ticks, chip_at, transmitter_at, NoneAdjusts, KeepsRtsOn, NoneArrives}
use Rattle.uart_link.proofs.Names.{EmptiesReceiver, SendsOn, LeavesArmed, AllLeaveArmed, NoLineAt}
use Rattle.uart_spec.specs.declared.registers.modem_control.TheConstants.MCR
use Rattle.uart_ring_runs.specs.declared.call.RingCall.TheVariants as call
use Rattle.uart_link.proofs.EndFlows.{sent_of, waits, EndKept, KeepsMcr, end_moves, adjusts_on, rts_on}
use Rattle.uart_link.proofs.{EndPasses.InEnd, EndPasses.EndPasses, LinkSteps.Brings, LinkSteps.LinkPasses, LinkSteps.link_chain}
use Rattle.uart_link.proofs.{LinkSteps.joined_after, Resumes.IsThrEmpty, SendsOn.resumed, SendsOn.handled_on, SendsOn.leaves_armed}
use Rattle.uart_link.proofs.{Taking.handled_all, Taking.taken_all}
use Rattle.uart_link.proofs.Stretches.{Going, going_after, in_end, does_at, time_passes, all_arrives, same_rooms}

-- ---- numbers

-- how many bytes have left the chip at an end; how many have arrived; how many wait to be sent; and how many there have been
abbrev gone_out : RingState → ℕ
gone_out s = length (ring_machine s).chip.transmitter.wire

abbrev come_in : RingState → ℕ
come_in s = (ring_machine s).chip.receiver.arrived

abbrev unsent : RingState → ℕ
unsent s = length (to_send s)

abbrev all_of : RingState → ℕ
all_of s = sent_of s + unsent s

-- no more characters wait than waited and came
more_wait : (x : Modes) (c d : ChipState) (events : List Event) (made : List Access) (written : List ℕ) (takes : List Character) →
    Stretch x c d events made written takes →
    length d.receiver.queue + c.receiver.arrived ≤ length c.receiver.queue + d.receiver.arrived
more_wait x c d events made written takes w =
    let r = c.receiver in
    let s = d.receiver in
    let came = arriving_cut x.cut r.arrived events in
    let same : length (filter (stands s) (r.queue ++ came)) ≡ length (takes ++ s.queue) = ap length w.receives.moved.stay in
    let few : length (filter (stands s) (r.queue ++ came)) ≤ length (r.queue ++ came) =
    subst (λ k. k ≤ length (r.queue ++ came)) (sym (length-filter (stands s) (r.queue ++ came)))
    (count_by-le-length (stands s) (r.queue ++ came)) in
    let all = length-append r.queue came in
    let parts = length-append takes s.queue in
    let number = w.receives.number in
    omega (arith, same, few, all, parts, number)

-- from one end to the other
record Numbers (Order : Type 0) (queued : List ℕ) (s t r u : RingState) : Type 0 where
  pub all : Order → all_of t ≡ all_of s + length queued
  pub sent : sent_of s ≤ sent_of t
  pub gone : gone_out s ≤ gone_out t
  pub come : come_in r ≤ come_in u
  pub behind : come_in u ≤ gone_out t
  pub waiting : waits u + come_in r ≤ waits r + come_in u

numbers : (x y : Modes) (A B N O : Type 0) (q p e g : List ℕ) (s t r u : RingState) (f : List Event) (events : List Event) →
    EndPasses x A q N s t e f → EndPasses y B p O r u g events → Brings s t r u events → Numbers A q s t r u
numbers x y A B N O q past e g s t r u f events p o b =
    let sizes : sent_of t ≡ length (out (ring_machine s) ++ map x.cut (data_written p.made)) = ap length p.went.sends.grows in
    let sums = length-append (out (ring_machine s)) (map x.cut (data_written p.made)) in
    let same = length-map (data_written p.made) x.cut in
    let grown : gone_out t ≡ length ((ring_machine s).chip.transmitter.wire ++ b.grown.0) = ap length b.grown.1 in
    let longer = length-append (ring_machine s).chip.transmitter.wire b.grown.0 in
    let c = b.crosses in
    let wire = (ring_machine t).chip.transmitter.wire in
    let crossed : length (drop (come_in r) wire) ≡ length (brought events ++ drop (come_in u) wire) = ap length c.same in
    let before = length-drop (come_in r) wire in
    let after = length-drop (come_in u) wire in
    let parts = length-append (brought events) (drop (come_in u) wire) in
    record {
      all = λ order.
          let kept : length (data_written p.made ++ to_send t) ≡ length (to_send s ++ q) = ap length (p.sent order) in
          let first = length-append (data_written p.made) (to_send t) in
          let second = length-append (to_send s) q in
          omega (arith, sizes, sums, same, kept, first, second);
      sent = omega (arith, sizes, sums);
      gone = omega (arith, grown, longer);
      come = omega (arith, crossed, before, after, parts, c.starts, c.ends);
      behind = c.ends;
      waiting = more_wait _ _ _ _ _ _ _ o.went;
    }

-- ---- a part of a run

record Went (x y : Modes) (end : Side) (steps : List Step) (a b : Link) : Type 0 where
  pub numbers : Numbers (AllKeepOrderAt end steps) (queued_at end steps) (at_end end a) (at_end end b) (at_end (other end) a)
      (at_end (other end) b)
  pub going : Going x y b

goes : (x y : Modes) (end : Side) (steps : List Step) (a b : Link) → Going x y a → LinkChain a steps b → Went x y end steps a b
goes x y end steps a b g chain =
    let p = link_chain x y a b steps g.left g.right g.joined chain in
    record { numbers = at end p; going = record { left = p.in_left; right = p.in_right; joined = joined_after x y _ _ _ _ a b p } }
  where
    at : (end : Side) →
        LinkPasses x y (λ end. AllKeepOrderAt end steps) (λ end. NoLineAt end steps) (λ end. queued_at end steps)
        (λ end. bytes_gone end steps) a b →
        Numbers (AllKeepOrderAt end steps) (queued_at end steps) (at_end end a) (at_end end b) (at_end (other end) a)
        (at_end (other end) b)
    at Left p = numbers x y _ _ _ _ _ _ _ _ a.left b.left a.right b.right _ _ p.left p.right p.rightward
    at Right p = numbers y x _ _ _ _ _ _ _ _ a.right b.right a.left b.left _ _ p.right p.left p.leftward

-- a part is in two
record Split (a : Link) (front back : List Step) (b : Link) : Type 0 where
  pub mid : Link
  pub first : LinkChain a front mid
  pub second : LinkChain mid back b

split : (front back : List Step) (a b : Link) → LinkChain a (front ++ back) b → Split a front back b
split [] back a b h = record { mid = a; first = refl; second = h }
split (step ∷ front) back a b h =
    let r = split front back step.after b h.2 in record { mid = r.mid; first = (h.0, h.1, r.first); second = r.second }

pub joined_chains : (front back : List Step) (a b c : Link) → LinkChain a front b → LinkChain b back c → LinkChain a (front ++ back) c
joined_chains [] back a b c h k = subst (λ (o : Link). LinkChain o back c) h k
joined_chains (step ∷ front) back a b c h k = (h.0, h.1, joined_chains front back step.after b c h.2 k)

pub order_front : (end : Side) (front back : List Step) → AllKeepOrderAt end (front ++ back) → AllKeepOrderAt end front
order_front end [] back h = tt
order_front end (step ∷ front) back h = (h.0, order_front end front back h.1)

pub order_back : (end : Side) (front back : List Step) → AllKeepOrderAt end (front ++ back) → AllKeepOrderAt end back
order_back end [] back h = h
order_back end (step ∷ front) back h = order_back end front back h.1

-- ---- the first call of a kind

-- such a call was found: the calls up to it, what it did, and the calls after it
record Found (x y : Modes) (end : Side) (Such : Step → Type 0) (Follow : List Step → Type 0) (steps : List Step) (a b : Link) :
    Type 0 where
  pub front : List Step
  pub step : Step
  pub back : List Step
  pub whole : steps ≡ (front ++ step ∷ []) ++ back
  pub before : Went x y end front a step.before
  pub does : LinkCallStep step.before step.call step.answer step.after
  pub after : Went x y end (step ∷ []) step.before step.after
  pub first : LinkChain a (front ++ step ∷ []) step.after
  pub second : LinkChain step.after back b
  pub such : Such step
  pub follow : Follow back

find : (x y : Modes) (end : Side) (Such : Step → Type 0) (Follow : List Step → Type 0) (steps : List Step) (a b : Link) →
    Going x y a → LinkChain a steps b → Comes Such Follow steps → Found x y end Such Follow steps a b
find x y end Such Follow steps a b g chain (front, step, back, whole, such, follow) =
    let C : List Step → Type 0 = λ zs. LinkChain a zs b in
    let s = split front (step ∷ back) a b (subst C whole chain) in
    let T : Link → Type 0 = λ o. LinkChain a front o in
    let first = subst T (sym s.second.0) s.first in
    let before = goes x y end front a step.before g first in
    let one : LinkChain step.before (step ∷ []) step.after = (refl, s.second.1, refl) in
    record {
      front = front;
      step = step;
      back = back;
      whole = whole ∙ sym (append_assoc front (step ∷ []) back);
      before = before;
      does = s.second.1;
      after = goes x y end (step ∷ []) step.before step.after before.going one;
      first = joined_chains front (step ∷ []) a step.before step.after first one;
      second = s.second.2;
      such = such;
      follow = follow;
    }

-- such calls come first
record Cut (x y : Modes) (end : Side) (Such Follow : List Step → Type 0) (steps : List Step) (a b : Link) : Type 0 where
  pub part : List Step
  pub rest : List Step
  pub mid : Link
  pub whole : steps ≡ part ++ rest
  pub first : LinkChain a part mid
  pub second : LinkChain mid rest b
  pub during : Went x y end part a mid
  pub such : Such part
  pub follow : Follow rest

cut : (x y : Modes) (end : Side) (Such Follow : List Step → Type 0) (steps : List Step) (a b : Link) → Going x y a →
    LinkChain a steps b → Begin Such Follow steps → Cut x y end Such Follow steps a b
cut x y end Such Follow steps a b g chain (part, rest, whole, such, follow) =
    let C : List Step → Type 0 = λ zs. LinkChain a zs b in
    let s = split part rest a b (subst C whole chain) in
    record {
      part = part;
      rest = rest;
      mid = s.mid;
      whole = whole;
      first = s.first;
      second = s.second;
      during = goes x y end part a s.mid g s.first;
      such = such;
      follow = follow;
    }

-- ---- room

-- a character takes so many ticks, there is room for so many bytes, and flow control is left to the driver of the sender
record Roomy (end : Side) (ticks total : ℕ) (a : Link) : Type 0 where
  pub pace : enough_ticks (transmitter_at end a) ≡ ticks
  pub wire : total ≤ (transmitter_at end a).capacity
  pub arrivals : total ≤ length (chip_at (other end) a).receiver.marks
  pub flow : (chip_at end a).auto_flow ≡ false

roomy_after : (x y : Modes) (end : Side) (ticks total : ℕ) (steps : List Step) (a b : Link) → Going x y a → LinkChain a steps b →
    Roomy end ticks total a → Roomy end ticks total b
roomy_after x y end ticks total steps a b g chain r =
    let here = same_rooms x y end steps a b g chain in
    let there = same_rooms x y (other end) steps a b g chain in
    record {
      pace = rw (here.size, here.char_ticks) r.pace;
      wire = let h = r.wire in let e = here.capacity in omega (arith, h, e);
      arrivals = let h = r.arrivals in let e = there.marks in omega (arith, h, e);
      flow = here.flow ∙ r.flow;
    }

pub queued_append : (end : Side) (front back : List Step) →
    length (queued_at end (front ++ back)) ≡ length (queued_at end front) + length (queued_at end back)
queued_append end [] back = omega arith
queued_append end (step ∷ front) back =
    let one = of_end end step.call.side (queued_by step.call.call step.answer) in
    let rest = queued_append end front back in
    let all = length-append one (queued_at end (front ++ back)) in
    let some = length-append one (queued_at end front) in
    omega (arith, rest, all, some)

-- ---- one call of an end

other_other : (end : Side) → other (other end) ≡ end
other_other Left = refl
other_other Right = refl

-- time has passed: all that had left the driver has left the chip
passed_time : (x y : Modes) (end : Side) (ticks total : ℕ) (part : List Step) (a b : Link) → Going x y a → LinkChain a part b →
    Roomy end ticks total a → all_of (at_end end a) ≤ total → PassTime ticks end part → sent_of (at_end end a) ≤ gone_out (at_end end b)
passed_time x y end ticks total part a b g chain r few p =
    let room = r.wire in
    let same = r.pace in
    time_passes x y end part a b g chain p.happened (let h = p.enough in omega (arith, h, same)) (omega (arith, few, room))
    r.flow

-- all has arrived: what had left the other chip
brought_time : (x y : Modes) (end : Side) (ticks total : ℕ) (part : List Step) (a b : Link) → Going x y a → LinkChain a part b →
    Roomy end ticks total a → all_of (at_end end a) ≤ total → BringAll (other end) part →
    gone_out (at_end end a) ≤ come_in (at_end (other end) b)
brought_time x y end ticks total part a b g chain r few p =
    let to = other end in
    let C : List Step → Type 0 = λ zs. LinkChain a zs b in
    let begun = subst C p.begin chain in
    let here : p.first.before ≡ a = begun.0 in
    let enough : length (on_cable (chip_at (other to) a) (chip_at to a)) ≤ in_calls_at arrives_in to part =
    subst (λ (o : Link). length (on_cable (chip_at (other to) o) (chip_at to o)) ≤ in_calls_at arrives_in to part) here p.enough in
    let t = transmitter_at end a in
    let sum = length-append t.wire (held t) in
    let marks = r.arrivals in
    let short : gone_out (at_end end a) ≤ length (chip_at to a).receiver.marks = omega (arith, sum, few, marks) in
    let room : gone_out (at_end (other to) a) ≤ length (chip_at to a).receiver.marks =
    subst (λ z. gone_out (at_end z a) ≤ length (chip_at to a).receiver.marks) (sym (other_other end)) short in
    let all : gone_out (at_end (other to) a) ≤ come_in (at_end to b) = all_arrives x y to part a b g chain p.happened enough room in
    subst (λ z. gone_out (at_end z a) ≤ come_in (at_end to b)) (other_other end) all

-- the handler has run: nothing waits in the receiver
handled_queue : (end : Side) (step : Step) → LinkCallStep step.before step.call step.answer step.after → HandlesAll end step →
    (chip_at end step.after).receiver.queue ≡ []
handled_queue end step h p =
    let r = p.runs in
    handled_all step.call.moments.items (at_end (other end) step.before) (at_end end step.before) (at_end end step.after) step.call.call
    step.answer (does_at end step.call.call step r.side refl h) r.served p.enabled p.told

handled_time : (end : Side) (step : Step) → LinkCallStep step.before step.call step.answer step.after → HandlesAll end step →
    waits (at_end end step.after) ≡ 0
handled_time end step h p = ap length (handled_queue end step h p)

-- and the program has taken: nothing is left in the receive ring
taken_time : (end : Side) (step : Step) → LinkCallStep step.before step.call step.answer step.after → TakesAll end step →
    to_take (at_end end step.after) ≡ []
taken_time end step h p =
    taken_all step.call.moments.items (at_end (other end) step.before) (at_end end step.before) (at_end end step.after) p.slots p.bytes
    step.answer (does_at end (call.Take p.slots) step p.side p.call h) p.answer p.more_slots

-- sending goes on: a byte leaves the rings
sent_on : (x y : Modes) (end : Side) (step : Step) → Going x y step.before → LinkCallStep step.before step.call step.answer step.after →
    SendsOn end step → 0 < unsent (at_end end step.before) → IsThrEmpty (transmitter_at end step.before) →
    unsent (at_end end step.after) < unsent (at_end end step.before)
sent_on x y end step g h (inl p) some empty =
    let e = in_end x y end step.before g in
    resumed e.0 step.call.moments.items (at_end (other end) step.before) (at_end end step.before) (at_end end step.after) step.answer e.1
    (does_at end call.ResumeTransmit step p.side p.call h) p.lines p.clear p.free some empty
sent_on x y end step g h (inr p) some empty =
    let e = in_end x y end step.before g in
    let r = p.runs in
    handled_on e.0 step.call.moments.items (at_end (other end) step.before) (at_end end step.before) (at_end end step.after) step.call.call
    step.answer e.1 (does_at end step.call.call step r.side refl h) r.served p.unchecked p.armed p.free some empty

-- ---- rounds

-- the first four parts of a round, and what follows
abbrev FirstOf : Side → ℕ → (List Step → Type 0) → List Step → Type 0
FirstOf end ticks Follow =
    let to = other end in Begin (PassTime ticks end) (Begin (BringAll to) (Comes (HandlesAll to) (Comes (TakesAll to) Follow)))

-- after these
record Served (x y : Modes) (end : Side) (Follow : List Step → Type 0) (steps : List Step) (a b : Link) : Type 0 where
  pub front : List Step
  pub back : List Step
  pub mid : Link
  pub whole : steps ≡ front ++ back
  pub first : LinkChain a front mid
  pub second : LinkChain mid back b
  pub going : Going x y mid
  pub none : to_take (at_end (other end) mid) ≡ []
  pub come : sent_of (at_end end a) + waits (at_end (other end) mid) ≤ come_in (at_end (other end) mid)
  pub gone : sent_of (at_end end a) ≤ gone_out (at_end end mid)
  pub follow : Follow back

served : (x y : Modes) (end : Side) (ticks total : ℕ) (Follow : List Step → Type 0) (steps : List Step) (a b : Link) → Going x y a →
    LinkChain a steps b → AllKeepOrderAt end steps → Roomy end ticks total a →
    all_of (at_end end a) + length (queued_at end steps) ≤ total → FirstOf end ticks Follow steps → Served x y end Follow steps a b
served x y end ticks total Follow steps a b g chain order roomy fits comes =
    let p = cut x y end _ _ steps a b g chain comes in
    let q = cut x y end _ _ p.rest p.mid b p.during.going p.second p.follow in
    let h = find x y end _ _ q.rest q.mid b q.during.going q.second q.follow in
    let r = find x y end _ _ h.back h.step.after b h.after.going h.second h.follow in
    let O : List Step → Type 0 = λ zs. AllKeepOrderAt end zs in
    let all = p.during.numbers.all (order_front end p.part p.rest (subst O p.whole order)) in
    let sum : length (queued_at end steps) ≡ length (queued_at end p.part) + length (queued_at end p.rest) =
    ap (λ (zs : List Step). length (queued_at end zs)) p.whole ∙ queued_append end p.part p.rest in
    let passed = passed_time x y end ticks total p.part a p.mid g p.first roomy (omega (arith, fits)) p.such in
    let brought = brought_time x y end ticks total q.part p.mid q.mid p.during.going q.first
    (roomy_after x y end ticks total p.part a p.mid g p.first roomy) (omega (arith, all, sum, fits)) q.such in
    let handled = handled_time (other end) h.step h.does h.such in
    let third = h.front ++ h.step ∷ [] in
    let fourth = r.front ++ r.step ∷ [] in
    record {
      front = p.part ++ (q.part ++ (third ++ fourth));
      back = r.back;
      mid = r.step.after;
      whole = in_one p.part q.part third fourth steps p.rest q.rest h.back r.back p.whole q.whole h.whole r.whole;
      first = joined_chains p.part (q.part ++ (third ++ fourth)) a p.mid r.step.after p.first
          (joined_chains q.part (third ++ fourth) p.mid q.mid r.step.after q.first
          (joined_chains third fourth q.mid h.step.after r.step.after h.first r.first));
      second = r.second;
      going = r.after.going;
      none = taken_time (other end) r.step r.does r.such;
      come = omega (
        arith,
        passed,
        brought,
        handled,
        h.before.numbers.come,
        h.after.numbers.come,
        r.before.numbers.waiting,
        r.after.numbers.waiting,
      );
      gone = omega (
        arith,
        passed,
        q.during.numbers.gone,
        h.before.numbers.gone,
        h.after.numbers.gone,
        r.before.numbers.gone,
        r.after.numbers.gone,
      );
      follow = r.follow;
    }
  where
    in_one : (first second third fourth steps one two three rest : List Step) → steps ≡ first ++ one → one ≡ second ++ two →
        two ≡ third ++ three → three ≡ fourth ++ rest → steps ≡ (first ++ (second ++ (third ++ fourth))) ++ rest
    in_one first second third fourth steps one two three rest a b c d =
        rw (
          a,
          b,
          c,
          d,
          append_assoc first (second ++ (third ++ fourth)) rest,
          append_assoc second (third ++ fourth) rest,
          append_assoc third fourth rest,
        ) refl

-- nothing is held that has left the chip
thr_empty : (t : TransmitterState) → length t.wire + length (held t) ≤ length t.wire → IsThrEmpty t
thr_empty t h = go t.queue refl
  where
    go : (queue : List ℕ) → t.queue ≡ queue → queue ≡ []
    go [] e = refl
    go (x ∷ xs) e =
        let parts = length-append (shift_bytes t.shift_register) t.queue in
        let some : length t.queue ≡ suc (length xs) = ap length e in
        absurd (omega (arith, h, parts, some))

-- a round: one byte fewer is left to be sent of those that there were at first
record Round (x y : Modes) (end : Side) (ticks total : ℕ) (Follow : List Step → Type 0) (goal left : ℕ) (steps : List Step) (a b : Link) :
    Type 0 where
  pub front : List Step
  pub back : List Step
  pub mid : Link
  pub whole : steps ≡ front ++ back
  pub first : LinkChain a front mid
  pub second : LinkChain mid back b
  pub going : Going x y mid
  pub all : goal ≤ all_of (at_end end mid)
  pub sent : goal ≤ sent_of (at_end end mid) + left
  pub roomy : Roomy end ticks total mid
  pub fits : all_of (at_end end mid) + length (queued_at end back) ≤ total
  pub follow : Follow back

one_round : (x y : Modes) (end : Side) (ticks total : ℕ) (Follow : List Step → Type 0) (goal left : ℕ) (steps : List Step) (a b : Link) →
    Going x y a → LinkChain a steps b → AllKeepOrderAt end steps → Roomy end ticks total a →
    all_of (at_end end a) + length (queued_at end steps) ≤ total → goal ≤ all_of (at_end end a) →
    goal ≤ sent_of (at_end end a) + suc left → FirstOf end ticks (Comes (SendsOn end) Follow) steps →
    Round x y end ticks total Follow goal left steps a b
one_round x y end ticks total Follow goal left steps a b g chain order roomy fits all near comes =
    let v = served x y end ticks total (Comes (SendsOn end) Follow) steps a b g chain order roomy fits comes in
    let w = find x y end _ _ v.back v.mid b v.going v.second v.follow in
    let O : List Step → Type 0 = λ zs. AllKeepOrderAt end zs in
    let whole_order : AllKeepOrderAt end (v.front ++ v.back) = subst O v.whole order in
    let front_order = order_front end v.front v.back whole_order in
    let back_order : AllKeepOrderAt end ((w.front ++ w.step ∷ []) ++ w.back) =
    subst O w.whole (order_back end v.front v.back whole_order) in
    let last_order = order_front end (w.front ++ w.step ∷ []) w.back back_order in
    let to_mid = goes x y end v.front a v.mid g v.first in
    let all_mid = to_mid.numbers.all front_order in
    let all_before = w.before.numbers.all (order_front end w.front (w.step ∷ []) last_order) in
    let all_after = w.after.numbers.all (order_back end w.front (w.step ∷ []) last_order) in
    record {
      front = v.front ++ (w.front ++ w.step ∷ []);
      back = w.back;
      mid = w.step.after;
      whole = v.whole ∙ (ap (λ (zs : List Step). v.front ++ zs) w.whole ∙
          sym (append_assoc v.front (w.front ++ w.step ∷ []) w.back));
      first = joined_chains v.front (w.front ++ w.step ∷ []) a v.mid w.step.after v.first w.first;
      second = w.second;
      going = w.after.going;
      all = omega (arith, all, all_mid, all_before, all_after);
      sent =
          let s = at_end end w.step.before in
          let t = at_end end w.step.after in
          let more = to_mid.numbers.sent in
          let later = w.before.numbers.sent in
          let last = w.after.numbers.sent in
          let room = v.gone in
          let kept = w.before.numbers.gone in
          let parts = length-append (ring_machine s).chip.transmitter.wire (held (ring_machine s).chip.transmitter) in
          further (sent_of (at_end end a)) (sent_of s) (sent_of t) (unsent s) (omega (arith, more, later)) last near
          (λ same some. let empty : IsThrEmpty (transmitter_at end w.step.before) =
          thr_empty (transmitter_at end w.step.before) (omega (arith, same, room, kept, parts)) in
          let fewer = sent_on x y end w.step w.before.going w.does w.such some empty in
          omega (arith, fewer, all_after))
          (omega (arith, all, all_mid, all_before));
      roomy = roomy_after x y end ticks total (w.front ++ w.step ∷ []) v.mid w.step.after v.going w.first
          (roomy_after x y end ticks total v.front a v.mid g v.first roomy);
      fits =
          let whole_sum : length (queued_at end steps) ≡ length (queued_at end v.front) + length (queued_at end v.back) =
          ap (λ (zs : List Step). length (queued_at end zs)) v.whole ∙ queued_append end v.front v.back in
          let back_sum : length (queued_at end v.back) ≡
          length (queued_at end (w.front ++ w.step ∷ [])) + length (queued_at end w.back) =
          ap (λ (zs : List Step). length (queued_at end zs)) w.whole ∙ queued_append end (w.front ++ w.step ∷ []) w.back in
          let last_sum = queued_append end w.front (w.step ∷ []) in
          omega (arith, fits, all_mid, all_before, all_after, whole_sum, back_sum, last_sum);
      follow = w.follow;
    }
  where
    further : (first before after waits : ℕ) → first ≤ before → before ≤ after → goal ≤ first + suc left →
        (before ≤ first → 0 < waits → before < after) → goal ≤ before + waits → goal ≤ after + left
    further first before after waits h k near moves all = go (nat_lt first before) refl
      where
        some : (n : ℕ) → waits ≡ n → before ≤ first → goal ≤ after + left
        some zero e same = omega (arith, e, all, k)
        some (suc n) e same = let m = moves same (omega (arith, e)) in omega (arith, m, same, near, h)

        go : (b : Bool) → nat_lt first before ≡ b → goal ≤ after + left
        go true e = let l : first < before = grind (arith, common_steps) in omega (arith, l, k, near)
        go false e = let l : before ≤ first = grind (arith, common_steps) in some waits refl l

-- at some place all has come that there was at first, and nothing waits to be taken
record Delivered (x y : Modes) (end : Side) (goal : ℕ) (steps : List Step) (a b : Link) : Type 0 where
  pub front : List Step
  pub back : List Step
  pub mid : Link
  pub whole : steps ≡ front ++ back
  pub first : LinkChain a front mid
  pub second : LinkChain mid back b
  pub going : Going x y mid
  pub none : to_take (at_end (other end) mid) ≡ []
  pub come : goal + waits (at_end (other end) mid) ≤ come_in (at_end (other end) mid)

delivered : (x y : Modes) (end : Side) (ticks total goal left : ℕ) (steps : List Step) (a b : Link) → Going x y a → LinkChain a steps b →
    AllKeepOrderAt end steps → Roomy end ticks total a → all_of (at_end end a) + length (queued_at end steps) ≤ total →
    goal ≤ all_of (at_end end a) → goal ≤ sent_of (at_end end a) + left → HasRounds end ticks (suc left) steps →
    Delivered x y end goal steps a b
delivered x y end ticks total goal zero steps a b g chain order roomy fits all near rounds =
    let v = served x y end ticks total _ steps a b g chain order roomy fits rounds in
    record {
      front = v.front;
      back = v.back;
      mid = v.mid;
      whole = v.whole;
      first = v.first;
      second = v.second;
      going = v.going;
      none = v.none;
      come = omega (arith, near, v.come);
    }
delivered x y end ticks total goal (suc left) steps a b g chain order roomy fits all near rounds =
    let r = one_round x y end ticks total (HasRounds end ticks (suc left)) goal left steps a b g chain order roomy fits all near rounds in
    let O : List Step → Type 0 = λ zs. AllKeepOrderAt end zs in
    let d = delivered x y end ticks total goal left r.back r.mid b r.going r.second (order_back end r.front r.back (subst O r.whole order))
    r.roomy r.fits r.all r.sent r.follow in
    record {
      front = r.front ++ d.front;
      back = d.back;
      mid = d.mid;
      whole = r.whole ∙ (ap (λ (zs : List Step). r.front ++ zs) d.whole ∙ sym (append_assoc r.front d.front d.back));
      first = joined_chains r.front d.front a r.mid d.mid r.first d.first;
      second = d.second;
      going = d.going;
      none = d.none;
      come = d.come;
    }

-- ---- what was taken

gone_append : (end : Side) (front back : List Step) → bytes_gone end (front ++ back) ≡ bytes_gone end front ++ bytes_gone end back
gone_append end front back = ap (map byte_of) (all end front back) ∙ map-append byte_of (gone_at end front) (gone_at end back)
  where
    all : (end : Side) (front back : List Step) → gone_at end (front ++ back) ≡ gone_at end front ++ gone_at end back
    all end [] back = refl
    all end (step ∷ front) back =
        let one = of_end end step.call.side (left_in step.call.call step.answer (to_take (at_end step.call.side step.before))) in
        ap (λ zs. one ++ zs) (all end front back) ∙ sym (append_assoc one (gone_at end front) (gone_at end back))

-- a list that is long enough begins with what the whole begins with
begins_with : (all gone rest more : List ℕ) → gone ++ rest ≡ all ++ more → length all ≤ length gone →
    (later : List ℕ) × (gone ≡ all ++ later)
begins_with all gone rest more e h =
    let same : take (length all) gone ≡ all =
    sym (take-append-le (length all) gone rest h) ∙ (ap (take (length all)) e ∙ take-append_seam all more) in
    (drop (length all) gone, sym (take-append-drop (length all) gone) ∙ ap (λ zs. zs ++ drop (length all) gone) same)

-- so does what was taken in more calls
all_gone : (end : Side) (front back steps : List Step) (there later : List ℕ) → steps ≡ front ++ back →
    bytes_gone end front ≡ there ++ later → (more : List ℕ) × (bytes_gone end steps ≡ there ++ more)
all_gone end front back steps there later whole e = (
  later ++ bytes_gone end back,
  ap (λ (zs : List Step). bytes_gone end zs) whole ∙ (gone_append end front back ∙
      (ap (λ zs. zs ++ bytes_gone end back) e ∙ append_assoc there later (bytes_gone end back))),
)

-- no character was dropped before, if none is dropped in the end
pub none_before : (end : Side) (a u b : Link) →
    ((o : Origin) → origin_stands (receiver_at (at_end end b)).marks (receiver_at (at_end end b)).is_unscheduled_lost o ≡ true →
    origin_stands (receiver_at (at_end end u)).marks (receiver_at (at_end end u)).is_unscheduled_lost o ≡ true) →
    DropsNothing end a b → DropsNothing end a u
none_before end a u b falls none d = go (origin_stands s.marks s.is_unscheduled_lost d.origin) refl
  where
    s : ReceiverState
    s = receiver_at (at_end end b)

    go : (v : Bool) → origin_stands s.marks s.is_unscheduled_lost d.origin ≡ v → ⊥
    go true e = let h = falls d.origin e in cc (d.lost)
    go false e = none (record { origin = d.origin; stood = d.stood; lost = e })

pub stands_before : (x y : Modes) (end : Side) (u b : Link) (steps : List Step) → Going x y u → LinkChain u steps b → (o : Origin) →
    origin_stands (receiver_at (at_end end b)).marks (receiver_at (at_end end b)).is_unscheduled_lost o ≡ true →
    origin_stands (receiver_at (at_end end u)).marks (receiver_at (at_end end u)).is_unscheduled_lost o ≡ true
stands_before x y end u b steps g chain = by end (link_chain x y u b steps g.left g.right g.joined chain)
  where
    by : (end : Side) →
        LinkPasses x y (λ end. AllKeepOrderAt end steps) (λ end. NoLineAt end steps) (λ end. queued_at end steps)
        (λ end. bytes_gone end steps) u b → (o : Origin) →
        origin_stands (receiver_at (at_end end b)).marks (receiver_at (at_end end b)).is_unscheduled_lost o ≡ true →
        origin_stands (receiver_at (at_end end u)).marks (receiver_at (at_end end u)).is_unscheduled_lost o ≡ true
    by Left p o stands = p.left.went.receives.moved.falls o stands
    by Right p o stands = p.right.went.receives.moved.falls o stands

-- after rounds enough all has been taken
pub progresses : (x y : Modes) (end : Side) (steps : List Step) (a b : Link) → InEnd x a.left → InEnd y a.right → IsJoined a →
    LinkChain a steps b →
    ((front : List Step) (u : Link) → LinkChain a front u → DropsNothing (other end) a u → CarriesAll end a front u) →
    Progresses end a steps b
progresses x y end steps a b w v joined chain carries by_driver order none journals rounds =
    let to = other end in
    let s = at_end end a in
    let g : Going x y a = record { left = w; right = v; joined = joined } in
    let number : unsent s + 1 ≡ suc (unsent s) = omega arith in
    let ticks = enough_ticks (transmitter_at end a) in
    let total = all_of s + length (queued_at end steps) in
    let roomy : Roomy end ticks total a = record {
      pace = refl;
      wire = let h = journals.wire in omega (arith, h);
      arrivals = let h = journals.arrivals in omega (arith, h);
      flow = by_driver;
    } in
    let d = delivered x y end ticks total (all_of s) (unsent s) steps a b g chain order roomy (omega arith) (omega arith) (omega arith)
    (subst (λ n. HasRounds end ticks n steps) number rounds) in
    let O : List Step → Type 0 = λ zs. AllKeepOrderAt end zs in
    let order_there = order_front end d.front d.back (subst O d.whole order) in
    let none_there = none_before to a d.mid b (stands_before x y to d.mid b d.back d.going d.second) none in
    let all = carries d.front d.mid d.first none_there order_there in
    let n = (goes x y end d.front a d.mid g d.first).numbers in
    let way = on_the_way (at_end end d.mid) (at_end to d.mid) in
    let there = to_be_taken (at_end to a) ++ on_the_way s (at_end to a) in
    let left = to_be_taken (at_end to d.mid) ++ way in
    let now : bytes_gone to d.front ++ left ≡ there ++ queued_at end d.front =
    all ∙ sym (append_assoc (to_be_taken (at_end to a)) (on_the_way s (at_end to a)) (queued_at end d.front)) in
    let sizes : length (bytes_gone to d.front ++ left) ≡ length (there ++ queued_at end d.front) = ap length now in
    let first = length-append (bytes_gone to d.front) left in
    let third = length-append (to_be_taken (at_end to d.mid)) way in
    let fourth = length-append (to_take (at_end to d.mid)) (received (ring_machine (at_end to d.mid))) in
    let ring : length (to_take (at_end to d.mid)) ≡ 0 = ap length d.none in
    let chars : length (received (ring_machine (at_end to d.mid))) ≡ waits (at_end to d.mid) =
    length-map (receiver_at (at_end to d.mid)).queue (λ character. character.byte) in
    let second = length-append there (queued_at end d.front) in
    let few = way_length (at_end end d.mid) (at_end to d.mid) in
    let count = n.all order_there in
    let r = begins_with there (bytes_gone to d.front) left (queued_at end d.front) now
    (omega (arith, sizes, first, second, third, fourth, ring, chars, few, count, d.come, n.behind)) in
    all_gone to d.front d.back steps there r.0 d.whole r.1
  where
    way_length : (from to : RingState) → length (on_the_way from to) + come_in to ≤ all_of from + (come_in to - gone_out from)
    way_length from to =
        let t = (ring_machine from).chip.transmitter in
        let cable = length-drop (come_in to) t.wire in
        let first = length-append (drop (come_in to) t.wire) (held t ++ to_send from) in
        let second = length-append (held t) (to_send from) in
        let third = length-append t.wire (held t) in
        omega (arith, cable, first, second, third)

-- ---- RTS

-- a call that does not adjust RTS leaves MCR
kept_mcr : (c : RingCall) (s t : RingState) → hold_of c ≡ None → EndKept c s t → KeepsMcr s t
kept_mcr (call.AdjustRts marks) s t none k = absurd (cc)
kept_mcr other s t none k = k

step_keeps_mcr : (x y : Modes) (end : Side) (step : Step) → Going x y step.before →
    LinkCallStep step.before step.call step.answer step.after → OfEnd end step.call.side (hold_of step.call.call ≡ None) →
    KeepsMcr (at_end end step.before) (at_end end step.after)
step_keeps_mcr x y end step g h none = go end step.call.side refl refl h.0 h.1 none
  where
    E : Side → Type 0
    E d = EndStep step.call.moments.items (at_end (other d) step.before) (at_end d step.before) step.call.call step.answer
        (at_end d step.after)

    acts : E end → hold_of step.call.call ≡ None → KeepsMcr (at_end end step.before) (at_end end step.after)
    acts h none =
        let e = in_end x y end step.before g in
        kept_mcr step.call.call _ _ none (end_moves e.0 step.call.moments.items _ _ _ step.call.call step.answer e.1 h).kept

    S : Side → Type 0
    S d = at_end d step.after ≡ at_end d step.before

    stays : S end → KeepsMcr (at_end end step.before) (at_end end step.after)
    stays same = ap (λ (s : RingState). (ring_machine s).chip.latches.mcr) same

    go : (e side : Side) → end ≡ e → step.call.side ≡ side → E side → S (other side) → OfEnd e side (hold_of step.call.call ≡ None) →
        KeepsMcr (at_end end step.before) (at_end end step.after)
    go Left Left e f h same none = acts (subst E (sym e) h) none
    go Right Right e f h same none = acts (subst E (sym e) h) none
    go Left Right e f h same none = stays (subst S (sym e) same)
    go Right Left e f h same none = stays (subst S (sym e) same)

keeps_mcr : (x y : Modes) (end : Side) (steps : List Step) (a b : Link) → Going x y a → LinkChain a steps b → NoneAdjusts end steps →
    KeepsMcr (at_end end a) (at_end end b)
keeps_mcr x y end [] a b g chain none = ap (λ (o : Link). (ring_machine (at_end end o)).chip.latches.mcr) chain
keeps_mcr x y end (step ∷ steps) a b g chain none =
    let here = sym chain.0 in
    let g' = subst (λ (o : Link). Going x y o) here g in
    let one : LinkChain step.before (step ∷ []) step.after = (refl, chain.1, refl) in
    keeps_mcr x y end steps step.after b (going_after x y (step ∷ []) step.before step.after g' one) chain.2 none.1 ∙
    (step_keeps_mcr x y end step g' chain.1 none.0 ∙
    ap (λ (o : Link). (ring_machine (at_end end o)).chip.latches.mcr) chain.0)

pub keeps_rts_on : (x y : Modes) (end : Side) (steps : List Step) (a b : Link) → InEnd x a.left → InEnd y a.right → IsJoined a →
    LinkChain a steps b → KeepsRtsOn end a steps b
keeps_rts_on x y end steps a b w v joined chain comes unheld =
    let f = find x y end _ _ steps a b (record { left = w; right = v; joined = joined }) chain comes in
    let p = f.such in
    let step = f.step in
    let on = adjusts_on step.call.moments.items (at_end (other end) step.before) (at_end end step.before) (at_end end step.after) p.marks
    step.answer (does_at end (call.AdjustRts p.marks) step p.side p.call f.does) p.hold p.release in
    let same = keeps_mcr x y end f.back step.after b f.after.going f.second f.follow in
    let e = in_end x y end b (going_after x y f.back step.after b f.after.going f.second) in
    rts_on (at_end end b)
    (loopback-in _ (ring_machine (at_end end b)).chip e.1.session.stands.modes ∙ e.1.session.open_modes.loopback) (off unheld)
    (ap (λ v. has_any v MCR.RTS.0) same ∙ on)
  where
    off : ((chip_at end a).auto_flow ≡ false) ⊎ IsUnheld (ring_machine (at_end end b)) → IsUnheld (ring_machine (at_end end b))
    off (inl lacks) =
        never_on (chip_at end b) ((same_rooms x y end steps a b (record { left = w; right = v; joined = joined }) chain).flow ∙ lacks)
    off (inr h) = h

-- ---- the handler

-- the number of arrivals stays
none_comes : (x y : Modes) (end : Side) (steps : List Step) (a b : Link) → Going x y a → LinkChain a steps b → NoneArrives end steps →
    come_in (at_end end b) ≤ come_in (at_end end a)
none_comes x y end [] a b g chain none =
    let e = ap (λ (o : Link). come_in (at_end end o)) chain in omega (arith, e)
none_comes x y end (step ∷ steps) a b g chain none =
    let g' = subst (λ (o : Link). Going x y o) (sym chain.0) g in
    let one : LinkChain step.before (step ∷ []) step.after = (refl, chain.1, refl) in
    let first = none.0 in
    let here = ap (λ (o : Link). come_in (at_end end o)) chain.0 in
    let rest =
    none_comes x y end steps step.after b (going_after x y (step ∷ []) step.before step.after g' one) chain.2 none.1 in
    omega (arith, first, here, rest)

pub empties_receiver : (x y : Modes) (end : Side) (steps : List Step) (a b : Link) → InEnd x a.left → InEnd y a.right → IsJoined a →
    LinkChain a steps b → EmptiesReceiver end steps b
empties_receiver x y end steps a b w v joined chain comes =
    let f = find x y end _ _ steps a b (record { left = w; right = v; joined = joined }) chain comes in
    let none = none_comes x y end f.back f.step.after b f.after.going f.second f.follow in
    let n = (goes x y (other end) f.back f.step.after b f.after.going f.second).numbers.waiting in
    let W : Side → Type 0 = λ z.
    waits (at_end z b) + come_in (at_end z f.step.after) ≤ waits (at_end z f.step.after) + come_in (at_end z b) in
    let more : W end = subst W (other_other end) n in
    let empty = handled_time end f.step f.does f.such in
    nil_from_length (chip_at end b).receiver.queue (omega (arith, none, more, empty))

-- ---- the interrupt of THR

pub all_leave_armed : (x y : Modes) (end : Side) (steps : List Step) (a b : Link) → Going x y a → LinkChain a steps b →
    AllLeaveArmed end steps
all_leave_armed x y end [] a b g chain = tt
all_leave_armed x y end (step ∷ steps) a b g chain =
    let g' = subst (λ (o : Link). Going x y o) (sym chain.0) g in
    let one : LinkChain step.before (step ∷ []) step.after = (refl, chain.1, refl) in (
      first end step.call.side chain.1.0 (in_end x y end step.before g'),
      all_leave_armed x y end steps step.after b (going_after x y (step ∷ []) step.before step.after g' one) chain.2,
    )
  where
    first : (e side : Side) →
        EndStep step.call.moments.items (at_end (other side) step.before) (at_end side step.before) step.call.call step.answer
        (at_end side step.after) → (z : Modes) × InEnd z (at_end e step.before) → OfEnd e side (LeavesArmed e step)
    first Left Left h w = λ unchecked armed.
        leaves_armed w.0 step.call.moments.items _ _ _ step.call.call step.answer w.1 h unchecked armed
    first Right Right h w = λ unchecked armed.
        leaves_armed w.0 step.call.moments.items _ _ _ step.call.call step.answer w.1 h unchecked armed
    first Left Right h w = tt
    first Right Left h w = tt
