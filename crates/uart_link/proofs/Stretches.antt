-- What passes at an end in calls of a link: time, and arrivals.
use Rattle.uart_link.proofs.Names.{◌≡◌, ℕ, zero, suc, ◌+◌, ◌-◌, ◌≤◌, Bool, List, [], ◌∷◌, ◌++◌, length, length-append, take, Option, Some}
use Rattle.uart_link.proofs.Names.{None, false, refl, sym, ◌∙◌, ap, subst, arith, length-drop, length-take, Event, Modes, loopback-in}
use Rattle.uart_link.proofs.Names.{ChipState, MachineState, arrivals, IsSoundTransmitter, IsTicking, TransmitterState, held, shift_bytes}
use Rattle.uart_link.proofs.Names.{Shifting, left, left_of, RingState, ring_machine, RingCall, Moment, Side, Left, Right, Link, to_come}
use Rattle.uart_link.proofs.Names.{settled, arranged, on_cable, lines_from, IsJoined, AllKeepOrderAt, queued_at, bytes_gone, at_end, other}
use Rattle.uart_link.proofs.Names.{Step, EndStep, LinkChain, LinkCallStep, ticks_in, arrives_in, of_side, in_calls_at, enough_ticks}
use Rattle.uart_link.proofs.Names.{EndInNext, NoLineAt}
use Rattle.uart_run.proofs.progress.Left.{left-most}
use Rattle.uart_ring_runs.specs.declared.call.RingCall.TheVariants as call
use Rattle.uart_link.proofs.{Arranges.arranged_events, Budgets.ahead_of, Budgets.Spends, Budgets.DueAt, Budgets.spend_call}
use Rattle.uart_link.proofs.{EndFlows.sent_of, EndPasses.InEnd, Lefts.Grown, LinkSteps.LinkPasses, LinkSteps.link_chain}
use Rattle.uart_link.proofs.{LinkSteps.joined_after, Passing.arrivals_spend, Passing.HasRooms, Passing.rooms_spend}
use Rattle.uart_link.proofs.Passing.{ticks_of, arrives_of, ticks_ahead, arrives_ahead, need, need_of, DueTicks, ticks_spend, DueArrivals}

-- ---- both ends in a session

-- both ends are in a session, and joined
pub record Going (x y : Modes) (a : Link) : Type 0 where
  pub left : InEnd x a.left
  pub right : InEnd y a.right
  pub joined : IsJoined a

pub going_after : (x y : Modes) (steps : List Step) (a b : Link) → Going x y a → LinkChain a steps b → Going x y b
going_after x y steps a b g chain =
    let p = link_chain x y a b steps g.left g.right g.joined chain in
    record { left = p.in_left; right = p.in_right; joined = joined_after x y _ _ _ _ a b p }

pub in_end : (x y : Modes) (end : Side) (a : Link) → Going x y a → (z : Modes) × InEnd z (at_end end a)
in_end x y Left a g = (x, g.left)
in_end x y Right a g = (y, g.right)

-- what a call of this end does
pub does_at : (end : Side) (c : RingCall) (step : Step) → step.call.side ≡ end → step.call.call ≡ c →
    LinkCallStep step.before step.call step.answer step.after →
    EndStep step.call.moments.items (at_end (other end) step.before) (at_end end step.before) c step.answer (at_end end step.after)
does_at end c step side call h =
    let S : Side → Type 0 = λ z. EndStep step.call.moments.items (at_end (other z) step.before) (at_end z step.before)
    step.call.call step.answer (at_end z step.after) in
    let C : RingCall → Type 0 = λ d. EndStep step.call.moments.items (at_end (other end) step.before) (at_end end step.before) d
    step.answer (at_end end step.after) in
    subst C call (subst S side h.0)

-- the wire only grows
pub wire_grows : (x y : Modes) (end : Side) (steps : List Step) (a b : Link) → Going x y a → LinkChain a steps b →
    length (ring_machine (at_end end a)).chip.transmitter.wire ≤ length (ring_machine (at_end end b)).chip.transmitter.wire
wire_grows x y end steps a b g chain = by end
  where
    p : LinkPasses x y (λ end. AllKeepOrderAt end steps) (λ end. NoLineAt end steps) (λ end. queued_at end steps)
        (λ end. bytes_gone end steps) a b
    p = link_chain x y a b steps g.left g.right g.joined chain

    longer : (s t : RingState) → Grown (ring_machine s).chip.transmitter.wire (ring_machine t).chip.transmitter →
        length (ring_machine s).chip.transmitter.wire ≤ length (ring_machine t).chip.transmitter.wire
    longer s t h =
        let e : length (ring_machine t).chip.transmitter.wire ≡ length ((ring_machine s).chip.transmitter.wire ++ h.0) = ap length h.1 in
        let l = length-append (ring_machine s).chip.transmitter.wire h.0 in omega (arith, e, l)

    by : (end : Side) →
        length (ring_machine (at_end end a)).chip.transmitter.wire ≤ length (ring_machine (at_end end b)).chip.transmitter.wire
    by Left = longer a.left b.left p.rightward.grown
    by Right = longer a.right b.right p.leftward.grown

-- ---- calls of a link

module _ (weight : Event → ℕ) (Due : ChipState → ℕ → Type 0) (w : Spends weight Due) (number_in : List Moment → ℕ)
    (Holds : Link → Type 0) (x y : Modes)
    (end : Side) (lasts : (steps : List Step) (a b : Link) → Going x y a → LinkChain a steps b → Holds a → Holds b)
    (arrange : (o : Link) (moments : List Moment) (n : ℕ) → Holds o →
    Due (settled (ring_machine (at_end end o))).chip (number_in moments + n) →
    DueAt weight Due w (arranged moments (ring_machine (at_end (other end) o)).chip (ring_machine (at_end end o))) n) where
  -- what is due at the end
  abbrev pub DueIn : Link → ℕ → Type 0
  DueIn o n = DueAt weight Due w (ring_machine (at_end end o)) n

  acts : (step : Step) (n : ℕ) → Going x y step.before → Holds step.before →
      EndStep step.call.moments.items (at_end (other end) step.before) (at_end end step.before) step.call.call step.answer
      (at_end end step.after) → DueIn step.before (number_in step.call.moments.items + n) → DueIn step.after n
  acts step n g holds h due =
      let e = in_end x y end step.before g in
      spend_call weight Due w e.0 step.call.moments.items (at_end (other end) step.before) (at_end end step.before) (at_end end step.after)
      step.call.call step.answer (number_in step.call.moments.items) n e.1 h (arrange step.before step.call.moments.items n holds) due

  stays : (step : Step) (n : ℕ) → at_end end step.after ≡ at_end end step.before → DueIn step.before (0 + n) → DueIn step.after n
  stays step n same due =
      let none : 0 + n ≡ n = omega arith in
      let D : RingState → Type 0 = λ s. DueAt weight Due w (ring_machine s) n in
      subst D (sym same) (subst (λ k. DueIn step.before k) none due)

  spend_step : (step : Step) (n : ℕ) → Going x y step.before → Holds step.before →
      LinkCallStep step.before step.call step.answer step.after →
      DueIn step.before (of_side end step.call.side (number_in step.call.moments.items) + n) → DueIn step.after n
  spend_step step n g holds h due = go end step.call.side refl h.0 h.1 due
    where
      E : Side → Type 0
      E d = EndStep step.call.moments.items (at_end (other d) step.before) (at_end d step.before) step.call.call step.answer
          (at_end d step.after)

      S : Side → Type 0
      S d = at_end d step.after ≡ at_end d step.before

      go : (e side : Side) → end ≡ e → E side → S (other side) →
          DueIn step.before (of_side e side (number_in step.call.moments.items) + n) → DueIn step.after n
      go Left Left e h same due = acts step n g holds (subst E (sym e) h) due
      go Right Right e h same due = acts step n g holds (subst E (sym e) h) due
      go Left Right e h same due = stays step n (subst S (sym e) same) due
      go Right Left e h same due = stays step n (subst S (sym e) same) due

  pub spend_chain : (steps : List Step) (a b : Link) (n : ℕ) → Going x y a → Holds a → LinkChain a steps b →
      DueIn a (in_calls_at number_in end steps + n) → DueIn b n
  spend_chain [] a b n g holds chain due =
      let none : 0 + n ≡ n = omega arith in
      let D : Link → Type 0 = λ o. DueIn o n in
      subst D (sym chain) (subst (λ k. DueIn a k) none due)
  spend_chain (step ∷ steps) a b n g holds chain due =
      let first = of_side end step.call.side (number_in step.call.moments.items) in
      let others = in_calls_at number_in end steps in
      let same : (first + others) + n ≡ first + (others + n) = omega arith in
      let D : Link → Type 0 = λ o. DueIn o (first + (others + n)) in
      let here = sym chain.0 in
      let g' = subst (λ (o : Link). Going x y o) here g in
      let holds' = subst Holds here holds in
      let one : LinkChain step.before (step ∷ []) step.after = (refl, chain.1, refl) in
      let next = spend_step step (others + n) g' holds' chain.1 (subst D here (subst (λ k. DueIn a k) same due)) in
      spend_chain steps step.after b n (going_after x y (step ∷ []) step.before step.after g' one)
      (lasts (step ∷ []) step.before step.after g' one holds') chain.2 next

-- after a `Next` at an end nothing is known of its schedule
pub nothing_ahead : (weight : Event → ℕ) (end : Side) (steps : List Step) (a b : Link) → EndInNext end steps → LinkChain a steps b →
    ahead_of weight (ring_machine (at_end end b)).ahead ≡ 0
nothing_ahead weight end steps a b h chain =
    let C : List Step → Type 0 = λ zs. LinkChain a zs b in
    by h.others a (subst C h.whole chain)
  where
    by : (others : List Step) (o : Link) → LinkChain o (others ++ h.last ∷ []) b → ahead_of weight (ring_machine (at_end end b)).ahead ≡ 0
    by [] o chain =
        let step = does_at end call.Next h.last h.side h.call chain.1 in
        let here : b ≡ h.last.after = chain.2 in
        ap (λ (o : Link). ahead_of weight (ring_machine (at_end end o)).ahead) here ∙
        ap (λ (m : MachineState). ahead_of weight m.ahead) step.called.passes.machine
    by (other ∷ others) o chain = by others other.after chain.2

-- ---- time

abbrev Always : Link → Type 0
Always o = Unit {0}

-- all that had left the driver at an end has left the chip, after ticks enough
pub time_passes : (x y : Modes) (end : Side) (steps : List Step) (a b : Link) → Going x y a → LinkChain a steps b →
    EndInNext end steps → enough_ticks (ring_machine (at_end end a)).chip.transmitter ≤ in_calls_at ticks_in end steps →
    sent_of (at_end end a) ≤ (ring_machine (at_end end a)).chip.transmitter.capacity →
    (ring_machine (at_end end a)).chip.auto_flow ≡ false →
    sent_of (at_end end a) ≤ length (ring_machine (at_end end b)).chip.transmitter.wire
time_passes x y end steps a b g chain happened enough room by_driver =
    let goal = sent_of (at_end end a) in
    let m = ring_machine (at_end end a) in
    let n = ring_machine (at_end end b) in
    let e = in_end x y end a g in
    let e' = in_end x y end b (going_after x y steps a b g chain) in
    let sound = e.1.session.stands.sound in
    let sum = length-append m.chip.transmitter.wire (held m.chip.transmitter) in
    let bytes : goal - length m.chip.transmitter.wire ≡ length (held m.chip.transmitter) = omega (arith, sum) in
    let first : need goal m.chip.transmitter ≡ left m.chip.transmitter =
    ap (need_of m.chip.transmitter.char_ticks m.chip.transmitter.shift_register) bytes ∙
    need_all m.chip.transmitter.char_ticks m.chip.transmitter.shift_register m.chip.transmitter.queue in
    let most = left-most m.chip sound.chip in
    let due : DueTicks goal m.chip (ahead_of ticks_of m.ahead + (in_calls_at ticks_in end steps + 0)) = record {
      loopback = loopback-in _ m.chip e.1.session.stands.modes ∙ e.1.session.open_modes.loopback;
      flow = by_driver;
      have = omega arith;
      room = room;
      few = omega (arith, first, most, enough);
    } in
    let after = spend_chain ticks_of (DueTicks goal) (ticks_spend goal) ticks_in Always x y end (λ steps a b g chain holds. tt)
    (arrange_ticks goal) steps a b 0 g tt chain due in
    let none = nothing_ahead ticks_of end steps a b happened chain in
    all_left goal n.chip.fifo n.chip.transmitter e'.1.session.stands.sound.chip.transmitter (omega (arith, none, after.few))
  where
    need_all : (char_ticks : ℕ) (place : Option Shifting) (queue : List ℕ) →
        need_of char_ticks place (length (shift_bytes place ++ queue)) ≡ left_of char_ticks place queue
    need_all char_ticks None [] = refl
    need_all char_ticks None (x ∷ xs) = refl
    need_all char_ticks (Some s) queue = refl

    all_left : (goal : ℕ) (fifo : Bool) (t : TransmitterState) → IsSoundTransmitter fifo t → need goal t ≤ 0 → goal ≤ length t.wire
    all_left goal fifo t w few = go t.shift_register (goal - length t.wire) refl refl w.ticking few
      where
        go : (place : Option Shifting) (n : ℕ) → goal - length t.wire ≡ n → t.shift_register ≡ place →
            IsTicking t.char_ticks t.shift_register →
            need_of t.char_ticks t.shift_register (goal - length t.wire) ≤ 0 → goal ≤ length t.wire
        go place zero e f w few = omega (arith, e)
        go None (suc n) e f w few = let h : need_of t.char_ticks None (suc n) ≤ 0 = rw (e, f) at few in absurd (omega (arith, h))
        go (Some s) (suc n) e f w few =
            let h : need_of t.char_ticks (Some s) (suc n) ≤ 0 = rw (e, f) at few in
            let k : IsTicking t.char_ticks (Some s) = rw f at w in absurd (let l = k.0 in omega (arith, h, l))

    arrange_ticks : (goal : ℕ) (o : Link) (moments : List Moment) (n : ℕ) → Always o →
        DueTicks goal (settled (ring_machine (at_end end o))).chip (ticks_in moments + n) →
        DueAt ticks_of (DueTicks goal) (ticks_spend goal)
        (arranged moments (ring_machine (at_end (other end) o)).chip (ring_machine (at_end end o))) n
    arrange_ticks goal o moments n holds h =
        let c = (settled (ring_machine (at_end end o))).chip in
        let far = (ring_machine (at_end (other end) o)).chip in
        let same = ticks_ahead moments (take (to_come c) (on_cable far c)) (lines_from far)
        (to_come c - arrivals (arranged_events moments far c)) in
        subst (λ k. DueTicks goal c (k + n)) (sym same) h

-- ---- arrivals

-- all has arrived at an end that had left the other chip, after arrivals enough
pub all_arrives : (x y : Modes) (end : Side) (steps : List Step) (a b : Link) → Going x y a → LinkChain a steps b →
    EndInNext end steps →
    length (on_cable (ring_machine (at_end (other end) a)).chip (ring_machine (at_end end a)).chip) ≤ in_calls_at arrives_in end steps →
    length (ring_machine (at_end (other end) a)).chip.transmitter.wire ≤ length (ring_machine (at_end end a)).chip.receiver.marks →
    length (ring_machine (at_end (other end) a)).chip.transmitter.wire ≤ (ring_machine (at_end end b)).chip.receiver.arrived
all_arrives x y end steps a b g chain happened enough room =
    let goal = length (ring_machine (at_end (other end) a)).chip.transmitter.wire in
    let m = ring_machine (at_end end a) in
    let cable = length-drop m.chip.receiver.arrived (ring_machine (at_end (other end) a)).chip.transmitter.wire in
    let due : DueArrivals goal m.chip (ahead_of arrives_of m.ahead + (in_calls_at arrives_in end steps + 0)) =
    record { room = room; few = omega (arith, cable, enough) } in
    let after = spend_chain arrives_of (DueArrivals goal) (arrivals_spend goal) arrives_in (HasLeft goal) x y end (has_left goal)
    (arrange_arrivals goal) steps a b 0 g (omega arith) chain due in
    let none = nothing_ahead arrives_of end steps a b happened chain in
    let few = after.few in
    omega (arith, none, few)
  where
    HasLeft : ℕ → Link → Type 0
    HasLeft goal o = goal ≤ length (ring_machine (at_end (other end) o)).chip.transmitter.wire

    has_left : (goal : ℕ) (steps : List Step) (a b : Link) → Going x y a → LinkChain a steps b → HasLeft goal a → HasLeft goal b
    has_left goal steps a b g chain h = let l = wire_grows x y (other end) steps a b g chain in omega (arith, h, l)

    arrange_arrivals : (goal : ℕ) (o : Link) (moments : List Moment) (n : ℕ) → HasLeft goal o →
        DueArrivals goal (settled (ring_machine (at_end end o))).chip (arrives_in moments + n) →
        DueAt arrives_of (DueArrivals goal) (arrivals_spend goal)
        (arranged moments (ring_machine (at_end (other end) o)).chip (ring_machine (at_end end o))) n
    arrange_arrivals goal o moments n holds h =
        let c = (settled (ring_machine (at_end end o))).chip in
        let far = (ring_machine (at_end (other end) o)).chip in
        let known = take (to_come c) (on_cable far c) in
        let least = arrives_ahead moments known (lines_from far) (to_come c - arrivals (arranged_events moments far c)) in
        let short = length-take (to_come c) (on_cable far c) in
        let cable = length-drop c.receiver.arrived far.transmitter.wire in
        let room = h.room in
        let few = h.few in
        record { room = room; few = omega (arith, least, short, cable, room, few, holds) }

-- ---- the room of an end

-- what a wire and a journal have room for, and the ticks of a character, are the same after calls
pub record SameRooms (c d : ChipState) : Type 0 where
  pub capacity : d.transmitter.capacity ≡ c.transmitter.capacity
  pub marks : length d.receiver.marks ≡ length c.receiver.marks
  pub char_ticks : d.transmitter.char_ticks ≡ c.transmitter.char_ticks
  pub size : d.transmitter.size ≡ c.transmitter.size
  pub flow : d.auto_flow ≡ c.auto_flow

pub same_rooms : (x y : Modes) (end : Side) (steps : List Step) (a b : Link) → Going x y a → LinkChain a steps b →
    SameRooms (ring_machine (at_end end a)).chip (ring_machine (at_end end b)).chip
same_rooms x y end steps a b g chain =
    let c = (ring_machine (at_end end a)).chip in
    let e = in_end x y end a g in
    let k = c.transmitter.capacity in
    let l = length c.receiver.marks in
    let t = c.transmitter.char_ticks in
    let z = c.transmitter.size in
    let f = c.auto_flow in
    let first : HasRooms k l t z f c (ahead_of arrives_of (ring_machine (at_end end a)).ahead + (in_calls_at arrives_in end steps + 0)) =
    record {
      loopback = loopback-in _ c e.1.session.stands.modes ∙ e.1.session.open_modes.loopback;
      capacity = refl;
      marks = refl;
      char_ticks = refl;
      same_size = refl;
      same_flow = refl;
    } in
    let after = spend_chain arrives_of (HasRooms k l t z f) (rooms_spend k l t z f) arrives_in Always x y end
    (λ steps a b g chain holds. tt)
    (λ o moments n holds h. record {
      loopback = h.loopback;
      capacity = h.capacity;
      marks = h.marks;
      char_ticks = h.char_ticks;
      same_size = h.same_size;
      same_flow = h.same_flow;
    })
    steps a b 0 g tt chain first in
    record { capacity = after.capacity; marks = after.marks; char_ticks = after.char_ticks; size = after.same_size; flow = after.same_flow }
