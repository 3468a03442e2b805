-- That a `take_line` tells of a drop.
use Rattle.uart_link.proofs.Names.{◌≡◌, ◌⊎◌, inl, inr, ℕ, Bool, true, false, not, ◌||◌, ◌==◌, List, [], ◌∷◌, refl, sym, ◌∙◌, ap, subst}
use Rattle.uart_link.proofs.Names.{bit_and, bit_or, or_right, Path, saved_lsr, Read, has_any, Event, MachineState, MachineStep}
use Rattle.uart_link.proofs.Names.{ReceiverState, has_or, passed-look, Drop, drop_split, Owed, Shows, look_clears, drop_receivers, Modes}
use Rattle.uart_link.proofs.Names.{IsDrop, modes_at, ended, ring_fields, RingAnswer, RingState, RingCalled, ring_machine, line_answer}
use Rattle.uart_link.proofs.Names.{untold_line_of, RingCall, Moment, Side, Left, Right, Link, IsJoined, at_end, other, EndStep}
use Rattle.uart_link.proofs.Names.{CabledCallStep, LinkCallStep, Step, LinkChain, TellsDrops}
use Rattle.std.proofs.lemmas.Nat.{and_assoc}
use Rattle.uart_spec.specs.declared.registers.line_status.TheConstants.LSR
use Rattle.uart_spec.specs.declared.registers.offsets.TheConstants as offsets
use Rattle.uart_ring.specs.Status.{TakesLine}
use Rattle.uart_ring_runs.specs.declared.call.RingAnswer.TheVariants.{Line}
use Rattle.uart_ring_runs.specs.declared.call.RingCall.TheVariants as call
use Rattle.uart_link.proofs.{EndActs.end_begins, EndPasses.InEnd, EndPasses.EndPasses, EndPasses.passes-trans, LinkSteps.LinkPasses}
use Rattle.uart_link.proofs.{LinkSteps.link_chain}

-- a mask with the flag leaves it
masked : (value : ℕ) → has_any (bit_and value LSR.LINE_ERRORS.0) LSR.OVERRUN_ERROR.0 ≡ has_any value LSR.OVERRUN_ERROR.0
masked value = ap (λ v. not (v == 0)) (and_assoc LSR.OVERRUN_ERROR.0 value LSR.LINE_ERRORS.0)

in_first : (a b : ℕ) → has_any a LSR.OVERRUN_ERROR.0 ≡ true → has_any (bit_or a b) LSR.OVERRUN_ERROR.0 ≡ true
in_first a b e = has_or 1 a b ∙ (rw e refl)

in_second : (a b : ℕ) → has_any b LSR.OVERRUN_ERROR.0 ≡ true → has_any (bit_or a b) LSR.OVERRUN_ERROR.0 ≡ true
in_second a b e = has_or 1 a b ∙ or_right (has_any a LSR.OVERRUN_ERROR.0) (has_any b LSR.OVERRUN_ERROR.0) e

of_either : (a b : ℕ) → has_any (bit_or a b) LSR.OVERRUN_ERROR.0 ≡ true →
    (has_any a LSR.OVERRUN_ERROR.0 ≡ true) ⊎ (has_any b LSR.OVERRUN_ERROR.0 ≡ true)
of_either a b e = go (has_any a LSR.OVERRUN_ERROR.0) (has_any b LSR.OVERRUN_ERROR.0) refl refl (sym (has_or 1 a b) ∙ e)
  where
    go : (x y : Bool) → has_any a LSR.OVERRUN_ERROR.0 ≡ x → has_any b LSR.OVERRUN_ERROR.0 ≡ y → (x || y) ≡ true →
        (has_any a LSR.OVERRUN_ERROR.0 ≡ true) ⊎ (has_any b LSR.OVERRUN_ERROR.0 ≡ true)
    go true y f g h = inl f
    go false true f g h = inr g
    go false false f g h = absurd (cc)

-- the bits of an answer
abbrev bits_of : RingAnswer → ℕ
bits_of (Line line) = line.0
bits_of other = 0

-- such a call: it read LSR once, and told what it read, what was saved and what was noted
record TookLine (s : RingState) (value : ℕ) (t : RingState) : Type 0 where
  pub status : ℕ
  pub path : Path MachineStep (ring_machine s) (Read offsets.LSR status ∷ []) (ring_machine t)
  pub told : value ≡ bit_or (bit_or status (ring_fields s).driver.lsr) (ring_fields s).line

took_line : (s t : RingState) (value : ℕ) → RingCalled MachineStep TakesLine line_answer (line_answer value) s t → TookLine s value t
took_line s t value h =
    let d = h.did.does in
    record {
      status = d.2.0.0;
      path = rw d.2.0.1 at h.did.path;
      told = ap bits_of h.answered ∙ (d.1 ∙ ap (λ v. bit_or v (ring_fields s).line) d.2.0.2);
    }

-- a drop before the call or in it is told, if what was seen before is told, and what the call owes
drop_told : (r s t : ReceiverState) (seen : ℕ) (Told : Type 0) → (has_any seen LSR.OVERRUN_ERROR.0 ≡ true → Told) →
    (Owed s t → Told) → (Owed r s → Shows seen s) → Drop r s ⊎ Drop s t → Told
drop_told r s t seen Told before late shown (inr d) = late (inr d)
drop_told r s t seen Told before late shown (inl d) = by (shown (inr d))
  where
    by : Shows seen s → Told
    by (inl f) = before f
    by (inr o) = late (inl o)

-- since r no line status was told: one that is told after s tells of a drop
pub take_line_tells : (x : Modes) (Order NoLine : Type 0) (r s t : RingState) (q e : List ℕ) (events : List Event)
    (value : ℕ) → EndPasses x Order q NoLine r s e events → NoLine → InEnd x s →
    RingCalled MachineStep TakesLine line_answer (line_answer value) s t →
    Drop (ring_machine r).chip.receiver (ring_machine t).chip.receiver → has_any value LSR.OVERRUN_ERROR.0 ≡ true
take_line_tells x Order NoLine r s t q e events value p none w h d =
    let took = took_line s t value h in
    let mid = took.path.0 in
    let look = passed-look (modes_at x s) (ring_machine s) mid took.status w.session.open_modes.loopback w.session.stands took.path.1 in
    let cleared : mid.chip.receiver.is_overrun ≡ false = look_clears (ring_machine s) mid took.status took.path.1 in
    let saved = (ring_fields s).driver.lsr in
    let noted = (ring_fields s).line in
    let by_status : has_any took.status LSR.OVERRUN_ERROR.0 ≡ true → has_any value LSR.OVERRUN_ERROR.0 ≡ true =
    λ f. rw took.told (in_first (bit_or took.status saved) noted (in_first took.status saved f)) in
    let shown : Shows (saved_lsr (Read offsets.LSR took.status ∷ [])) mid.chip.receiver → has_any took.status LSR.OVERRUN_ERROR.0 ≡ true =
    λ o. flag took.status mid cleared o in
    let late : Owed (ring_machine s).chip.receiver mid.chip.receiver → has_any value LSR.OVERRUN_ERROR.0 ≡ true =
    λ o. by_status (shown (look.went.receives.is_shown o)) in
    let noted_before : has_any (bit_or noted saved) LSR.OVERRUN_ERROR.0 ≡ true → has_any value LSR.OVERRUN_ERROR.0 ≡ true =
    λ f. rw took.told (noted_told took.status noted saved f) in
    let before : has_any (saved_lsr p.made) LSR.OVERRUN_ERROR.0 ≡ true → has_any value LSR.OVERRUN_ERROR.0 ≡ true =
    λ f. noted_before (sym (masked (bit_or noted saved)) ∙ (ap (λ v. has_any v LSR.OVERRUN_ERROR.0) (p.line none) ∙
    in_second (untold_line_of r) (saved_lsr p.made) f)) in
    let d_here : Drop (ring_machine r).chip.receiver mid.chip.receiver =
    subst (λ (m : MachineState). Drop (ring_machine r).chip.receiver m.chip.receiver) took.path.2 d in
    drop_told _ _ _ (saved_lsr p.made) (has_any value LSR.OVERRUN_ERROR.0 ≡ true) before late
    p.went.receives.is_shown (drop_split _ _ _ d_here)
  where
    flag : (status : ℕ) (n : MachineState) → n.chip.receiver.is_overrun ≡ false →
        Shows (saved_lsr (Read offsets.LSR status ∷ [])) n.chip.receiver → has_any status LSR.OVERRUN_ERROR.0 ≡ true
    flag status n c (inr o) = absurd (cc)
    flag status n c (inl o) = zero_right (of_either (bit_and status LSR.LINE_ERRORS.0) 0 o)
      where
        zero_right : (has_any (bit_and status LSR.LINE_ERRORS.0) LSR.OVERRUN_ERROR.0 ≡ true) ⊎ (has_any 0 LSR.OVERRUN_ERROR.0 ≡ true) →
            has_any status LSR.OVERRUN_ERROR.0 ≡ true
        zero_right (inl f) = sym (masked status) ∙ f
        zero_right (inr f) = absurd (cc)

    noted_told : (status noted saved : ℕ) → has_any (bit_or noted saved) LSR.OVERRUN_ERROR.0 ≡ true →
        has_any (bit_or (bit_or status saved) noted) LSR.OVERRUN_ERROR.0 ≡ true
    noted_told status noted saved f = by (of_either noted saved f)
      where
        by : (has_any noted LSR.OVERRUN_ERROR.0 ≡ true) ⊎ (has_any saved LSR.OVERRUN_ERROR.0 ≡ true) →
            has_any (bit_or (bit_or status saved) noted) LSR.OVERRUN_ERROR.0 ≡ true
        by (inl g) = in_second (bit_or status saved) noted g
        by (inr g) = in_first (bit_or status saved) noted (in_second status saved g)

-- ---- in a link

-- a call at an end
end_tells : (x : Modes) (Order NoLine : Type 0) (q e : List ℕ) (events : List Event) (moments : List Moment)
    (there r s t : RingState) (c : RingCall)
    (a : RingAnswer) (value : ℕ) → EndPasses x Order q NoLine r s e events → NoLine → InEnd x s →
    EndStep moments there s c a t → c ≡ call.TakeLine → a ≡ line_answer value →
    Drop (ring_machine r).chip.receiver (ring_machine t).chip.receiver → has_any value LSR.OVERRUN_ERROR.0 ≡ true
end_tells x Order NoLine q e events moments there r s t c a value p none w h is answered d =
    let b = end_begins x moments there s t c a w h in
    let whole = passes-trans x _ _ _ _ r s h.begins _ _ _ _ events b.events p b.ends in
    let C : RingCall → Type 0 = λ v. CabledCallStep h.begins v a t in
    let A : RingAnswer → Type 0 = λ v. CabledCallStep h.begins call.TakeLine v t in
    take_line_tells x _ _ r h.begins t _ _ _ value whole (none, tt) b.session (subst A answered (subst C is h.called)) d

-- a call of a link at this end
side_tells : (x y : Modes) (a n u : Link) (end : Side) (Order NoLine : Side → Type 0) (queued gone : Side → List ℕ)
    (moments : List Moment) (c : RingCall) (answer : RingAnswer) (value : ℕ) → LinkPasses x y Order NoLine queued gone a n →
    NoLine end → EndStep moments (at_end (other end) n) (at_end end n) c answer (at_end end u) → c ≡ call.TakeLine →
    answer ≡ line_answer value → IsDrop (ring_machine (at_end end a)) (ring_machine (at_end end u)) →
    has_any value LSR.OVERRUN_ERROR.0 ≡ true
side_tells x y a n u Left Order NoLine queued gone moments c answer value p none h is answered d =
    end_tells x _ _ _ _ _ moments n.right a.left n.left u.left c answer value p.left none p.in_left h is answered
    (drop_receivers _ _ d)
side_tells x y a n u Right Order NoLine queued gone moments c answer value p none h is answered d =
    end_tells y _ _ _ _ _ moments n.left a.right n.right u.right c answer value p.right none p.in_right h is answered
    (drop_receivers _ _ d)

pub tells_drops : (x y : Modes) (a b : Link) (steps : List Step) (end : Side) → InEnd x a.left →
    InEnd y a.right → IsJoined a → LinkChain a steps b → TellsDrops end a steps b
tells_drops x y a b steps end w v joined chain some last value is none side taken answered =
    let T : Link → Type 0 = λ u. IsDrop (ring_machine (at_end end a)) (ring_machine (at_end end u)) →
    has_any value LSR.OVERRUN_ERROR.0 ≡ true in
    ended LinkCallStep a b some last last.call last.answer T (λ n u before step d.
    let S : Side → Type 0 =
    λ v. EndStep last.call.moments.items (at_end (other v) n) (at_end v n) last.call.call last.answer (at_end v u) in
    side_tells x y a n u end _ _ _ _ last.call.moments.items last.call.call last.answer value
    (link_chain x y a n some w v joined before) none (subst S side step.0) taken answered d) (rw is at chain) refl refl
