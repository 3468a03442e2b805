-- What XOFF is at each end by itself: what is told goes out next, and a ring that is held stays where it is.
use Rattle.uart_link.proofs.Names.{◌≡◌, ℕ, List, [], ◌∷◌, ◌++◌, append_assoc, map, Some, refl, sym, ◌∙◌, ap, subst, map-id, out, Modes}
use Rattle.uart_link.proofs.Names.{RingAnswer, RingCall, to_send, to_send_with, RingState, ring_machine, Moment, Side, Left, Right, Link}
use Rattle.uart_link.proofs.Names.{OfEnd, at_end, EndStep, LinkChain, other, Step, all_sent, AllTellAndHold, HoldsBack, TellsNext}
use Rattle.uart_ring_runs.specs.declared.call.RingAnswer.TheVariants as answers
use Rattle.uart_ring_runs.specs.declared.call.RingCall.TheVariants as call
use Rattle.uart_link.proofs.{EndPasses.InEnd, Stretches.Going, Stretches.going_after, XoffFlows.Sent, XoffFlows.sent_end, XoffFlows.urges}

-- all that has left or is to leave, once a call was made
all_after : (x : Modes) (change : List ℕ → List ℕ) (s t : RingState) → x.cut ≡ (λ (byte : ℕ). byte) → Sent x change s t →
    all_sent t ≡ out (ring_machine s) ++ change (to_send s)
all_after x change s t whole p =
    let before = out (ring_machine s) in
    let grows : out (ring_machine t) ≡ before ++ p.written =
    p.grows ∙ ap (λ zs. before ++ zs) (ap (λ (cut : ℕ → ℕ). map cut p.written) whole ∙ map-id p.written) in
    ap (λ zs. zs ++ to_send t) grows ∙ (append_assoc before p.written (to_send t) ∙ ap (λ zs. before ++ zs) p.all)

tells_next : (x : Modes) (c : RingCall) (a : RingAnswer) (s t : RingState) → x.cut ≡ (λ (byte : ℕ). byte) → Sent x (to_send_with c a) s t →
    TellsNext c a s t
tells_next x (call.AdjustXoff marks) (answers.Told (Some byte)) s t whole p =
    all_after x (to_send_with (call.AdjustXoff marks) (answers.Told (Some byte))) s t whole p
tells_next x other a s t whole p = tt

-- both, in a call of an end
record Both (c : RingCall) (a : RingAnswer) (s t : RingState) : Type 0 where
  pub tells : TellsNext c a s t
  pub holds : HoldsBack c a s t

both : (x : Modes) (moments : List Moment) (there s t : RingState) (c : RingCall) (a : RingAnswer) → InEnd x s →
    x.cut ≡ (λ (byte : ℕ). byte) → EndStep moments there s c a t → Both c a s t
both x moments there s t c a w whole h = record {
  tells = tells_next x c a s t whole (sent_end x moments there s t c a w h);
  holds = (urges x moments there s t c a w h).held;
}

-- ---- calls of a link

both_at : (x z : Modes) (end side : Side) (moments : List Moment) (c : RingCall) (answer : RingAnswer) (a b : Link) → Going x z a →
    x.cut ≡ (λ (byte : ℕ). byte) → z.cut ≡ (λ (byte : ℕ). byte) →
    EndStep moments (at_end (other side) a) (at_end side a) c answer (at_end side b) →
    OfEnd end side (Both c answer (at_end end a) (at_end end b))
both_at x z Left Left moments c answer a b g whole whole_too h = both x moments a.right a.left b.left c answer g.left whole h
both_at x z Right Right moments c answer a b g whole whole_too h = both z moments a.left a.right b.right c answer g.right whole_too h
both_at x z Left Right moments c answer a b g whole whole_too h = tt
both_at x z Right Left moments c answer a b g whole whole_too h = tt

-- what holds of such calls of an end holds of a part of it
of_both : {A B : Type 0} → (end side : Side) → (A → B) → OfEnd end side A → OfEnd end side B
of_both Left Left f h = f h
of_both Right Right f h = f h
of_both Left Right f h = tt
of_both Right Left f h = tt

pub all_tell_and_hold : (x z : Modes) (end : Side) (steps : List Step) (a b : Link) → Going x z a → x.cut ≡ (λ (byte : ℕ). byte) →
    z.cut ≡ (λ (byte : ℕ). byte) → LinkChain a steps b → AllTellAndHold end steps
all_tell_and_hold x z end [] a b g whole whole_too h = tt
all_tell_and_hold x z end (step ∷ steps) a b g whole whole_too h =
    let g' = subst (λ (o : Link). Going x z o) (sym h.0) g in
    let side = step.call.side in
    let k = both_at x z end side step.call.moments.items step.call.call step.answer step.before step.after g' whole whole_too h.1.0 in
    let on = going_after x z (step ∷ []) step.before step.after g' (refl, h.1, refl) in (
      record {
        tells = of_both end side (λ (p : Both step.call.call step.answer (at_end end step.before) (at_end end step.after)). p.tells) k;
        holds = of_both end side (λ (p : Both step.call.call step.answer (at_end end step.before) (at_end end step.after)). p.holds) k;
      },
      all_tell_and_hold x z end steps step.after b on whole whole_too h.2,
    )
