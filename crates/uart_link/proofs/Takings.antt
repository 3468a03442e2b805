-- An end that never clears its receive ring has taken all that left it.
use Rattle.uart_link.proofs.Names.{◌≡◌, ◌≢◌, ℕ, List, [], ◌∷◌, ◌++◌, map, refl, sym, ◌∙◌, ap, map-append, RingAnswer, RingCall, to_take}
use Rattle.uart_link.proofs.Names.{taken_by, Side, Left, Right, Gone, Taken, Cleared, byte_of, taken_among, left_in, of_end, OfEnd, gone_at}
use Rattle.uart_link.proofs.Names.{TakesAllGone, at_end, Step}
use Rattle.uart_ring_runs.specs.declared.call.RingCall.TheVariants as call

-- all of these were taken
abbrev AllTaken : List Gone → Type 0
AllTaken gone = taken_among gone ≡ map byte_of gone

taken_append : (front back : List Gone) → taken_among (front ++ back) ≡ taken_among front ++ taken_among back
taken_append [] back = refl
taken_append (Taken byte ∷ front) back = ap (λ zs. byte ∷ zs) (taken_append front back)
taken_append (Cleared byte ∷ front) back = taken_append front back

all_append : (front back : List Gone) → AllTaken front → AllTaken back → AllTaken (front ++ back)
all_append front back p q = taken_append front back ∙ ((λ i. p i ++ q i) ∙ sym (map-append byte_of front back))

all_taken : (bytes : List ℕ) → AllTaken (map Taken bytes)
all_taken [] = refl
all_taken (byte ∷ bytes) = ap (λ zs. byte ∷ zs) (all_taken bytes)

left_taken : (c : RingCall) (a : RingAnswer) (there : List ℕ) → c ≢ call.ClearReceive → AllTaken (left_in c a there)
left_taken call.ClearReceive a there never = absurd (never refl)
left_taken other a there never = all_taken (taken_by other a)

left_at_end : (end side : Side) (c : RingCall) (a : RingAnswer) (there : List ℕ) → OfEnd end side (c ≢ call.ClearReceive) →
    AllTaken (of_end end side (left_in c a there))
left_at_end Left Left c a there never = left_taken c a there never
left_at_end Right Right c a there never = left_taken c a there never
left_at_end Left Right c a there never = refl
left_at_end Right Left c a there never = refl

pub takes_all_gone : (end : Side) (steps : List Step) → TakesAllGone end steps
takes_all_gone end [] none = refl
takes_all_gone end (step ∷ steps) none =
    let there = to_take (at_end step.call.side step.before) in
    all_append (of_end end step.call.side (left_in step.call.call step.answer there)) (gone_at end steps)
    (left_at_end end step.call.side step.call.call step.answer there none.0) (takes_all_gone end steps none.1)
