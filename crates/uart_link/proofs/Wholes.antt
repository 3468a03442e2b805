-- If no character is dropped, all that was queued is taken or is still there.
use Rattle.uart_link.proofs.Names.{◌≡◌, ℕ, ◌+◌, ◌≤◌, Bool, true, false, List, [], ◌∷◌, ◌++◌, map, append_assoc, refl, sym, ◌∙◌, ap, arith}
use Rattle.uart_link.proofs.Names.{filter, map-append, filter-append, Pending, Character, Origin, Arrived, ReceiverState, mark_at}
use Rattle.uart_link.proofs.Names.{origin_stands, stands, waiting, AllInQueue, IsSound, ring_machine, to_take, Side, Link, numbered}
use Rattle.uart_link.proofs.Names.{on_the_way, receiver_at, not_dropped, queued_at, Carries, DropsNothing, CarriesAll, Delivers, at_end}
use Rattle.uart_link.proofs.Names.{other, Step}
use Rattle.uart_chip.proofs.conservation.Moves.{waits_stands}

-- whatever was not dropped at first is not dropped later
abbrev AllStand : (r s : ReceiverState) → Type 0
AllStand r s = (o : Origin) → origin_stands r.marks r.is_unscheduled_lost o ≡ true → origin_stands s.marks s.is_unscheduled_lost o ≡ true

all_stand : (end : Side) (a b : Link) → DropsNothing end a b → AllStand (receiver_at (at_end end a)) (receiver_at (at_end end b))
all_stand end a b none o stood = go (origin_stands s.marks s.is_unscheduled_lost o) refl
  where
    s : ReceiverState
    s = receiver_at (at_end end b)

    go : (x : Bool) → origin_stands s.marks s.is_unscheduled_lost o ≡ x → origin_stands s.marks s.is_unscheduled_lost o ≡ true
    go true e = e
    go false e = absurd (none (record { origin = o; stood = stood; lost = e }))

queue_stands : (r s : ReceiverState) → AllStand r s → (characters : List Character) →
    AllInQueue r.arrived r.marks r.is_unscheduled_lost characters → not_dropped s characters ≡ map (λ character. character.byte) characters
queue_stands r s all [] h = refl
queue_stands r s all (character ∷ characters) h =
    let e : stands s character ≡ true =
    all character.origin (waits_stands r.arrived r.marks r.is_unscheduled_lost character.origin h.0) in
    rw e (ap (λ zs. character.byte ∷ zs) (queue_stands r s all characters h.1))

numbered_stands : (r s : ReceiverState) → AllStand r s → ((number : ℕ) → r.arrived ≤ number → mark_at r.marks number ≡ Pending) →
    (k : ℕ) (bytes : List ℕ) → r.arrived ≤ k → not_dropped s (numbered k bytes) ≡ bytes
numbered_stands r s all pending k [] h = refl
numbered_stands r s all pending k (byte ∷ bytes) h =
    let new : Character = record { byte = byte; errors = 0; origin = Arrived k } in
    let stood : origin_stands r.marks r.is_unscheduled_lost (Arrived k) ≡ true = rw (pending k h) refl in
    let e : stands s new ≡ true = all (Arrived k) stood in
    rw e (ap (λ zs. byte ∷ zs) (numbered_stands r s all pending (k + 1) bytes (omega (arith, h))))

pub carries_all : (end : Side) (a b : Link) (steps : List Step) → IsSound (ring_machine (at_end (other end) a)) →
    DropsNothing (other end) a b → Carries end a steps b → CarriesAll end a steps b
carries_all end a b steps w none carries order =
    let to = other end in
    let r = receiver_at (at_end to a) in
    let s = receiver_at (at_end to b) in
    let all = all_stand to a b none in
    let byte : Character → ℕ = λ character. character.byte in
    let come = on_the_way (at_end end a) (at_end to a) ++ queued_at end steps in
    let new = numbered r.arrived come in
    let marked = w.chip.receiver.marked in
    let split : not_dropped s (r.queue ++ new) ≡ not_dropped s r.queue ++ not_dropped s new =
    ap (map byte) (filter-append (stands s) r.queue new) ∙ map-append byte (filter (stands s) r.queue) (filter (stands s) new) in
    let first : not_dropped s r.queue ≡ waiting (ring_machine (at_end to a)) = queue_stands r s all r.queue marked.wait in
    let second : not_dropped s new ≡ come = numbered_stands r s all marked.to_come r.arrived come (omega arith) in
    carries order ∙ (ap (λ zs. to_take (at_end to a) ++ zs) (split ∙ (λ i. first i ++ second i)) ∙
    sym (append_assoc (to_take (at_end to a)) (waiting (ring_machine (at_end to a))) come))

pub delivers : (end : Side) (a b : Link) (steps : List Step) → IsSound (ring_machine (at_end (other end) a)) → Carries end a steps b →
    DropsNothing (other end) a b → Delivers end a steps b
delivers end a b steps sound carries none = record { drops_nothing = none; carries_all = carries_all end a b steps sound none carries }
