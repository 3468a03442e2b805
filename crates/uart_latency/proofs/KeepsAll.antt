-- If no character is dropped, all that arrived is kept.
use Rattle.uart_latency.proofs.Names.{◌≡◌, ℕ, ◌+◌, ◌≤◌, Bool, true, false, List, [], ◌∷◌, ◌++◌, map, refl, ◌∙◌, ap, arith, filter}
use Rattle.uart_latency.proofs.Names.{filter-append, Event, Ticks, Arrive, Lines, Gate, Mark, Character, Arrived, cut_of, MachineState}
use Rattle.uart_latency.proofs.Names.{ReceiverState, mark_at, IsDrop, origin_stands, stands, arriving, cut_character, between, entered}
use Rattle.uart_latency.proofs.Names.{kept, RingState, RingLink, ring_machine, to_take, OwnConserves, KeepsAll}
use Rattle.uart_events.specs.declared.event.ArrivalMark.TheVariants.{Pending}
use Rattle.uart_chip.specs.declared.receiver.Origin.{Origin}
use Rattle.uart_chip.specs.Sound.{AllInQueue, IsSound}
use Rattle.uart_chip.proofs.conservation.Moves.{waits_stands}

-- whatever was not dropped at first is not dropped later
abbrev AllStand : (r s : ReceiverState) → Type 0
AllStand r s = (o : Origin) → origin_stands r.marks r.is_unscheduled_lost o ≡ true → origin_stands s.marks s.is_unscheduled_lost o ≡ true

all_stand : (m n : MachineState) → (IsDrop m n → ⊥) → AllStand m.chip.receiver n.chip.receiver
all_stand m n none o stood = go (origin_stands s.marks s.is_unscheduled_lost o) refl
  where
    s : ReceiverState
    s = n.chip.receiver

    go : (x : Bool) → origin_stands s.marks s.is_unscheduled_lost o ≡ x → origin_stands s.marks s.is_unscheduled_lost o ≡ true
    go true e = e
    go false e = absurd (none (record { origin = o; stood = stood; lost = e }))

queue_stands : (r s : ReceiverState) → AllStand r s → (characters : List Character) →
    AllInQueue r.arrived r.marks r.is_unscheduled_lost characters → filter (stands s) characters ≡ characters
queue_stands r s all [] h = refl
queue_stands r s all (character ∷ characters) h =
    let e : stands s character ≡ true =
    all character.origin (waits_stands r.arrived r.marks r.is_unscheduled_lost character.origin h.0) in
    rw e (ap (λ zs. character ∷ zs) (queue_stands r s all characters h.1))

arriving_stand : (cut : ℕ → ℕ) (r s : ReceiverState) → AllStand r s →
    ((number : ℕ) → r.arrived ≤ number → mark_at r.marks number ≡ Pending) → (k : ℕ) (events : List Event) → r.arrived ≤ k →
    filter (stands s) (map (cut_character cut) (arriving k events)) ≡ map (cut_character cut) (arriving k events)
arriving_stand cut r s all pending k [] h = refl
arriving_stand cut r s all pending k (Arrive byte errors ∷ events) h =
    let new : Character = record { byte = cut byte; errors = errors; origin = Arrived k } in
    let stood : origin_stands r.marks r.is_unscheduled_lost (Arrived k) ≡ true = rw (pending k h) refl in
    let e : stands s new ≡ true = all (Arrived k) stood in
    rw e (ap (λ zs. new ∷ zs) (arriving_stand cut r s all pending (k + 1) events (omega (arith, h))))
arriving_stand cut r s all pending k (Ticks n ∷ events) h = arriving_stand cut r s all pending k events h
arriving_stand cut r s all pending k (Lines inputs ∷ events) h = arriving_stand cut r s all pending k events h
arriving_stand cut r s all pending k (Gate ∷ events) h = arriving_stand cut r s all pending k events h
arriving_stand cut r s all pending k (Mark ∷ events) h = arriving_stand cut r s all pending k events h

all_kept : (m n : MachineState) → IsSound m → (IsDrop m n → ⊥) → kept m n ≡ map (λ character. character.byte) (entered m n)
all_kept m n w none =
    let r = m.chip.receiver in
    let s = n.chip.receiver in
    let all = all_stand m n none in
    let marked = w.chip.receiver.marked in
    let new = map (cut_character (cut_of m.chip)) (arriving r.arrived (between m n)) in
    let first = queue_stands r s all r.queue marked.wait in
    let second = arriving_stand (cut_of m.chip) r s all marked.to_come r.arrived (between m n) (omega arith) in
    ap (map (λ (character : Character). character.byte)) (filter-append (stands s) r.queue new ∙ (λ i. first i ++ second i))

pub keeps_all : (s t : RingState) (links : List RingLink) → IsSound (ring_machine s) → OwnConserves s links t →
    (IsDrop (ring_machine s) (ring_machine t) → ⊥) → KeepsAll s links t
keeps_all s t links w conserves none =
    conserves.kept ∙ ap (λ zs. to_take s ++ zs) (all_kept (ring_machine s) (ring_machine t) w none)
