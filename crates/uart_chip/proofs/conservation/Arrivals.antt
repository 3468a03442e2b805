-- A character that arrives outside of loopback, and one that is taken.
use Rattle.std.proofs.Common.{◌≡◌, ◌≢◌, ℕ, ◌+◌, ◌≤◌, ◌<◌, Bool, true, false, inl, inr, nat_lt, List, [], ◌∷◌, ◌++◌, length, length-append}
use Rattle.std.proofs.Common.{refl, arith, sym, ◌∙◌, ap, slice_set, get_or-set_same, get_or-set_other, if◌then◌else◌}
use Rattle.uart_events.specs.declared.event.ArrivalMark.TheVariants.{Pending, Waiting, Read, Dropped}
use Rattle.uart_chip.specs.declared.receiver.Character.{Character}
use Rattle.uart_chip.specs.declared.receiver.Origin.{Origin}
use Rattle.uart_chip.specs.declared.receiver.Origin.TheVariants.{Arrived, Looped}
use Rattle.uart_chip.specs.Receiver.{ReceiverState, mark_at, set_mark, is_unscheduled, replace, arrive, take_front}
use Rattle.uart_chip.specs.Transmitter.{room}
use Rattle.uart_spec.specs.FifoSize.{characters}
use Rattle.uart_chip.specs.Sound.{IsMarked}
use Rattle.uart_chip.proofs.Bits.{has_none}
use Rattle.uart_chip.proofs.conservation.Moves.{moved_room, moved_full, moved_taken, moved_replaced}
use Rattle.uart_chip.proofs.conservation.Receives.{Drop, Owed, Shows, no_drop-set, Receives}
use Rattle.uart_chip.proofs.conservation.Stepped.{stepped-room, stepped-full, stepped-replaced, stepped-front}
use Rattle.std.proofs.lemmas.Grind.{common_steps}

-- no line status was read, so what shows is the flag
only_pending : (r s : ReceiverState) → (s.is_overrun ≡ true → Owed r s) → Shows 0 s → Owed r s
only_pending r s f (inl h) = absurd (cc (has_none 1))
only_pending r s f (inr h) = f h

-- ---- an arrival

receives-room : (fifo : Bool) (r s : ReceiverState) (new : Character) → IsMarked fifo r → new.origin ≡ Arrived r.arrived →
    r.arrived < length r.marks → length r.queue < room fifo r.size →
    s.queue ≡ r.queue ++ new ∷ [] → s.marks ≡ slice_set r.marks r.arrived Waiting → s.is_unscheduled_lost ≡ r.is_unscheduled_lost →
    s.arrived ≡ r.arrived + 1 → s.size ≡ r.size → s.is_overrun ≡ r.is_overrun → Receives fifo r s (new ∷ []) [] 0
receives-room fifo r s new w o k free queue marks missing arrived size overrun = record {
  number = arrived;
  fuller = rw queue (simp length-append (omega arith));
  moved = moved_room fifo r s new w o k queue marks missing arrived;
  is_shown = λ h. to h;
  was_owed = only_pending r s (λ h. inl (sym overrun ∙ h));
  stepped = stepped-room fifo r s new free queue size overrun;
}
  where
    to : Owed r s → Shows 0 s
    to (inl h) = inr (overrun ∙ h)
    to (inr h) = absurd (no_drop-set r s (Arrived r.arrived) Waiting (λ e. cc) marks missing h)

receives-full : (r s : ReceiverState) (new : Character) → IsMarked true r → new.origin ≡ Arrived r.arrived → r.arrived < length r.marks →
    room true r.size ≤ length r.queue → s.queue ≡ r.queue → s.marks ≡ slice_set r.marks r.arrived Dropped →
    s.is_unscheduled_lost ≡ r.is_unscheduled_lost →
    s.arrived ≡ r.arrived + 1 → s.size ≡ r.size → s.is_overrun ≡ true → Receives true r s (new ∷ []) [] 0
receives-full r s new w o k full queue marks missing arrived size overrun =
    let pending : mark_at r.marks r.arrived ≡ Pending = w.to_come r.arrived (omega arith) in
    let gone : mark_at s.marks r.arrived ≡ Dropped = rw marks (get_or-set_same r.marks r.arrived Dropped Pending k) in
    record {
      number = arrived;
      fuller = rw queue (omega arith);
      moved = moved_full r s new w o k queue marks missing;
      is_shown = λ h. inr overrun;
      was_owed = λ h. inr (record { origin = Arrived r.arrived; stood = rw pending refl; lost = rw gone refl });
      stepped = stepped-full r s new full queue size overrun;
    }

receives-replaced : (r s : ReceiverState) (old new : Character) (o : Origin) → IsMarked false r → new.origin ≡ Arrived r.arrived →
    r.arrived < length r.marks →
    old.origin ≡ o → r.queue ≡ old ∷ [] → s.queue ≡ new ∷ [] → s.marks ≡ slice_set (set_mark o Dropped r.marks) r.arrived Waiting →
    s.is_unscheduled_lost ≡ (if is_unscheduled o then true else r.is_unscheduled_lost) → s.arrived ≡ r.arrived + 1 → s.size ≡ r.size →
    s.is_overrun ≡ true → Receives false r s (new ∷ []) [] 0
receives-replaced r s old new o w n k p i queue marks missing arrived size overrun = record {
  number = arrived;
  fuller = rw (i, queue) (omega arith);
  moved = moved_replaced r s old new o w n k p i queue marks missing;
  is_shown = λ h. inr overrun;
  was_owed = λ h. inr (fell o p marks missing);
  stepped = stepped-replaced r s old new i queue size overrun;
}
  where
    fell : (o : Origin) → old.origin ≡ o → s.marks ≡ slice_set (set_mark o Dropped r.marks) r.arrived Waiting →
        s.is_unscheduled_lost ≡ (if is_unscheduled o then true else r.is_unscheduled_lost) → Drop r s
    fell (Arrived j) p marks missing =
        let wait = rw (i, p) at w.wait in
        let below : j < r.arrived = wait.0.0 in
        let waiting : mark_at r.marks j ≡ Waiting = wait.0.1 in
        let sooner : j ≢ r.arrived = omega arith in
        let in_marks : j < length r.marks = omega arith in
        let dropped : mark_at s.marks j ≡ Dropped =
        rw marks
        (get_or-set_other (slice_set r.marks j Dropped) r.arrived j Waiting Pending sooner ∙
        get_or-set_same r.marks j Dropped Pending in_marks) in
        record { origin = Arrived j; stood = rw waiting refl; lost = rw dropped refl }
    fell _ p marks missing =
        let wait = rw (i, p) at w.wait in
        let kept : r.is_unscheduled_lost ≡ false = wait.0 in
        record { origin = Looped; stood = rw kept refl; lost = rw missing refl }

not_less : (n k : ℕ) → nat_lt n k ≡ false → k ≤ n
not_less n k e = grind (arith, common_steps)

less : (n k : ℕ) → nat_lt n k ≡ true → n < k
less n k e = grind (arith, common_steps)

-- the next arrival of the schedule
pub receives-arrive : (fifo : Bool) (r : ReceiverState) (byte errors : ℕ) → IsMarked fifo r → r.arrived < length r.marks →
    Receives fifo r (arrive false fifo byte errors r) (record { byte = byte; errors = errors; origin = Arrived r.arrived } ∷ []) [] 0
receives-arrive true r byte errors w k = go (nat_lt (length r.queue) (characters r.size)) refl
  where
    go : (b : Bool) → nat_lt (length r.queue) (characters r.size) ≡ b →
        Receives true r (arrive false true byte errors r) (record { byte = byte; errors = errors; origin = Arrived r.arrived } ∷ []) [] 0
    go true e = rw e (receives-room true r _ _ w refl k (less _ _ e) refl refl refl refl refl refl)
    go false e = rw e (receives-full r _ _ w refl k (not_less _ _ e) refl refl refl refl refl refl)
receives-arrive false r byte errors w k = go r.queue refl w.in_room
  where
    go : (queue : List Character) → r.queue ≡ queue → length r.queue ≤ 1 →
        Receives false r (arrive false false byte errors r) (record { byte = byte; errors = errors; origin = Arrived r.arrived } ∷ []) [] 0
    go [] e h =
        let t : nat_lt (length r.queue) 1 ≡ true = rw e refl in
        rw t (receives-room false r _ _ w refl k (less _ _ t) refl refl refl refl refl refl)
    go (old ∷ []) e h =
        let t : nat_lt (length r.queue) 1 ≡ false = rw e refl in
        let new : Character = record { byte = byte; errors = errors; origin = Arrived r.arrived } in
        let next : ReceiverState = record r { arrived = r.arrived + 1 } in
        let f : replace r.queue new next ≡ replace (old ∷ []) new next = ap (λ (xs : List Character). replace xs new next) e in
        rw (t, f) (receives-replaced r (replace (old ∷ []) new next) old new old.origin w refl k refl e refl refl refl refl refl refl)
    go (old ∷ other ∷ others) e h = let f : length (old ∷ other ∷ others) ≤ 1 = rw e at h in absurd (omega arith)

-- ---- the front is taken

pub receives-front : (fifo : Bool) (r : ReceiverState) (front : Character) (others : List Character) → IsMarked fifo r →
    r.queue ≡ front ∷ others →
    Receives fifo r (take_front (front ∷ others) r) [] (front ∷ []) 0
receives-front fifo r front others w i =
    let s : ReceiverState = take_front (front ∷ others) r in
    record {
      number = omega arith;
      fuller = rw i (omega arith);
      moved = moved_taken fifo r s front front.origin w refl i refl refl;
      is_shown = λ o. to o;
      was_owed = only_pending r s (λ h. inl h);
      stepped = stepped-front fifo r s front others i refl refl refl;
    }
  where
    to : Owed r (take_front (front ∷ others) r) → Shows 0 (take_front (front ∷ others) r)
    to (inl h) = inr h
    to (inr h) = absurd (no_drop-set r (take_front (front ∷ others) r) front.origin Read (λ e. cc) refl refl h)
