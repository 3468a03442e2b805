-- Each character that came in waits, was taken, or was dropped.
use Rattle.std.proofs.Common.{◌≡◌, ◌≢◌, ℕ, ◌+◌, ◌≤◌, ◌<◌, Bool, true, false, not, nat_eq, List, [], ◌∷◌, ◌++◌, length, append_assoc}
use Rattle.std.proofs.Common.{append-nil, refl, arith, sym, ◌∙◌, ap, if◌then◌else◌, slice_set, get_or-set_same, get_or-set_other}
use Rattle.std.proofs.lemmas.List.{length-set}
use Rattle.std.specs.List.{filter, AllByRecursion}
use Rattle.std.proofs.lemmas.List.Elements.{filter-append}
use Rattle.std.proofs.lemmas.Grind.{common_steps}
use Rattle.uart_events.specs.declared.event.ArrivalMark.{ArrivalMark}
use Rattle.uart_events.specs.declared.event.ArrivalMark.TheVariants.{Pending, Waiting, Read, Dropped}
use Rattle.uart_chip.specs.declared.receiver.Character.{Character}
use Rattle.uart_chip.specs.declared.receiver.Origin.{Origin}
use Rattle.uart_chip.specs.declared.receiver.Origin.TheVariants.{Arrived}
use Rattle.uart_chip.specs.Transmitter.{room}
use Rattle.uart_chip.specs.Receiver.{ReceiverState, mark_at, set_mark, is_unscheduled}
use Rattle.uart_chip.specs.Sound.{IsInQueue, AllInQueue, IsMarked}
use Rattle.uart_chip.proofs.Lists.{each-append, each-weaker}
use Rattle.uart_chip.specs.Conserved.{is_dropped, origin_stands, stands}
use Rattle.uart_chip.proofs.soundness.Marks.{none_to_come, all_in_queue-set, all_in_queue-next, all_in_queue-append}

-- ---- what waits was not dropped

pub waits_stands : (arrived : ℕ) (marks : List ArrivalMark) (missing : Bool) (o : Origin) → IsInQueue arrived marks missing o →
    origin_stands marks missing o ≡ true
waits_stands arrived marks missing (Arrived k) h = rw h.1 refl
waits_stands arrived marks missing _ h = rw h refl

pub filter-waits : (r : ReceiverState) (arrived : ℕ) (characters : List Character) →
    AllInQueue arrived r.marks r.is_unscheduled_lost characters →
    filter (stands r) characters ≡ characters
filter-waits r arrived [] h = refl
filter-waits r arrived (character ∷ characters) h =
    let e : stands r character ≡ true = waits_stands arrived r.marks r.is_unscheduled_lost character.origin h.0 in
    rw e (ap (λ xs. character ∷ xs) (filter-waits r arrived characters h.1))

-- ---- what is not dropped later

-- none of these came back in loopback
abbrev pub NoneLooped : List Character → Type 0
NoneLooped characters = AllByRecursion (λ (character : Character). is_unscheduled character.origin ≡ false) characters

-- no looped character can be lost from now on
abbrev pub NoneMissing : Bool → ReceiverState → Type 0
NoneMissing true r = r.is_unscheduled_lost ≡ false
NoneMissing false r = (r.is_unscheduled_lost ≡ false) × NoneLooped r.queue

-- a character of this origin isn't dropped later
abbrev pub IsFinal : Bool → ReceiverState → Origin → Type 0
IsFinal fifo r (Arrived k) = mark_at r.marks k ≡ Read
IsFinal fifo r _ = NoneMissing fifo r

abbrev pub AllFinal : Bool → ReceiverState → List Character → Type 0
AllFinal fifo r characters = AllByRecursion (λ (character : Character). IsFinal fifo r character.origin) characters

-- from r to s these came in, and those were taken
pub record Moved (fifo : Bool) (r s : ReceiverState) (entering takes : List Character) : Type 0 where
  pub stay : filter (stands s) (r.queue ++ entering) ≡ takes ++ s.queue
  pub falls : (o : Origin) → origin_stands s.marks s.is_unscheduled_lost o ≡ true → origin_stands r.marks r.is_unscheduled_lost o ≡ true
  pub final : (o : Origin) → IsFinal fifo r o → IsFinal fifo s o
  pub taken_final : AllFinal fifo s takes

pub missing_false : (fifo : Bool) (r : ReceiverState) → NoneMissing fifo r → r.is_unscheduled_lost ≡ false
missing_false true r h = h
missing_false false r h = h.0

pub final_stands : (fifo : Bool) (r : ReceiverState) (o : Origin) → IsFinal fifo r o → origin_stands r.marks r.is_unscheduled_lost o ≡ true
final_stands fifo r (Arrived k) h = rw h refl
final_stands fifo r _ h = rw (missing_false fifo r h) refl

pub filter-final : (fifo : Bool) (r : ReceiverState) (characters : List Character) → AllFinal fifo r characters →
    filter (stands r) characters ≡ characters
filter-final fifo r [] h = refl
filter-final fifo r (character ∷ characters) h =
    let e : stands r character ≡ true = final_stands fifo r character.origin h.0 in
    rw e (ap (λ xs. character ∷ xs) (filter-final fifo r characters h.1))

pub all_final-later : (fifo : Bool) (r s : ReceiverState) (characters : List Character) →
    ((o : Origin) → IsFinal fifo r o → IsFinal fifo s o) →
    AllFinal fifo r characters → AllFinal fifo s characters
all_final-later fifo r s characters f h =
    each-weaker (λ (x : Character). IsFinal fifo r x.origin) (λ (x : Character). IsFinal fifo s x.origin) (λ x h. f x.origin h) characters h

pub all_final-append : (fifo : Bool) (r : ReceiverState) (xs ys : List Character) → AllFinal fifo r xs → AllFinal fifo r ys →
    AllFinal fifo r (xs ++ ys)
all_final-append fifo r xs ys h k = each-append (λ (x : Character). IsFinal fifo r x.origin) xs ys h k

-- a test that passes less may be made of what another passed
pub filter-twice : (p q : Character → Bool) → ((character : Character) → q character ≡ true → p character ≡ true) → (xs : List Character) →
    filter q xs ≡ filter q (filter p xs)
filter-twice p q f [] = refl
filter-twice p q f (x ∷ xs) = go (p x) (q x) refl refl (filter-twice p q f xs)
  where
    go : (a b : Bool) → p x ≡ a → q x ≡ b → filter q xs ≡ filter q (filter p xs) → filter q (x ∷ xs) ≡ filter q (filter p (x ∷ xs))
    go true true e g ih = rw (e, g) (ap (λ ys. x ∷ ys) ih)
    go true false e g ih = rw (e, g) ih
    go false false e g ih = rw (e, g) ih
    go false true e g ih = let h : p x ≡ true = f x g in absurd (cc)

pub moved_trans : (fifo : Bool) (r s t : ReceiverState) (e f xs ys : List Character) → Moved fifo r s e xs → Moved fifo s t f ys →
    Moved fifo r t (e ++ f) (xs ++ ys)
moved_trans fifo r s t e f xs ys a b = record {
  stay =
      let twice : filter (stands t) (r.queue ++ e) ≡ filter (stands t) (filter (stands s) (r.queue ++ e)) =
      filter-twice (stands s) (stands t) (λ i h. b.falls i.origin h) (r.queue ++ e) in
      let final : filter (stands t) xs ≡ xs = filter-final fifo t xs (all_final-later fifo s t xs b.final a.taken_final) in
      let split : filter (stands t) (s.queue ++ f) ≡ filter (stands t) s.queue ++ filter (stands t) f =
      filter-append (stands t) s.queue f in
      let front : filter (stands t) (xs ++ s.queue) ≡ filter (stands t) xs ++ filter (stands t) s.queue =
      filter-append (stands t) xs s.queue in
      let whole : filter (stands t) ((r.queue ++ e) ++ f) ≡ filter (stands t) (r.queue ++ e) ++ filter (stands t) f =
      filter-append (stands t) (r.queue ++ e) f in
      let step : filter (stands t) (r.queue ++ e) ≡ xs ++ filter (stands t) s.queue =
      twice ∙ (ap (filter (stands t)) a.stay ∙ (front ∙ ap (λ zs. zs ++ filter (stands t) s.queue) final)) in
      ap (filter (stands t)) (sym (append_assoc r.queue e f)) ∙ (whole ∙ (ap (λ zs. zs ++ filter (stands t) f) step ∙
      (append_assoc xs (filter (stands t) s.queue) (filter (stands t) f) ∙
      (ap (λ zs. xs ++ zs) (sym split ∙ b.stay) ∙ sym (append_assoc xs ys t.queue)))));
  falls = λ o h. a.falls o (b.falls o h);
  final = λ o h. b.final o (a.final o h);
  taken_final = all_final-append fifo t xs ys (all_final-later fifo s t xs b.final a.taken_final) b.taken_final;
}

-- the marks are set if nothing was read or dropped
pub falls-set : (marks : List ArrivalMark) (k : ℕ) (m : ArrivalMark) (j : ℕ) → is_dropped (mark_at marks k) ≡ false →
    not (is_dropped (mark_at (slice_set marks k m) j)) ≡ true → not (is_dropped (mark_at marks j)) ≡ true
falls-set marks k m j h g = go (nat_eq j k) refl
  where
    go : (b : Bool) → nat_eq j k ≡ b → not (is_dropped (mark_at marks j)) ≡ true
    go true e = let same : j ≡ k = grind arith in rw same (ap not h)
    go false e = let other : j ≢ k = grind arith in rw (get_or-set_other marks k j m Pending other) at g

pub read-set : (marks : List ArrivalMark) (k : ℕ) (m : ArrivalMark) (j : ℕ) → mark_at marks k ≢ Read → mark_at marks j ≡ Read →
    mark_at (slice_set marks k m) j ≡ Read
read-set marks k m j h g =
    let other : j ≢ k = λ e. h (ap (mark_at marks) (sym e) ∙ g) in
    get_or-set_other marks k j m Pending other ∙ g

pub falls-mark : (r s : ReceiverState) (k : ℕ) (m : ArrivalMark) → is_dropped (mark_at r.marks k) ≡ false →
    s.marks ≡ slice_set r.marks k m →
    s.is_unscheduled_lost ≡ r.is_unscheduled_lost → (o : Origin) → origin_stands s.marks s.is_unscheduled_lost o ≡ true →
    origin_stands r.marks r.is_unscheduled_lost o ≡ true
falls-mark r s k m h e f (Arrived j) g = falls-set r.marks k m j h (rw e at g)
falls-mark r s k m h e f _ g = rw f at g

pub final-set : (fifo : Bool) (r s : ReceiverState) (k : ℕ) (m : ArrivalMark) → mark_at r.marks k ≢ Read → s.marks ≡ slice_set r.marks k m →
    (o : Origin) → (NoneMissing fifo r → NoneMissing fifo s) → IsFinal fifo r o → IsFinal fifo s o
final-set fifo r s k m h e (Arrived j) c g = rw e (read-set r.marks k m j h g)
final-set fifo r s k m h e _ c g = c g

pub none_looped-append : (xs ys : List Character) → NoneLooped xs → NoneLooped ys → NoneLooped (xs ++ ys)
none_looped-append xs ys h k = each-append (λ (x : Character). is_unscheduled x.origin ≡ false) xs ys h k

pub none_missing-more : (fifo : Bool) (r s : ReceiverState) (new : Character) → new.origin ≡ Arrived r.arrived →
    s.queue ≡ r.queue ++ new ∷ [] →
    s.is_unscheduled_lost ≡ r.is_unscheduled_lost → NoneMissing fifo r → NoneMissing fifo s
none_missing-more true r s new o i e c = e ∙ c
none_missing-more false r s new o i e c = (e ∙ c.0, rw i (none_looped-append r.queue (new ∷ []) c.1 (rw o refl, tt)))

-- the step of a character that comes in with room
pub moved_room : (fifo : Bool) (r s : ReceiverState) (new : Character) → IsMarked fifo r → new.origin ≡ Arrived r.arrived →
    r.arrived < length r.marks →
    s.queue ≡ r.queue ++ new ∷ [] → s.marks ≡ slice_set r.marks r.arrived Waiting → s.is_unscheduled_lost ≡ r.is_unscheduled_lost →
    s.arrived ≡ r.arrived + 1 →
    Moved fifo r s (new ∷ []) []
moved_room fifo r s new w o k queue marks missing arrived =
    let old : AllInQueue (r.arrived + 1) (slice_set r.marks r.arrived Waiting) r.is_unscheduled_lost r.queue =
    all_in_queue-set (r.arrived + 1) r.marks r.is_unscheduled_lost r.arrived Waiting r.queue
    (none_to_come r.arrived r.marks r.is_unscheduled_lost r.queue w.wait)
    (all_in_queue-next r.arrived r.marks r.is_unscheduled_lost r.queue w.wait) in
    let here : IsInQueue (r.arrived + 1) (slice_set r.marks r.arrived Waiting) r.is_unscheduled_lost new.origin =
    rw o (omega arith, get_or-set_same r.marks r.arrived Waiting Pending k) in
    let all : AllInQueue s.arrived s.marks s.is_unscheduled_lost (r.queue ++ new ∷ []) =
    rw (arrived, marks, missing) (all_in_queue-append _ _ _ r.queue (new ∷ []) old (here, tt)) in
    let pending : mark_at r.marks r.arrived ≡ Pending = w.to_come r.arrived (omega arith) in
    record {
      stay = filter-waits s s.arrived (r.queue ++ new ∷ []) all ∙ sym queue;
      falls = falls-mark r s r.arrived Waiting (ap is_dropped pending) marks missing;
      final =
          λ where_from g. final-set fifo r s r.arrived Waiting (λ e. absurd (cc)) marks where_from
          (λ c. none_missing-more fifo r s new o queue missing c) g;
      taken_final = tt;
    }

-- the step of a character that comes in while the queue is full
pub moved_full : (r s : ReceiverState) (new : Character) → IsMarked true r → new.origin ≡ Arrived r.arrived → r.arrived < length r.marks →
    s.queue ≡ r.queue → s.marks ≡ slice_set r.marks r.arrived Dropped → s.is_unscheduled_lost ≡ r.is_unscheduled_lost →
    Moved true r s (new ∷ []) []
moved_full r s new w o k queue marks missing =
    let pending : mark_at r.marks r.arrived ≡ Pending = w.to_come r.arrived (omega arith) in
    let old : AllInQueue r.arrived (slice_set r.marks r.arrived Dropped) r.is_unscheduled_lost r.queue =
    all_in_queue-set r.arrived r.marks r.is_unscheduled_lost r.arrived Dropped r.queue
    (none_to_come r.arrived r.marks r.is_unscheduled_lost r.queue w.wait) w.wait in
    let stay_old : filter (stands s) r.queue ≡ r.queue = filter-waits s r.arrived r.queue (rw (marks, missing) old) in
    let out : stands s new ≡ false = rw (o, marks, get_or-set_same r.marks r.arrived Dropped Pending k) refl in
    let none : filter (stands s) (new ∷ []) ≡ [] = rw out refl in
    record {
      stay = filter-append (stands s) r.queue (new ∷ []) ∙ (rw (none, stay_old) (rw queue (grind (arith, common_steps))));
      falls = falls-mark r s r.arrived Dropped (ap is_dropped pending) marks missing;
      final = λ from g. final-set true r s r.arrived Dropped (λ e. absurd (cc)) marks from (λ c. missing ∙ c) g;
      taken_final = tt;
    }

pub none_missing-less : (fifo : Bool) (r s : ReceiverState) (front : Character) → r.queue ≡ front ∷ s.queue →
    s.is_unscheduled_lost ≡ r.is_unscheduled_lost →
    NoneMissing fifo r → NoneMissing fifo s
none_missing-less true r s front i e c = e ∙ c
none_missing-less false r s front i e c = let all = rw i at c.1 in (e ∙ c.0, all.1)

-- a looped character that was taken was the only one, if there is no queue
pub none_missing-taken : (fifo : Bool) (r s : ReceiverState) (front : Character) → r.queue ≡ front ∷ s.queue →
    length r.queue ≤ room fifo r.size → s.is_unscheduled_lost ≡ false → NoneMissing fifo s
none_missing-taken true r s front i h e = e
none_missing-taken false r s front i h e = (e, only s.queue (let n = rw i at h in omega (arith, n)))
  where
    only : (characters : List Character) → length characters ≤ 0 → NoneLooped characters
    only [] h = tt
    only (x ∷ xs) h = absurd (omega arith)

-- the front is taken
pub moved_taken : (fifo : Bool) (r s : ReceiverState) (front : Character) (o : Origin) → IsMarked fifo r → front.origin ≡ o →
    r.queue ≡ front ∷ s.queue →
    s.marks ≡ set_mark o Read r.marks → s.is_unscheduled_lost ≡ r.is_unscheduled_lost → Moved fifo r s [] (front ∷ [])
moved_taken fifo r s front (Arrived k) w o i marks missing =
    let wait = rw i at w.wait in
    let here = rw o at wait.0 in
    let distinct = rw i at w.distinct in
    let others = rw o at distinct.0 in
    let within : k < length r.marks = omega (arith, here.0, w.counted) in
    let rest : AllInQueue r.arrived (slice_set r.marks k Read) r.is_unscheduled_lost s.queue =
    all_in_queue-set r.arrived r.marks r.is_unscheduled_lost k Read s.queue others wait.1 in
    let stay_rest : filter (stands s) s.queue ≡ s.queue = filter-waits s r.arrived s.queue (rw (marks, missing) rest) in
    let in_front : stands s front ≡ true = rw (o, marks, get_or-set_same r.marks k Read Pending within) refl in
    let whole : filter (stands s) (front ∷ s.queue) ≡ front ∷ s.queue = rw in_front (ap (λ xs. front ∷ xs) stay_rest) in
    record {
      stay = rw (i, append-nil s.queue) whole;
      falls = falls-mark r s k Read (ap is_dropped here.1) marks missing;
      final = λ from g. final_taken from g (rw marks (get_or-set_same r.marks k Read Pending within));
      taken_final = (rw (o, marks) (get_or-set_same r.marks k Read Pending within), tt);
    }
  where
    final_taken : (from : Origin) → IsFinal fifo r from → mark_at s.marks k ≡ Read → IsFinal fifo s from
    final_taken (Arrived j) g h = go (nat_eq j k) refl
      where
        go : (b : Bool) → nat_eq j k ≡ b → mark_at s.marks j ≡ Read
        go true e = let same : j ≡ k = grind arith in rw same h
        go false e = let other : j ≢ k = grind arith in rw (marks, get_or-set_other r.marks k j Read Pending other) g
    final_taken _ g h = none_missing-less fifo r s front i missing g
moved_taken fifo r s front _ w o i marks missing =
    let wait = rw i at w.wait in
    let here = rw o at wait.0 in
    let rest : filter (stands s) s.queue ≡ s.queue = filter-waits s r.arrived s.queue (rw (marks, missing) wait.1) in
    let lost : s.is_unscheduled_lost ≡ false = missing ∙ here in
    let in_front : stands s front ≡ true = rw (o, lost) refl in
    let whole : filter (stands s) (front ∷ s.queue) ≡ front ∷ s.queue = rw in_front (ap (λ xs. front ∷ xs) rest) in
    record {
      stay = rw (i, append-nil s.queue) whole;
      falls = λ from g. same_stands from g;
      final = λ from g. same_final from g;
      taken_final = (rw o (none_missing-taken fifo r s front i w.in_room lost), tt);
    }
  where
    same_stands : (from : Origin) → origin_stands s.marks s.is_unscheduled_lost from ≡ true →
        origin_stands r.marks r.is_unscheduled_lost from ≡ true
    same_stands (Arrived j) g = rw marks at g
    same_stands _ g = rw missing at g

    same_final : (from : Origin) → IsFinal fifo r from → IsFinal fifo s from
    same_final (Arrived j) g = rw marks g
    same_final _ g = none_missing-less fifo r s front i missing g

-- the step of a character that takes the place of the one that waits
pub moved_replaced : (r s : ReceiverState) (old new : Character) (o : Origin) → IsMarked false r → new.origin ≡ Arrived r.arrived →
    r.arrived < length r.marks →
    old.origin ≡ o → r.queue ≡ old ∷ [] → s.queue ≡ new ∷ [] → s.marks ≡ slice_set (set_mark o Dropped r.marks) r.arrived Waiting →
    s.is_unscheduled_lost ≡ (if is_unscheduled o then true else r.is_unscheduled_lost) → Moved false r s (new ∷ []) []
moved_replaced r s old new (Arrived k) w n within o i j marks missing =
    let wait = rw (i, o) at w.wait in
    let below : k < r.arrived = wait.0.0 in
    let waiting : mark_at r.marks k ≡ Waiting = wait.0.1 in
    let pending : mark_at r.marks r.arrived ≡ Pending = w.to_come r.arrived (omega arith) in
    let first = slice_set r.marks k Dropped in
    let later : r.arrived ≢ k = omega arith in
    let pending1 : mark_at first r.arrived ≡ Pending = get_or-set_other r.marks k r.arrived Dropped Pending later ∙ pending in
    let sooner : k ≢ r.arrived = omega arith in
    let in_marks : k < length r.marks = omega arith in
    let dropped : mark_at s.marks k ≡ Dropped =
    rw marks (get_or-set_other first r.arrived k Waiting Pending sooner ∙ get_or-set_same r.marks k Dropped Pending in_marks) in
    let within1 : r.arrived < length first = rw length-set within in
    let comes : mark_at s.marks r.arrived ≡ Waiting = rw marks (get_or-set_same first r.arrived Waiting Pending within1) in
    let out : stands s old ≡ false = rw (o, dropped) refl in
    let stays : stands s new ≡ true = rw (n, comes) refl in
    record {
      stay = rw (i, j, out, stays) refl;
      falls = λ from g. falls_both from g pending1 waiting;
      final = λ from g. final_both from g pending1 waiting;
      taken_final = tt;
    }
  where
    falls_both : (from : Origin) → origin_stands s.marks s.is_unscheduled_lost from ≡ true →
        mark_at (slice_set r.marks k Dropped) r.arrived ≡ Pending →
        mark_at r.marks k ≡ Waiting → origin_stands r.marks r.is_unscheduled_lost from ≡ true
    falls_both (Arrived q) g p h =
        falls-set r.marks k Dropped q (ap is_dropped h)
        (falls-set (slice_set r.marks k Dropped) r.arrived Waiting q (ap is_dropped p) (rw marks at g))
    falls_both _ g p h = rw missing at g

    final_both : (from : Origin) → IsFinal false r from → mark_at (slice_set r.marks k Dropped) r.arrived ≡ Pending →
        mark_at r.marks k ≡ Waiting → IsFinal false s from
    final_both (Arrived q) g p h =
        rw marks
        (read-set (slice_set r.marks k Dropped) r.arrived Waiting q (λ e. absurd (cc))
        (read-set r.marks k Dropped q (λ e. absurd (cc)) g))
    final_both _ g p h = (missing ∙ g.0, rw j (rw n refl, tt))
moved_replaced r s old new _ w n within o i j marks missing =
    let pending : mark_at r.marks r.arrived ≡ Pending = w.to_come r.arrived (omega arith) in
    let comes : mark_at s.marks r.arrived ≡ Waiting = rw marks (get_or-set_same r.marks r.arrived Waiting Pending within) in
    let out : stands s old ≡ false = rw (o, missing) refl in
    let stays : stands s new ≡ true = rw (n, comes) refl in
    record {
      stay = rw (i, j, out, stays) refl;
      falls = λ from g. falls_one from g pending;
      final = λ from g. final_one from g pending;
      taken_final = tt;
    }
  where
    falls_one : (from : Origin) → origin_stands s.marks s.is_unscheduled_lost from ≡ true → mark_at r.marks r.arrived ≡ Pending →
        origin_stands r.marks r.is_unscheduled_lost from ≡ true
    falls_one (Arrived q) g p = falls-set r.marks r.arrived Waiting q (ap is_dropped p) (rw marks at g)
    falls_one _ g p = let h : not true ≡ true = rw missing at g in absurd (cc)

    final_one : (from : Origin) → IsFinal false r from → mark_at r.marks r.arrived ≡ Pending → IsFinal false s from
    final_one (Arrived q) g p = rw marks (read-set r.marks r.arrived Waiting q (λ e. absurd (cc)) g)
    final_one _ g p = let none = rw (i, o) at g.1 in let h : true ≡ false = none.0 in absurd (cc)
