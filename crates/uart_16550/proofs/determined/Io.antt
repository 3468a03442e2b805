-- Slots that are filled, and the calls of readers and writers, are determined.
use Rattle.std.proofs.Common.{◌≡◌, ◌<◌, ◌≤◌, ℕ, Bool, true, false, List, [], ◌∷◌, ◌++◌, refl, sym, ◌∙◌, ap, arith, inl, inr, ◌⊎◌, Result}
use Rattle.std.proofs.Common.{Ok, Err, Some, None, length, take, drop, unwrap_or}
use Rattle.std.proofs.lemmas.List.{length-take-le, take-append-drop, nil_from_length}
use Rattle.uart_spec.specs.declared.errors.StalledError.{StalledError}
use Rattle.uart_spec.specs.declared.registers.offsets.TheConstants as offsets
use Rattle.uart_spec.specs.declared.registers.line_status.TheConstants.LSR
use Rattle.uart_spec.specs.declared.access.Access.{Access}
use Rattle.uart_16550.specs.Choice.{ReceivesInto, ReceivesWithErrorsInto, ReceivesExactInto, ReceivesWhileInto, AsAnswered, ReadsInto}
use Rattle.uart_spec.specs.declared.received.Received.{Received}
use Rattle.uart_16550.specs.Grammar.{Settings, Then, InOrder}
use Rattle.uart_16550.specs.Receive.{Hit, Miss, Receives, ReceivesSome}
use Rattle.uart_16550.specs.Patience.{items_of}
use Rattle.uart_16550.specs.declared.patience.WaitError.{WaitError}
use Rattle.uart_16550.specs.Io.{Reads, Writes, Flushes, AnswersRead, AnswersWrite}
use Rattle.uart_16550.proofs.determined.Parting.{SameOrPart, Determined, so, determined_so, determined_sym, determined_front}
use Rattle.uart_16550.proofs.determined.Parting.{determined_among, determined_either, asks_determined}
use Rattle.uart_16550.proofs.determined.Repeated.{Misses, waits_end, wait_ends, alike_any, told}
use Rattle.uart_16550.proofs.determined.Receive.{receives_determined, receives_exact_determined, miss_same, miss_hit, vain_same, stalled}
use Rattle.uart_16550.proofs.determined.Receive.{ok_same, receives_with_determined, misses, hits_determined}
use Rattle.uart_16550.proofs.determined.Waiting.{Waits, each_all, each_more, each_short, ended, one_stream}
use Rattle.uart_16550.proofs.determined.Transmit.{waits_determined, sends_some_determined, hit_same, refusal_same, refusal_hit}

-- slots with the same front, and the rest as it was
slots_same : {A : Type 0} (a b : ℕ) (xs ys old : List A) → a ≡ b → take a xs ≡ take b ys → drop a xs ≡ drop a old →
    drop b ys ≡ drop b old → xs ≡ ys
slots_same {A} a b xs ys old same front p q =
    sym (take-append-drop a xs) ∙ ap (λ zs. zs ++ drop a xs) front
    ∙ ap (λ zs. take b ys ++ zs) (p ∙ ap (λ (n : ℕ). drop n old) same ∙ sym q) ∙ take-append-drop b ys

counts_same : {A : Type 0} (a b : ℕ) (xs ys : List A) → a ≤ length xs → b ≤ length ys → take a xs ≡ take b ys → a ≡ b
counts_same a b xs ys p q same = sym (length-take-le a xs p) ∙ ap length same ∙ length-take-le b ys q

pub receives_into_determined : (s : Settings) (old : List ℕ) (x y : ℕ × List ℕ) →
    Determined (x ≡ y) (ReceivesInto old x.1 x.0 s) (ReceivesInto old y.1 y.0 s)
receives_into_determined s old x y = record {
  at = λ l m p q.
      so
      (λ r.
      let within : x.0 ≤ length x.1 = omega (arith, p.0, p.1) in
      let within' : y.0 ≤ length y.1 = omega (arith, q.0, q.1) in
      let count = counts_same x.0 y.0 x.1 y.1 within within' r in
      let slots = slots_same x.0 y.0 x.1 y.1 old count r p.2 q.2 in
      λ i. (count i, slots i))
      ((receives_determined s (length old) (take x.0 x.1) (take y.0 y.1)).at l m p.3 q.3);
}

pub receives_with_into_determined : (s : Settings) (old : List Received) (x y : ℕ × List Received) →
    Determined (x ≡ y) (ReceivesWithErrorsInto old x.1 x.0 s) (ReceivesWithErrorsInto old y.1 y.0 s)
receives_with_into_determined s old x y = record {
  at = λ l m p q.
      so
      (λ r.
      let within : x.0 ≤ length x.1 = omega (arith, p.0, p.1) in
      let within' : y.0 ≤ length y.1 = omega (arith, q.0, q.1) in
      let count = counts_same x.0 y.0 x.1 y.1 within within' r in
      let slots = slots_same x.0 y.0 x.1 y.1 old count r p.2 q.2 in
      λ i. (count i, slots i))
      ((receives_with_determined s (length old) (take x.0 x.1) (take y.0 y.1)).at l m p.3 q.3);
}

exact_into : (s : Settings) (old new new' : List ℕ) (a b : Result (Unit {0}) StalledError) →
    Determined ((a ≡ b) × (new ≡ new')) (ReceivesExactInto old new a s) (ReceivesExactInto old new' b s)
exact_into s old new new' (Ok x) (Ok y) = record {
  at = λ l m p q. so (λ r. (refl, r.0)) ((receives_exact_determined s (length old) new new' (Ok x) (Ok y)).at l m p.2 q.2);
}
exact_into s old new new' (Ok x) (Err d) = record {
  at = λ l m p q.
      so (λ r. absurd (omega (arith, p.2.0, q.2.0, ap length r.0)))
      ((receives_exact_determined s (length old) new (take d.done new') (Ok x) (Err d)).at l m p.2 q.2);
}
exact_into s old new new' (Err d) (Ok y) = record {
  at = λ l m p q.
      so (λ r. absurd (omega (arith, p.2.0, q.2.0, ap length r.0)))
      ((receives_exact_determined s (length old) (take d.done new) new' (Err d) (Ok y)).at l m p.2 q.2);
}
exact_into s old new new' (Err d) (Err f) = record {
  at = λ l m p q.
      so
      (λ r.
      let count : d.done ≡ f.done = p.2.1 ∙ ap length r.0 ∙ sym q.2.1 in
      (stalled d f count, slots_same d.done f.done new new' old count r.0 p.1 q.1))
      ((receives_exact_determined s (length old) (take d.done new) (take f.done new') (Err d) (Err f)).at l m p.2 q.2);
}

pub exact_into_determined : (s : Settings) (old : List ℕ) (x y : Result (Unit {0}) StalledError × List ℕ) →
    Determined (x ≡ y) (ReceivesExactInto old x.1 x.0 s) (ReceivesExactInto old y.1 y.0 s)
exact_into_determined s old x y = determined_so (λ r i. (r.0 i, r.1 i)) (exact_into s old x.1 y.1 x.0 y.0)

-- bytes that are awaited as long as the caller wants
arrivals : (s : Settings) → Waits s Miss Hit (λ x y. Unit {0})
arrivals s = record { miss = misses s; vain = miss_same s; items = told Hit (hits_determined s) }

while_apart : (s : Settings) (old new new' : List ℕ) (stream : List Bool) (d : WaitError) →
    Determined ⊥ (AsAnswered stream (λ said. ReceivesWhileInto {T = Unit {0}} old new said (Err d)) s)
    (AsAnswered stream (λ said. ReceivesWhileInto {T = Unit {0}} old new' said (Ok tt)) s)
while_apart s old new new' stream d = record {
  at = λ l m p q.
      let a = p.3.2 in
      let b = q.3.2 in
      (each_more s Miss Hit (arrivals s) a.0 b.0 a.1 p.1 q.1 d.ended_by (alike_any (items_of a.0) (items_of b.0))
      (omega (arith, ap length a.2, ap length b.1, a.3, b.2)) (one_stream p.1 q.1 p.2 q.2 a.5 b.3)).at l m a.6 b.4;
}

while_into : (s : Settings) (old new new' : List ℕ) (stream : List Bool) (a b : Result (Unit {0}) WaitError) →
    Determined ((a ≡ b) × (new ≡ new')) (AsAnswered stream (λ said. ReceivesWhileInto old new said a) s)
    (AsAnswered stream (λ said. ReceivesWhileInto old new' said b) s)
while_into s old new new' stream (Ok x) (Ok y) = record {
  at = λ l m p q.
      let a = p.3.2 in
      let b = q.3.2 in
      so (λ r. (refl, a.1 ∙ r ∙ sym b.1))
      ((each_all s Miss Hit (arrivals s) a.0 b.0 (alike_any (items_of a.0) (items_of b.0))
      (omega (arith, ap length a.1, ap length b.1, a.2, b.2))).at l m a.4 b.4);
}
while_into s old new new' stream (Ok x) (Err d) = determined_sym (while_apart s old new' new stream d)
while_into s old new new' stream (Err d) (Ok y) = determined_so absurd (while_apart s old new new' stream d)
while_into s old new new' stream (Err d) (Err f) = record {
  at = λ l m p q.
      let a = p.3.2 in
      let b = q.3.2 in
      so
      (λ r.
      let bytes : take d.done new ≡ take f.done new' = a.2 ∙ r.0 ∙ sym b.2 in
      let count : d.done ≡ f.done = a.4 ∙ ap length bytes ∙ sym b.4 in
      (ended d f count r.1, slots_same d.done f.done new new' old count bytes p.3.1 q.3.1))
      ((each_short s Miss Hit (arrivals s) a.0 b.0 a.1 b.1 p.1 q.1 d.ended_by f.ended_by (alike_any (items_of a.0) (items_of b.0))
      (one_stream p.1 q.1 p.2 q.2 a.5 b.5)).at l m a.6 b.6);
}

pub receives_while_determined : (s : Settings) (old : List ℕ) (stream : List Bool) (x y : Result (Unit {0}) WaitError × List ℕ) →
    Determined (x ≡ y) (AsAnswered stream (λ said. ReceivesWhileInto old x.1 said x.0) s)
    (AsAnswered stream (λ said. ReceivesWhileInto old y.1 said y.0) s)
receives_while_determined s old stream x y = determined_so (λ r i. (r.0 i, r.1 i)) (while_into s old x.1 y.1 stream x.0 y.0)

-- a miss, if some bytes are received
miss_receives : (s : Settings) (n : ℕ) (xs : List ℕ) → 0 < length xs → Determined ⊥ (Miss s) (Receives n xs s)
miss_receives s n [] some = absurd (omega (arith, some))
miss_receives s n (x ∷ xs) some =
    let front : Determined ⊥ (InOrder Hit (x ∷ xs) s) (Miss s) = determined_front {P = Hit x} {Q = InOrder Hit xs}
    (determined_sym (miss_hit s x)) in
    let more : Determined ⊥ (Then (InOrder Hit (x ∷ xs)) Miss s) (Miss s) = determined_front {P = InOrder Hit (x ∷ xs)} front in
    determined_sym (determined_either {P = λ l. (length (x ∷ xs) ≡ n) × InOrder Hit (x ∷ xs) s l}
    {Q = λ l. (length (x ∷ xs) < n) × Then (InOrder Hit (x ∷ xs)) Miss s l}
    (determined_among {R = InOrder Hit (x ∷ xs) s} {S = Miss s} front (λ l t. t.1) (λ l t. t))
    (determined_among {R = Then (InOrder Hit (x ∷ xs)) Miss s} {S = Miss s} more (λ l t. t.1) (λ l t. t)))

-- a wait for bytes
some_of : (s : Settings) (n : ℕ) (xs : List ℕ) → 0 < length xs → Misses s Miss (Receives n xs)
some_of s n xs some = record { same = miss_same s; apart = miss_receives s n xs some }

some_determined : (s : Settings) (n : ℕ) (xs ys : List ℕ) → Determined (xs ≡ ys) (ReceivesSome n xs true s) (ReceivesSome n ys true s)
some_determined s n xs ys = record {
  at =
      λ l m p q. (waits_end s Miss (Receives n xs) (Receives n ys) (some_of s n xs p.0) (some_of s n ys q.0)
      (receives_determined s n xs ys)).at l m p.1 q.1;
}

some_none : (s : Settings) (n : ℕ) (xs ys : List ℕ) → Determined ⊥ (ReceivesSome n xs true s) (ReceivesSome n ys false s)
some_none s n xs ys = record { at = λ l m p q. (wait_ends s Miss (Receives n xs) (some_of s n xs p.0)).at l m p.1 q.1 }

-- one call of a reader
reads_apart : (s : Settings) (n : ℕ) (xs ys : List ℕ) (a : ℕ) (d : StalledError) → Determined ⊥ (Reads n xs (Ok a) s) (Reads n ys (Err d) s)
reads_apart s n xs ys a d = record { at = λ l m p q. at l m p.1 q.0 q.2 }
  where
    at : (l m : List Access) → ((n ≡ 0) × (a ≡ 0) × (l ≡ [])) ⊎ ((0 < n) × ReceivesSome n xs true s l) → 0 < n →
        ReceivesSome n ys false s m → SameOrPart ⊥ l m
    at l m (inl p) some q = absurd (omega (arith, p.0, some))
    at l m (inr p) some q = (some_none s n xs ys).at l m p.1 q

pub reads_determined : (s : Settings) (n : ℕ) (xs ys : List ℕ) (a b : Result ℕ StalledError) →
    Determined ((xs ≡ ys) × (a ≡ b)) (Reads n xs a s) (Reads n ys b s)
reads_determined s n xs ys (Ok a) (Ok b) = record { at = λ l m p q. at l m p.0 q.0 p.1 q.1 }
  where
    at : (l m : List Access) → length xs ≡ a → length ys ≡ b → ((n ≡ 0) × (a ≡ 0) × (l ≡ [])) ⊎ ((0 < n) × ReceivesSome n xs true s l) →
        ((n ≡ 0) × (b ≡ 0) × (m ≡ [])) ⊎ ((0 < n) × ReceivesSome n ys true s m) →
        SameOrPart ((xs ≡ ys) × (◌≡◌ {A = Result ℕ StalledError} (Ok a) (Ok b))) l m
    at l m x y (inl p) (inl q) =
        inl ((nil_from_length xs (x ∙ p.1) ∙ sym (nil_from_length ys (y ∙ q.1)), ok_same a b (p.1 ∙ sym q.1)), p.2 ∙ sym q.2)
    at l m x y (inl p) (inr q) = absurd (omega (arith, p.0, q.0))
    at l m x y (inr p) (inl q) = absurd (omega (arith, p.0, q.0))
    at l m x y (inr p) (inr q) = so (λ r. (r, ok_same a b (sym x ∙ ap length r ∙ y))) ((some_determined s n xs ys).at l m p.1 q.1)
reads_determined s n xs ys (Ok a) (Err d) = determined_so absurd (reads_apart s n xs ys a d)
reads_determined s n xs ys (Err d) (Ok b) = determined_sym (reads_apart s n ys xs b d)
reads_determined s n xs ys (Err d) (Err f) = record {
  at = λ l m p q.
      so (λ r. (nil_from_length xs p.2.0 ∙ sym (nil_from_length ys q.2.0), stalled d f (p.1 ∙ sym q.1))) ((vain_same s).at l m p.2.1 q.2.1);
}

reads_into : (s : Settings) (old new new' : List ℕ) (a b : Result ℕ StalledError) →
    Determined ((a ≡ b) × (new ≡ new')) (ReadsInto old new a s) (ReadsInto old new' b s)
reads_into s old new new' (Ok a) (Ok b) = record {
  at = λ l m p q.
      so
      (λ r.
      let within : a ≤ length new = omega (arith, p.0, p.1) in
      let within' : b ≤ length new' = omega (arith, q.0, q.1) in
      let count = counts_same a b new new' within within' r.0 in
      (r.1, slots_same a b new new' old count r.0 p.2 q.2))
      ((reads_determined s (length old) (take a new) (take b new') (Ok a) (Ok b)).at l m p.4 q.4);
}
reads_into s old new new' (Ok a) (Err d) = record {
  at = λ l m p q. so absurd ((reads_apart s (length old) (take a new) [] a d).at l m p.4 q.4);
}
reads_into s old new new' (Err d) (Ok b) = record {
  at = λ l m p q. (determined_sym (reads_apart s (length old) (take b new') [] b d)).at l m p.4 q.4;
}
reads_into s old new new' (Err d) (Err f) = record {
  at = λ l m p q. so (λ r. (r.1, p.3 ∙ sym q.3)) ((reads_determined s (length old) [] [] (Err d) (Err f)).at l m p.4 q.4);
}

pub reads_into_determined : (s : Settings) (old : List ℕ) (x y : Result ℕ StalledError × List ℕ) →
    Determined (x ≡ y) (ReadsInto old x.1 x.0 s) (ReadsInto old y.1 y.0 s)
reads_into_determined s old x y = determined_so (λ r i. (r.0 i, r.1 i)) (reads_into s old x.1 y.1 x.0 y.0)

-- one call of a writer
writes_apart : (s : Settings) (bytes : List ℕ) (a : ℕ) (d : StalledError) → Determined ⊥ (Writes bytes (Ok a) s) (Writes bytes (Err d) s)
writes_apart s bytes a d = record { at = at }
  where
    at : (l m : List Access) → Writes bytes (Ok a) s l → Writes bytes (Err d) s m → SameOrPart ⊥ l m
    at l m (inl p) q = absurd (omega (arith, p.0, q.0))
    at l m (inr p) q = so (λ same. cc) ((sends_some_determined s bytes (Some a) None).at l m p.1 q.2)

pub writes_determined : (s : Settings) (bytes : List ℕ) (a b : Result ℕ StalledError) →
    Determined (a ≡ b) (Writes bytes a s) (Writes bytes b s)
writes_determined s bytes (Ok a) (Ok b) = record { at = at }
  where
    at : (l m : List Access) → Writes bytes (Ok a) s l → Writes bytes (Ok b) s m →
        SameOrPart (◌≡◌ {A = Result ℕ StalledError} (Ok a) (Ok b)) l m
    at l m (inl p) (inl q) = inl (ok_same a b (p.1 ∙ sym q.1), p.2 ∙ sym q.2)
    at l m (inl p) (inr q) = absurd (omega (arith, p.0, q.0))
    at l m (inr p) (inl q) = absurd (omega (arith, p.0, q.0))
    at l m (inr p) (inr q) =
        so (λ r. ok_same a b (ap (λ o. unwrap_or o 0) r)) ((sends_some_determined s bytes (Some a) (Some b)).at l m p.1 q.1)
writes_determined s bytes (Ok a) (Err d) = determined_so absurd (writes_apart s bytes a d)
writes_determined s bytes (Err d) (Ok b) = determined_sym (writes_apart s bytes b d)
writes_determined s bytes (Err d) (Err f) = record {
  at = λ l m p q. so (λ r. stalled d f (p.1 ∙ sym q.1)) ((sends_some_determined s bytes None None).at l m p.2 q.2);
}

flushes_apart : (s : Settings) (d : StalledError) → Determined ⊥ (Flushes {T = Unit {0}} (Ok tt) s) (Flushes {T = Unit {0}} (Err d) s)
flushes_apart s d = record { at = λ l m p q. so (λ same. cc) ((waits_determined s LSR.TRANSMITTER_EMPTY.0 true false).at l m p q.1) }

pub flushes_determined : (s : Settings) (a b : Result (Unit {0}) StalledError) → Determined (a ≡ b) (Flushes a s) (Flushes b s)
flushes_determined s (Ok x) (Ok y) = determined_so (λ t. refl) (waits_determined s LSR.TRANSMITTER_EMPTY.0 true true)
flushes_determined s (Ok x) (Err d) = determined_so absurd (flushes_apart s d)
flushes_determined s (Err d) (Ok y) = determined_sym (flushes_apart s d)
flushes_determined s (Err d) (Err f) =
    record {
      at = λ l m p q. so (λ r. stalled d f (p.0 ∙ sym q.0)) ((waits_determined s LSR.TRANSMITTER_EMPTY.0 false false).at l m p.1 q.1);
    }

pub answers_read_determined : (s : Settings) (a b : Result Bool StalledError) → Determined (a ≡ b) (AnswersRead a s) (AnswersRead b s)
answers_read_determined s (Ok x) (Ok y) =
    determined_so (λ t. ap (λ (x : Bool). let r : Result Bool StalledError = Ok x in r) t)
    (asks_determined offsets.LSR LSR.DATA_READY.0 x y)
answers_read_determined s (Err d) b = record { at = λ l m p q. absurd p }
answers_read_determined s (Ok x) (Err f) = record { at = λ l m p q. absurd q }

pub answers_write_determined : (s : Settings) (a b : Result Bool StalledError) → Determined (a ≡ b) (AnswersWrite a s) (AnswersWrite b s)
answers_write_determined s (Ok true) (Ok true) = determined_so (λ t. refl) (hit_same s)
answers_write_determined s (Ok true) (Ok false) = determined_sym (refusal_hit s)
answers_write_determined s (Ok false) (Ok true) = determined_so absurd (refusal_hit s)
answers_write_determined s (Ok false) (Ok false) = determined_so (λ t. refl) (refusal_same s)
answers_write_determined s (Err d) b = record { at = λ l m p q. absurd p }
answers_write_determined s (Ok true) (Err f) = record { at = λ l m p q. absurd q }
answers_write_determined s (Ok false) (Err f) = record { at = λ l m p q. absurd q }
