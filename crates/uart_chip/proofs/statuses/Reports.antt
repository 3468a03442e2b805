-- What a part of a session reports about line errors: those of each character that is taken were shown by a read of LSR, or before.
use Rattle.std.proofs.Common.{◌≡◌, ℕ, ◌+◌, ◌<◌, min, max, Bool, true, false, ◌==◌, ◌⊎◌, inl, inr, nat_lt, List, [], ◌∷◌, ◌++◌, length}
use Rattle.std.proofs.Common.{Option, Some, refl, arith, sym, ◌∙◌, ap, subst, if◌then◌else◌, bit_and, bit_or}
use Rattle.std.proofs.lemmas.Grind.{common_steps}
use Rattle.std.proofs.lemmas.Nat.{and_assoc, or_comm}
use Rattle.std.proofs.lemmas.Nat.Bits.{same_from_bits, bit_at_or, bit_at_and}
use Rattle.std.specs.Int.{bit_at}
use Rattle.std.specs.Int.Bits.{and_self}
use lib.Bits.{or_zero_r}
use Rattle.uart_spec.specs.declared.registers.line_status.TheConstants.LSR
use Rattle.uart_chip.specs.declared.receiver.Character.{Character}
use Rattle.uart_chip.specs.declared.receiver.Origin.TheVariants.{Arrived}
use Rattle.uart_spec.specs.Bits.{IsWithin}
use Rattle.uart_chip.specs.Transmitter.{room}
use Rattle.uart_chip.specs.Receiver.{ReceiverState, front_errors, arrive, replace, report, take_front}
use Rattle.uart_chip.specs.Chip.{ChipState, line_status}
use Rattle.uart_chip.specs.Sound.{AllErrorsLegal}
use Rattle.uart_chip.proofs.Bits.{or_assoc}
use Rattle.uart_chip.proofs.conservation.Receives.{Shows, shows_first, shows_second}

-- ---- bits of one mask in another

pub within-left : (e a b : ℕ) → IsWithin e a → IsWithin e (bit_or a b)
within-left e a b p = same_from_bits _ _ (λ i. at i)
  where
    at : (i : ℕ) → bit_at (bit_and e (bit_or a b)) i ≡ bit_at e i
    at i =
        let x : min (bit_at e i) (bit_at a i) ≡ bit_at e i = sym (bit_at_and e a i) ∙ ap (λ n. bit_at n i) p in
        bit_at_and e (bit_or a b) i ∙ (ap (min (bit_at e i)) (bit_at_or a b i) ∙ joined (bit_at e i) (bit_at a i) (bit_at b i) x)
      where
        joined : (x y z : ℕ) → min x y ≡ x → min x (max y z) ≡ x
        joined x y z p = omega arith

pub within-right : (e a b : ℕ) → IsWithin e b → IsWithin e (bit_or a b)
within-right e a b p = subst (λ (m : ℕ). IsWithin e m) (or_comm b a) (within-left e b a p)

pub within-both : (e a b : ℕ) → IsWithin e a → IsWithin e b → IsWithin e (bit_and a b)
within-both e a b p q = sym (and_assoc b e a) ∙ (ap (λ v. bit_and v b) p ∙ q)

-- ---- what was reported of a character

-- its errors were shown, or it had been reported
abbrev pub Told : Option Character → ℕ → Character → Type 0
Told old seen f = (old ≡ Some f) ⊎ IsWithin f.errors seen

-- the front was reported, if its flag says so
pub record FrontTold (old : Option Character) (seen : ℕ) (r : ReceiverState) : Type 0 where
  pub told : (f : Character) (others : List Character) → r.is_front_reported ≡ true → r.queue ≡ f ∷ others → Told old seen f

-- each that was taken was reported, or without FIFO an overrun is shown instead
abbrev pub TakenTold : Bool → Option Character → ℕ → ReceiverState → List Character → Type 0
TakenTold fifo old seen s [] = Unit {0}
TakenTold fifo old seen s (f ∷ fs) = (Told old seen f ⊎ ((fifo ≡ false) × Shows seen s)) × TakenTold fifo old seen s fs

-- a character waits in front whose errors were shown, or without FIFO the overrun flag is pending
pub record IsReported (fifo : Bool) (r : ReceiverState) : Type 0 where
  pub some : 0 < length r.queue
  pub reported : (r.is_front_reported ≡ true) ⊎ ((fifo ≡ false) × (r.is_overrun ≡ true))

-- from r to s these were taken, and the line status showed these bits
pub record Reports (fifo : Bool) (r s : ReceiverState) (takes : List Character) (seen : ℕ) : Type 0 where
  pub still : takes ≡ [] → IsReported fifo r → IsReported fifo s
  pub front : (old : Option Character) (before : ℕ) → FrontTold old before r → FrontTold old (bit_or before seen) s
  pub taken : (old : Option Character) (before : ℕ) → FrontTold old before r → TakenTold fifo old (bit_or before seen) s takes

told-more : (old : Option Character) (a b : ℕ) (f : Character) → Told old a f → Told old (bit_or a b) f
told-more old a b f (inl e) = inl e
told-more old a b f (inr e) = inr (within-left f.errors a b e)

taken_told-more : (fifo : Bool) (old : Option Character) (a b : ℕ) (s t : ReceiverState) → (s.is_overrun ≡ true → Shows b t) →
    (fs : List Character) →
    TakenTold fifo old a s fs → TakenTold fifo old (bit_or a b) t fs
taken_told-more fifo old a b s t h [] k = tt
taken_told-more fifo old a b s t h (f ∷ fs) k = (one k.0, taken_told-more fifo old a b s t h fs k.1)
  where
    shown : Shows a s → Shows (bit_or a b) t
    shown (inl e) = shows_first a b t e
    shown (inr e) = shows_second a b t (h e)

    one : Told old a f ⊎ ((fifo ≡ false) × Shows a s) → Told old (bit_or a b) f ⊎ ((fifo ≡ false) × Shows (bit_or a b) t)
    one (inl e) = inl (told-more old a b f e)
    one (inr e) = inr (e.0, shown e.1)

taken_told-append : (fifo : Bool) (old : Option Character) (seen : ℕ) (s : ReceiverState) (fs gs : List Character) →
    TakenTold fifo old seen s fs → TakenTold fifo old seen s gs →
    TakenTold fifo old seen s (fs ++ gs)
taken_told-append fifo old seen s [] gs h k = k
taken_told-append fifo old seen s (f ∷ fs) gs h k = (h.0, taken_told-append fifo old seen s fs gs h.1 k)

-- the overrun flag at s is shown from there on
pub reports-trans : (fifo : Bool) (r s t : ReceiverState) (xs ys : List Character) (a b : ℕ) → (s.is_overrun ≡ true → Shows b t) →
    Reports fifo r s xs a → Reports fifo s t ys b →
    Reports fifo r t (xs ++ ys) (bit_or a b)
reports-trans fifo r s t xs ys a b later p q = record {
  still = λ e h. q.still (second xs e) (p.still (first xs e) h);
  front = λ old before h. rw (← or_assoc before a b) (q.front old (bit_or before a) (p.front old before h));
  taken = λ old before h. rw (← or_assoc before a b) (taken_told-append fifo old (bit_or (bit_or before a) b) t xs ys
      (taken_told-more fifo old (bit_or before a) b s t later xs (p.taken old before h))
      (q.taken old (bit_or before a) (p.front old before h)));
}
  where
    first : (xs : List Character) → xs ++ ys ≡ [] → xs ≡ []
    first [] e = refl
    first (x ∷ xs) e = absurd (cc)

    second : (xs : List Character) → xs ++ ys ≡ [] → ys ≡ []
    second [] e = e
    second (x ∷ xs) e = absurd (cc)

-- ---- nothing is taken or shown

-- a front that is reported afterwards was the front and reported before
pub reports-from : (fifo : Bool) (r s : ReceiverState) → (IsReported fifo r → IsReported fifo s) →
    ((f : Character) (others : List Character) → s.is_front_reported ≡ true → s.queue ≡ f ∷ others →
    (r.is_front_reported ≡ true) × ((rest : List Character) × (r.queue ≡ f ∷ rest))) →
    Reports fifo r s [] 0
reports-from fifo r s still back = record {
  still = λ e h. still h;
  front = λ old before h. rw (or_zero_r before) (record { told = λ f others e i. let b = back f others e i in h.told f b.1.0 b.0 b.1.1 });
  taken = λ old before h. tt;
}

pub reports-same : (fifo : Bool) (r s : ReceiverState) → s.queue ≡ r.queue → s.is_front_reported ≡ r.is_front_reported →
    s.is_overrun ≡ r.is_overrun → Reports fifo r s [] 0
reports-same fifo r s i p o =
    reports-from fifo r s (λ h. record { some = rw i h.some; reported = rw (p, o) h.reported })
    (λ f others e j. (sym p ∙ e, (others, sym i ∙ j)))

pub reports-refl : (fifo : Bool) (r : ReceiverState) → Reports fifo r r [] 0
reports-refl fifo r = reports-same fifo r r refl refl refl

-- ---- an arrival

some_first : (x : Character) (xs : List Character) → (length (x ∷ xs) == 0) ≡ false
some_first x xs = grind (arith, common_steps)

reports-room : (fifo : Bool) (r s : ReceiverState) (new : Character) → s.queue ≡ r.queue ++ new ∷ [] →
    s.is_front_reported ≡ (if length r.queue == 0 then false else r.is_front_reported) → s.is_overrun ≡ r.is_overrun → Reports fifo r s [] 0
reports-room fifo r s new i p o = reports-from fifo r s (λ h. still r.queue refl h) (λ f others e j. back r.queue refl f others e j)
  where
    still : (queue : List Character) → r.queue ≡ queue → IsReported fifo r → IsReported fifo s
    still [] q h = let none : 0 < 0 = rw q at h.some in absurd (omega arith)
    still (front ∷ rest) q h =
        let same : s.is_front_reported ≡ r.is_front_reported = p ∙ rw (q, some_first front rest) refl in
        record { some = rw (i, q) (omega arith); reported = rw (same, o) h.reported }

    back : (queue : List Character) → r.queue ≡ queue → (f : Character) (others : List Character) → s.is_front_reported ≡ true →
        s.queue ≡ f ∷ others →
        (r.is_front_reported ≡ true) × ((rest : List Character) × (r.queue ≡ f ∷ rest))
    back [] q f others e j = let x : false ≡ true = rw q at (sym p ∙ e) in absurd (cc)
    back (front ∷ rest) q f others e j =
        let x : r.is_front_reported ≡ true = rw (q, some_first front rest) at (sym p ∙ e) in
        let y : front ∷ (rest ++ new ∷ []) ≡ f ∷ others = rw q at (sym i ∙ j) in
        let z : front ≡ f = cc in
        (x, (rest, q ∙ ap (λ v. v ∷ rest) z))

reports-full : (r s : ReceiverState) → s.queue ≡ r.queue → s.is_front_reported ≡ r.is_front_reported → Reports true r s [] 0
reports-full r s i p =
    reports-from true r s (λ h. record { some = rw i h.some; reported = kept h.reported })
    (λ f others e j. (sym p ∙ e, (others, sym i ∙ j)))
  where
    kept : (r.is_front_reported ≡ true) ⊎ ((true ≡ false) × (r.is_overrun ≡ true)) →
        (s.is_front_reported ≡ true) ⊎ ((true ≡ false) × (s.is_overrun ≡ true))
    kept (inl e) = inl (p ∙ e)
    kept (inr e) = absurd (cc (e.0))

reports-replaced : (r s : ReceiverState) (new : Character) → s.queue ≡ new ∷ [] → s.is_front_reported ≡ false → s.is_overrun ≡ true →
    Reports false r s [] 0
reports-replaced r s new i p o =
    reports-from false r s (λ h. record { some = rw i (omega arith); reported = inr (refl, o) }) (λ f others e j. absurd (cc))

pub reports-arrive : (fifo : Bool) (r : ReceiverState) (byte errors : ℕ) → Reports fifo r (arrive false fifo byte errors r) [] 0
reports-arrive fifo r byte errors = go (nat_lt (length r.queue) (room fifo r.size)) refl
  where
    full : (on : Bool) → fifo ≡ on → nat_lt (length r.queue) (room fifo r.size) ≡ false →
        Reports fifo r (arrive false fifo byte errors r) [] 0
    full true q e = rw (e, q) (reports-full r _ refl refl)
    full false q e = rw (e, q) (swap r.queue refl (rw q at e))
      where
        swap : (queue : List Character) → r.queue ≡ queue → nat_lt (length r.queue) 1 ≡ false →
            Reports false r
            (replace r.queue (record { byte = byte; errors = errors; origin = Arrived r.arrived })
            (record r { arrived = r.arrived + 1 })) [] 0
        swap [] i e = let h : nat_lt 0 1 ≡ false = rw i at e in absurd (cc)
        swap (old ∷ others) i e =
            let later : ReceiverState = record r { arrived = r.arrived + 1 } in
            let came : Character = record { byte = byte; errors = errors; origin = Arrived r.arrived } in
            let f : replace r.queue came later ≡ replace (old ∷ others) came later =
            ap (λ (xs : List Character). replace xs came later) i in
            rw f (reports-replaced r (replace (old ∷ others) came later) came refl refl refl)

    go : (b : Bool) → nat_lt (length r.queue) (room fifo r.size) ≡ b → Reports fifo r (arrive false fifo byte errors r) [] 0
    go true e = rw e (reports-room fifo r _ (record { byte = byte; errors = errors; origin = Arrived r.arrived }) refl refl refl)
    go false e = full fifo refl e

-- ---- a look

-- what waits is reported
pub report_reported : (fifo : Bool) (r : ReceiverState) → 0 < length r.queue → IsReported fifo (report r)
report_reported fifo r some = go r.queue refl
  where
    go : (queue : List Character) → r.queue ≡ queue → IsReported fifo (report r)
    go [] e = let none : 0 < 0 = rw e at some in absurd (omega arith)
    go (x ∷ xs) e = record { some = some; reported = inl (rw (e, some_first x xs) refl) }

-- the line status holds the errors of the front, if they were not reported
status_errors : (c : ChipState) → IsWithin (front_errors c.receiver.queue c.receiver.is_front_reported) (line_status c)
status_errors c =
    let e = front_errors c.receiver.queue c.receiver.is_front_reported in
    within-left e _ _ (within-right e _ _ (within-left e e _ (and_self e)))

pub reports-look : (fifo : Bool) (c : ChipState) (line : ℕ) → AllErrorsLegal c.receiver.queue → line ≡ line_status c →
    Reports fifo c.receiver (report c.receiver) [] (bit_or (bit_and line LSR.LINE_ERRORS.0) 0)
reports-look fifo c line legal l = record {
  still = λ e h. report_reported fifo c.receiver h.some;
  front = λ old before h. record { told = λ f others e i. go c.receiver.is_front_reported refl old before h f others i };
  taken = λ old before h. tt;
}
  where
    go : (b : Bool) → c.receiver.is_front_reported ≡ b → (old : Option Character) (before : ℕ) → FrontTold old before c.receiver →
        (f : Character) (others : List Character) →
        c.receiver.queue ≡ f ∷ others → Told old (bit_or before (bit_or (bit_and line LSR.LINE_ERRORS.0) 0)) f
    go true q old before h f others i = told-more old before (bit_or (bit_and line LSR.LINE_ERRORS.0) 0) f (h.told f others q i)
    go false q old before h f others i =
        let legals : AllErrorsLegal (f ∷ others) = rw i at legal in
        let few : IsWithin f.errors 28 = legals.0 in
        let shown : front_errors c.receiver.queue c.receiver.is_front_reported ≡ f.errors = rw (q, i) few in
        let held : IsWithin f.errors line = rw l (subst (λ e. IsWithin e (line_status c)) shown (status_errors c)) in
        let saved : IsWithin f.errors LSR.LINE_ERRORS.0 = within-left f.errors LSR.CHARACTER_ERRORS.0 LSR.OVERRUN_ERROR.0 few in
        let all : IsWithin f.errors (bit_and line LSR.LINE_ERRORS.0) = within-both f.errors line LSR.LINE_ERRORS.0 held saved in
        inr (within-right f.errors before (bit_or (bit_and line LSR.LINE_ERRORS.0) 0)
        (within-left f.errors (bit_and line LSR.LINE_ERRORS.0) 0 all))

-- ---- the front is taken

pub reports-front : (fifo : Bool) (r : ReceiverState) (front : Character) (others : List Character) → IsReported fifo r →
    r.queue ≡ front ∷ others →
    Reports fifo r (take_front (front ∷ others) r) (front ∷ []) 0
reports-front fifo r front others w i = record {
  still = λ e h. absurd (cc);
  front = λ old before h. record { told = λ f rest e j. absurd (cc) };
  taken = λ old before h. (rw (or_zero_r before) (one old before h w.reported), tt);
}
  where
    one : (old : Option Character) (before : ℕ) → FrontTold old before r →
        (r.is_front_reported ≡ true) ⊎ ((fifo ≡ false) × (r.is_overrun ≡ true)) →
        Told old before front ⊎ ((fifo ≡ false) × Shows before (take_front (front ∷ others) r))
    one old before h (inl e) = inl (h.told front others e i)
    one old before h (inr e) = inr (e.0, inr e.1)
