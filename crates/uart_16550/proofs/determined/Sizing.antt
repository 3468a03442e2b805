-- How the size of the FIFOs is found, and how FIFOs of 64 are turned on, is determined.
use Rattle.std.proofs.Common.{◌≡◌, ◌⊎◌, ℕ, zero, suc, Bool, true, false, List, [], ◌∷◌, refl, sym, ◌∙◌, ap, subst, arith, inl, inr}
use Rattle.std.proofs.Common.{◌==◌, Result, Ok, Err, Option, Some, None, if◌then◌else◌, unwrap_or}
use Rattle.uart_spec.specs.FifoSize.{characters, IsLargestUpTo}
use Rattle.uart_spec.specs.declared.setup.FifoSize.{FifoSize}
use Rattle.uart_spec.specs.declared.setup.FifoSize.TheVariants.{Sixteen, ThirtyTwo, SixtyFour, OneHundredTwentyEight, TwoHundredFiftySix}
use Rattle.uart_spec.specs.declared.errors.FifoSizeError.{FifoSizeError}
use Rattle.uart_spec.specs.declared.errors.FifoSizeError.TheVariants.{FifosOff, TooFew, Stalled}
use Rattle.uart_spec.specs.declared.registers.fifo_trigger_level.FifoTriggerLevel.{FifoTriggerLevel}
use Rattle.uart_spec.specs.declared.registers.fifo_trigger_level.FifoTriggerLevel.TheVariants.{One}
use Rattle.uart_spec.specs.declared.registers.line_status.TheConstants.LSR
use Rattle.uart_spec.specs.declared.registers.offsets.TheConstants as offsets
use Rattle.uart_spec.specs.declared.access.Access.{Access}
use Rattle.uart_spec.specs.declared.access.Access.TheVariants.{Read, Write}
use Rattle.uart_16550.specs.Grammar.{Language, Settings, Only, Then, Times}
use Rattle.uart_16550.specs.Receive.{Miss}
use Rattle.uart_16550.specs.Transmit.{WaitsFor}
use Rattle.uart_16550.specs.Init.{SetsFifo}
use Rattle.uart_16550.specs.Driver.{Fields, Saving, Next, settings_of}
use Rattle.uart_16550.specs.Setup.{level_of}
use Rattle.uart_16550.specs.Loopback.{test_byte, TakesOne, DrainsLoopback, EntersAt, Inside}
use Rattle.uart_16550.specs.Sizing.{flood, Floods, TakesBack, Tells, Measures, SwitchesFifo, Sizes, SizesInLoopback, FindsFifoSize}
use Rattle.uart_16550.specs.Sizing.{BeginsEnabling, enabling_writes, Enabling, Enables64, Shows64, is_64_shown}
use Rattle.uart_16550.proofs.Languages.{then_later, at_least_sixteen}
use Rattle.uart_16550.proofs.determined.Parting.{SameOrPart, Determined, so, determined_so, determined_sym, determined_among}
use Rattle.uart_16550.proofs.determined.Parting.{determined_then, determined_front, determined_none, determined_only, not_both}
use Rattle.uart_16550.proofs.determined.Parting.{so_is, so_read, so_reads}
use Rattle.uart_16550.proofs.determined.Repeated.{Misses, times_same, times_all}
use Rattle.uart_16550.proofs.determined.Receive.{miss_same}
use Rattle.uart_16550.proofs.determined.Transmit.{waits_determined}
use Rattle.uart_16550.proofs.determined.Init.{fifo_determined}
use Rattle.uart_16550.proofs.determined.Doings.{Does, does_so, does_sym, does_next, does_saving}
use Rattle.uart_16550.proofs.determined.Loopback.{takes, drains_false, undrained, after_drain, set_fifos, enters_at_determined}
use Rattle.uart_16550.proofs.determined.Loopback.{inside_determined, from_empty_determined}

abbrev Found : Type 0
Found = Result FifoSize FifoSizeError

-- ---- what a count tells

-- a size by its characters
size_of : ℕ → FifoSize
size_of n =
    if n == 16 then Sixteen else if n == 32 then ThirtyTwo else if n == 64 then SixtyFour
    else if n == 128 then OneHundredTwentyEight else TwoHundredFiftySix

size_of_characters : (size : FifoSize) → size_of (characters size) ≡ size
unfolding size_of
size_of_characters Sixteen = refl
size_of_characters _ = refl

largest_one : (count : ℕ) (a b : FifoSize) → IsLargestUpTo count (Some a) → IsLargestUpTo count (Some b) → a ≡ b
largest_one count a b p q =
    let below = p.1 b q.0 in
    let above = q.1 a p.0 in
    let same : characters a ≡ characters b = omega arith in
    sym (size_of_characters a) ∙ ap size_of same ∙ size_of_characters b

largest_none : {C : Type 0} (count : ℕ) (a : FifoSize) → IsLargestUpTo count (Some a) → IsLargestUpTo count None → C
largest_none count a p q =
    let least = at_least_sixteen a in
    let fits = p.0 in
    absurd (omega arith)

tells_one : (count : ℕ) (r t : Found) → Tells count r → Tells count t → r ≡ t
tells_one count (Err FifosOff) t p q = absurd p
tells_one count (Err Stalled) t p q = absurd p
tells_one count r (Err FifosOff) p q = absurd q
tells_one count r (Err Stalled) p q = absurd q
tells_one count (Ok a) (Ok b) p q = ap (λ (x : FifoSize). let r : Found = Ok x in r) (largest_one count a b p q)
tells_one count (Ok a) (Err (TooFew n)) p q = largest_none count a p q.1
tells_one count (Err (TooFew n)) (Ok b) p q = largest_none count b q p.1
tells_one count (Err (TooFew n)) (Err (TooFew k)) p q =
    ap (λ (x : ℕ). let r : Found = Err (TooFew x) in r) (p.0 ∙ sym q.0)

-- ---- the count

-- as many before what parts from them
counts_same : (s : Settings) (M H : Language) → Misses s M H → Determined (Unit {0}) (H s) (H s) → (n k : ℕ) →
    Determined (n ≡ k) (Then (Times n M) H s) (Then (Times k M) H s)
counts_same s M H miss hit zero zero = determined_so (λ t. refl) (determined_then (determined_only refl) (λ x. hit))
counts_same s M H miss hit zero (suc k) = determined_none (determined_sym (determined_front (determined_front miss.apart)))
counts_same s M H miss hit (suc n) zero =
    determined_front (determined_front (determined_sym (determined_none (determined_sym miss.apart))))
counts_same s M H miss hit (suc n) (suc k) =
    determined_among (determined_then {P = M} {P' = M} {Q = Then (Times n M) H} {Q' = Then (Times k M) H} miss.same
    (λ x. determined_so (λ same. ap (λ (z : ℕ). suc z) same) (counts_same s M H miss hit n k)))
    (then_later M (Times n M) H s) (then_later M (Times k M) H s)

takes_back_determined : (s : Settings) (j k : ℕ) → Determined (j ≡ k) (TakesBack j s) (TakesBack k s)
takes_back_determined s j k = record { at = at }
  where
    at : (l m : List Access) → TakesBack j s l → TakesBack k s m → SameOrPart (j ≡ k) l m
    at l m (inl p) (inl q) = so (λ t. p.0 ∙ sym q.0) ((times_same s TakesOne (takes s).same flood).at l m p.1 q.1)
    at l m (inl p) (inr q) = (determined_sym (times_all s TakesOne Miss (takes s) k flood q.0)).at l m p.1 q.1
    at l m (inr p) (inl q) = so absurd ((times_all s TakesOne Miss (takes s) j flood p.0).at l m p.1 q.1)
    at l m (inr p) (inr q) = (counts_same s TakesOne Miss (takes s) (miss_same s) j k).at l m p.1 q.1

-- ---- the measure

floods_same : (s : Settings) → Determined (Unit {0}) (Floods s) (Floods s)
floods_same s = times_same s (Only (Write offsets.DATA test_byte ∷ [])) (determined_only refl) flood

-- after the drain: the second wait stalls, or so many came back
abbrev Flooded : Option ℕ → Language
Flooded None = Then Floods (WaitsFor LSR.TRANSMITTER_EMPTY.0 false)
Flooded (Some count) = Then Floods (Then (WaitsFor LSR.TRANSMITTER_EMPTY.0 true) (TakesBack count))

-- the wait ends, and then more follows; or it does not end
emptied_apart : (s : Settings) (count : ℕ) → Determined ⊥ (Flooded (Some count) s) (Flooded None s)
emptied_apart s count =
    determined_then {P = Floods} {P' = Floods} (floods_same s)
    (λ t. determined_front {P = WaitsFor LSR.TRANSMITTER_EMPTY.0 true} {Q = TakesBack count}
    (determined_so not_both (waits_determined s LSR.TRANSMITTER_EMPTY.0 true false)))

flooded_determined : (s : Settings) (x y : Option ℕ) → Determined (x ≡ y) (Flooded x s) (Flooded y s)
flooded_determined s None None =
    determined_then {P = Floods} {P' = Floods} (floods_same s)
    (λ t. determined_so (λ u. refl) (waits_determined s LSR.TRANSMITTER_EMPTY.0 false false))
flooded_determined s None (Some k) = determined_sym (emptied_apart s k)
flooded_determined s (Some j) None = determined_so absurd (emptied_apart s j)
flooded_determined s (Some j) (Some k) =
    determined_then {P = Floods} {P' = Floods} (floods_same s)
    (λ t. determined_then (waits_determined s LSR.TRANSMITTER_EMPTY.0 true true)
    (λ u. determined_so (λ same. ap (λ (z : ℕ). let r : Option ℕ = Some z in r) same) (takes_back_determined s j k)))

-- what the end of the measure tells
abbrev Ends : Option ℕ → Found → Type 0
Ends None r = r ≡ Err Stalled
Ends (Some count) r = Tells count r

ends_one : (x : Option ℕ) (r t : Found) → Ends x r → Ends x t → r ≡ t
ends_one None r t p q = p ∙ sym q
ends_one (Some count) r t p q = tells_one count r t p q

-- how far the measure came
abbrev Came : Found → Settings → List Access → Type 0
Came r s l = ((r ≡ Err Stalled) × DrainsLoopback false s l)
    ⊎ ((x : Option ℕ) × Ends x r × Then (DrainsLoopback true) (Flooded x) s l)

came_of : (r : Found) (s : Settings) (l : List Access) → Measures r s l → Came r s l
came_of r s l (inl t) = inl t
came_of r s l (inr (inl t)) = inr (None, t.0, t.1)
came_of r s l (inr (inr t)) = inr (Some t.0, t.1, t.2)

measures_determined : (s : Settings) (r t : Found) → Determined (r ≡ t) (Measures r s) (Measures t s)
measures_determined s r t = record { at = λ l m p q. at l m (came_of r s l p) (came_of t s m q) }
  where
    at : (l m : List Access) → Came r s l → Came t s m → SameOrPart (r ≡ t) l m
    at l m (inl p) (inl q) = so (λ u. p.0 ∙ sym q.0) ((drains_false s).at l m p.1 q.1)
    at l m (inl p) (inr q) = (determined_sym (undrained s (Flooded q.0))).at l m p.1 q.2
    at l m (inr p) (inl q) = so absurd ((undrained s (Flooded p.0)).at l m p.2 q.1)
    at l m (inr p) (inr q) =
        let M : Option ℕ → Type 0 = λ x. Ends x r in
        so (λ same. ends_one q.0 r t (subst M same p.1) q.1)
        ((after_drain s (Flooded p.0) (Flooded q.0) (flooded_determined s p.0 q.0)).at l m p.2 q.2)

-- ---- the whole

switches_determined : (level : Option FifoTriggerLevel) (f : Fields) (a b : Bool) →
    Does (Unit {0}) f (SwitchesFifo level a) (SwitchesFifo level b)
switches_determined level f a b =
    does_next (does_saving f (SetsFifo level a) (SetsFifo level b) (fifo_determined (settings_of f) level a b))
    (λ same g. set_fifos g a b same)

sizes_determined : (level : Option FifoTriggerLevel) (f : Fields) (r t : Found) → Does (r ≡ t) f (Sizes level r) (Sizes level t)
sizes_determined level f r t = record { at = λ l m a b p q. (parts p.0 q.0).at l m a b p.1 q.1 }
  where
    parts : (x y : Bool) →
        Does (r ≡ t) f (Next (Saving (Measures r)) (SwitchesFifo level x)) (Next (Saving (Measures t)) (SwitchesFifo level y))
    parts x y =
        does_next (does_saving f (Measures r) (Measures t) (measures_determined (settings_of f) r t))
        (λ same g. does_so (λ u. same) (switches_determined level g x y))

in_loopback_determined : (r t : Found) (f : Fields) (mcr ier : ℕ) → Does (r ≡ t) f (SizesInLoopback r mcr ier) (SizesInLoopback t mcr ier)
in_loopback_determined r t f mcr ier =
    let level = level_of true f.config.fifo_trigger_level in
    let all : Does (r ≡ t) f (Inside (EntersAt level) (Sizes level r) mcr ier) (Inside (EntersAt level) (Sizes level t) mcr ier) =
    inside_determined (EntersAt level) (Sizes level r) (Sizes level t) mcr ier f (λ g x y a b. enters_at_determined level g x y a b)
    (λ g. sizes_determined level g r t) in
    record { at = λ l m a b p q. all.at l m a b p q }

pub finds_fifo_size_determined : (f : Fields) (r t : Found) → Does (r ≡ t) f (FindsFifoSize r) (FindsFifoSize t)
finds_fifo_size_determined f r t = record { at = at }
  where
    at : (l m : List Access) (a b : Fields) → FindsFifoSize r f l a → FindsFifoSize t f m b → SameOrPart ((r ≡ t) × (a ≡ b)) l m
    at l m a b (inl p) (inl q) = inl ((p.0 ∙ sym q.0, p.3 ∙ sym q.3), p.2 ∙ sym q.2)
    at l m a b (inl p) (inr q) = absurd (not_both (sym q.0 ∙ p.1))
    at l m a b (inr p) (inl q) = absurd (not_both (sym p.0 ∙ q.1))
    at l m a b (inr p) (inr q) =
        (from_empty_determined (SizesInLoopback r) (SizesInLoopback t) f (λ x y. x ∙ sym y)
        (λ g mcr ier. in_loopback_determined r t g mcr ier)).at l m a b p.1 q.1

-- ---- the FIFOs of 64

abbrev Enabled : Type 0
Enabled = Result Bool FifoSizeError

opening : (s : Settings) (lcr ier lcr' ier' : ℕ) →
    Determined ((lcr ≡ lcr') × (ier ≡ ier')) (Only (Read offsets.LCR lcr ∷ Read offsets.IER ier ∷ []) s)
    (Only (Read offsets.LCR lcr' ∷ Read offsets.IER ier' ∷ []) s)
opening s lcr ier lcr' ier' = record { at = λ l m p q. so_is p.is q.is (so_read (λ same. so_reads)) }

begins_enabling_determined : (s : Settings) (lcr ier lcr' ier' : ℕ) (x y : Bool) →
    Determined ((lcr ≡ lcr') × (ier ≡ ier') × (x ≡ y)) (BeginsEnabling lcr ier x s) (BeginsEnabling lcr' ier' y s)
begins_enabling_determined s lcr ier lcr' ier' x y =
    determined_then (opening s lcr ier lcr' ier')
    (λ same. determined_so (λ t. (same.0, same.1, t)) (waits_determined s LSR.TRANSMITTER_EMPTY.0 x y))

shows_64_determined : (s : Settings) (x y : Bool) → Determined (x ≡ y) (Shows64 x s) (Shows64 y s)
shows_64_determined s x y = record {
  at = λ l m p q. so_is p.2 q.2 (so (λ same. sym p.1 ∙ ap is_64_shown same ∙ q.1) so_reads);
}

enabling_determined : (s : Settings) (lcr ier lcr' ier' : ℕ) (level : FifoTriggerLevel) (x y : Bool) → lcr ≡ lcr' → ier ≡ ier' →
    Determined (x ≡ y) (Enabling lcr ier level x s) (Enabling lcr' ier' level y s)
enabling_determined s lcr ier lcr' ier' level x y p q =
    determined_then (determined_only (ap (λ (n : ℕ). enabling_writes n level) p))
    (λ t. determined_then {P = Shows64 x} {P' = Shows64 y} (shows_64_determined s x y)
    (λ same. determined_so (λ u. same) (determined_only (ap (λ (n : ℕ). Write offsets.IER n ∷ []) q))))

-- after the wait, and with it
abbrev Enables : (lcr ier : ℕ) → FifoTriggerLevel → Bool → Language
Enables lcr ier level on = Then (BeginsEnabling lcr ier true) (Enabling lcr ier level on)

enables_determined : (s : Settings) (lcr ier lcr' ier' : ℕ) (level : FifoTriggerLevel) (x y : Bool) →
    Determined (x ≡ y) (Enables lcr ier level x s) (Enables lcr' ier' level y s)
enables_determined s lcr ier lcr' ier' level x y =
    determined_then (begins_enabling_determined s lcr ier lcr' ier' true true)
    (λ same. enabling_determined s lcr ier lcr' ier' level x y same.0 same.1)

enables_apart : (s : Settings) (lcr ier lcr' ier' : ℕ) (level : FifoTriggerLevel) (on : Bool) →
    Determined ⊥ (Enables lcr ier level on s) (BeginsEnabling lcr' ier' false s)
enables_apart s lcr ier lcr' ier' level on =
    determined_front
    (determined_so (λ t. not_both t.2) (begins_enabling_determined s lcr ier lcr' ier' true false))

pub enables_64_determined : (f : Fields) (r t : Enabled) → Does (r ≡ t) f (Enables64 r) (Enables64 t)
enables_64_determined f r t = record { at = at r t }
  where
    level : FifoTriggerLevel
    level = unwrap_or f.config.fifo_trigger_level One

    at : (r t : Enabled) (l m : List Access) (a b : Fields) → Enables64 r f l a → Enables64 t f m b →
        SameOrPart ((r ≡ t) × (a ≡ b)) l m
    at (Err (TooFew n)) y l m a b p q = absurd p
    at x (Err (TooFew n)) l m a b p q = absurd q
    at (Ok x) (Ok y) l m a b p q =
        (does_so (λ same. ap (λ (z : Bool). let r : Enabled = Ok z in r) same)
        (does_saving f (Enables p.1 p.2 level x) (Enables q.1 q.2 level y)
        (enables_determined (settings_of f) p.1 p.2 q.1 q.2 level x y))).at l m a b p.3 q.3
    at (Ok x) (Err FifosOff) l m a b p q = absurd (not_both (sym p.0 ∙ q.0))
    at (Ok x) (Err Stalled) l m a b p q =
        (does_so absurd (does_saving f (Enables p.1 p.2 level x) (BeginsEnabling q.1 q.2 false)
        (enables_apart (settings_of f) p.1 p.2 q.1 q.2 level x))).at l m a b p.3 q.3
    at (Err FifosOff) (Ok y) l m a b p q = absurd (not_both (sym q.0 ∙ p.0))
    at (Err FifosOff) (Err FifosOff) l m a b p q = inl ((refl, p.2 ∙ sym q.2), p.1 ∙ sym q.1)
    at (Err FifosOff) (Err Stalled) l m a b p q = absurd (not_both (sym q.0 ∙ p.0))
    at (Err Stalled) (Ok y) l m a b p q =
        (does_sym (does_saving f (Enables q.1 q.2 level y) (BeginsEnabling p.1 p.2 false)
        (enables_apart (settings_of f) q.1 q.2 p.1 p.2 level y))).at l m a b p.3 q.3
    at (Err Stalled) (Err FifosOff) l m a b p q = absurd (not_both (sym p.0 ∙ q.0))
    at (Err Stalled) (Err Stalled) l m a b p q =
        (does_so (λ t. refl) (does_saving f (BeginsEnabling p.1 p.2 false) (BeginsEnabling q.1 q.2 false)
        (begins_enabling_determined (settings_of f) p.1 p.2 q.1 q.2 false false))).at l m a b p.3 q.3
