-- What the two halves of handling at a port lose, arm, and make of accesses.
use Rattle.std.proofs.Common.{slice_set, slice_index_or, add-one, ◌||◌}
use Rattle.std.proofs.Common.{◌≡◌, ◌<◌, ◌≤◌, ◌+◌, ℕ, zero, suc, Bool, true, List, [], ◌∷◌, ◌++◌, length, refl, sym, ap, subst}
use Rattle.std.proofs.Common.{◌∙◌}
use lib.Bits.{and_zero_r}
use Rattle.std.proofs.Common.{append_assoc, append-nil, inl, inr, arith, bit_and, bit_or, Result, Err, Option, Some, None}
use Rattle.std.specs.Prelude.{⊤, MatchOption}
use Rattle.std.proofs.lemmas.Bool.Decides.{nat_tests}
use Rattle.std.proofs.lemmas.Nat.Bits.{same_from_bits, bit_at_or, bit_at_and}
use Rattle.uart_spec.specs.declared.access.Access.{Access}
use Rattle.uart_spec.specs.declared.access.Access.TheVariants.{Read, Write}
use Rattle.uart_spec.specs.Bits.{has}
use Rattle.uart_spec.specs.declared.registers.interrupt_enable.TheConstants.IER
use Rattle.uart_spec.specs.declared.registers.offsets.TheConstants as offsets
use Rattle.uart_16550.specs.Grammar.{Only}
use Rattle.uart_16550.specs.Driver.{Fields}
use Rattle.uart_16550.specs.Status.{Enables}
use Rattle.uart_16550.proofs.determined.Parting.{SameOrPart, read_determined}
use Rattle.uart_16550.proofs.determined.Doings.{Does, does_saving, does_so}
use Rattle.uart_16550.proofs.determined.Status.{enables_determined}
use Rattle.uart_ring.specs.Ring.{RingFields, OnDriver, Stays, RingNext, sendable, unchanged}
use Rattle.uart_ring.specs.Storm.{every_bit, TurnsOff, TriesToHandle, EndsWith, LeavesOff}
use Rattle.uart_ring.specs.Lossless.{Implies, LosesNothing}
use Rattle.uart_ring.specs.Armed.{ThrEmpty, KeepsIer, LeavesArmed, known_after_all}
use Rattle.uart_ring.specs.Bounded.{MakesAtMost, MakesAtMostBySize, most_of_change, most_of_try_handle}
use Rattle.uart_ring.specs.Choice.{LeavesNoRingChoice}
use Rattle.uart_ring.specs.Line.{ShowsEnabled, LowersLine, RaisesLine, most_of_lower}
use Rattle.uart_ring.specs.Line.{AtPort, EachGoes, InTurn, IsSame, ServesInTurn}
use Rattle.uart_ring.specs.declared.ring.line.Lowered.{Lowered}
use Rattle.uart_ring.specs.declared.ring.service.Handled.{Handled}
use Rattle.uart_ring.specs.declared.ring.storm.StuckError.{StuckError}
use Rattle.uart_ring.proofs.Pausing.{joined_with, rid_of}
use Rattle.uart_ring.proofs.RegisterBits.{and_or}
use Rattle.uart_ring.proofs.RingDoings.{then_later}
use Rattle.uart_ring.proofs.Losses.{Carries, Moves, carried, carries-then, carries_still, changes_saves, saving_saves, stays_carries}
use Rattle.uart_ring.proofs.Losses.{tries_carry}
use Rattle.uart_ring.proofs.Arming.{IsLive, leaves_live, leaves_stuck, leaves_then, tries_leave}
use Rattle.uart_ring.proofs.Bounding.{both, changes_size, tries_size}
use Rattle.uart_ring.proofs.Choices.{RingDoes, no_choice, on_driver, returns_none, ring_next, ring_so, stays_same, tries_leave_no_choice}
use Rattle.uart_ring.proofs.Choices.{turns_off_same}
use Rattle.uart_ring.proofs.Sending.{none_stuck}
use Rattle.uart_ring.proofs.Storms.{tries_off}

-- ---- nothing is lost

shows_carry : (bits : ℕ) → Implies (OnDriver (ShowsEnabled bits) unchanged) Carries
shows_carry bits f l after (t, same) =
    let moves : Moves [] [] l = rw t.0.is (record { written_is = refl; read_is = refl }) in
    carries_still f f l after (saving_saves [] [] f.driver l after.driver moves t.1) same refl refl refl refl refl

off_carries : Implies (OnDriver TurnsOff unchanged) Carries
off_carries f l after (t, same) =
    carries_still f f l after (changes_saves (rid_of every_bit) f.driver l after.driver t) same refl refl refl refl refl

enables_carry : (bits : ℕ) → Implies (OnDriver (Enables bits) unchanged) Carries
enables_carry bits f l after (t, same) =
    carries_still f f l after (changes_saves (joined_with bits) f.driver l after.driver t) same refl refl refl refl refl

lowers_carry : (limit rounds : ℕ) (lowered : Lowered) → Implies (LowersLine limit rounds lowered) Carries
lowers_carry limit rounds lowered f l after t =
    let u = t.second in
    let rest : Carries t.mid t.back after = rw u.whole (carries-then t.mid u.mid after u.front u.back
    (shows_carry lowered.enabled.0 t.mid u.front u.mid u.first) (off_carries u.mid u.back after u.second)) in
    rw t.whole (carries-then f t.mid after t.front t.back (tries_carry limit rounds lowered.handled f t.front t.mid t.first) rest)

-- these interrupts are enabled, if the chip is not stuck
abbrev Enabling : Option StuckError → ℕ → RingFields → List Access → RingFields → Type 0
Enabling stuck bits f l after = MatchOption stuck (OnDriver (Enables bits) unchanged f l after) (λ error. Stays f l after)

enabling_carries : (stuck : Option StuckError) (bits : ℕ) (f : RingFields) (l : List Access) (after : RingFields) →
    Enabling stuck bits f l after → Carries f l after
enabling_carries None bits f l after t = enables_carry bits f l after t
enabling_carries (Some error) bits f l after t = stays_carries f l after t

pub lowers_lose_nothing : (limit rounds : ℕ) (lowered : Lowered) →
    Implies (LowersLine limit rounds lowered) (LosesNothing [] [] 0 0)
lowers_lose_nothing limit rounds lowered f l after t = carried f l after (lowers_carry limit rounds lowered f l after t)

pub raises_lose_nothing : (bits : ℕ) → Implies (RaisesLine bits) (LosesNothing [] [] 0 0)
raises_lose_nothing bits f l after t = carried f l after (enabling_carries f.stuck bits f l after t)

-- ---- the rings stay armed

or_last : (a mask : ℕ) → bit_or (bit_and a mask) mask ≡ mask
or_last a mask = same_from_bits _ _ (λ i. simp (bit_at_and, bit_at_or) (omega arith))

-- a bit that is among those that are joined is there
joined_has : (a bits mask : ℕ) → has bits mask ≡ true → has (bit_or a bits) mask ≡ true
joined_has a bits mask h =
    let is : bit_and bits mask ≡ mask = grind (arith, nat_tests) in
    let all : bit_and (bit_or a bits) mask ≡ mask =
    and_or a bits mask ∙ (ap (λ n. bit_or (bit_and a mask) n) is ∙ or_last a mask) in
    grind (arith, nat_tests)

-- what was enabled was read, disabled, and enabled again
abbrev again : (bits ier zero_ier : ℕ) → List Access
again bits ier zero_ier =
    Read offsets.IER bits ∷ Read offsets.IER ier ∷ Write offsets.IER (rid_of every_bit ier) ∷
    Read offsets.IER zero_ier ∷ Write offsets.IER (joined_with bits zero_ier) ∷ []

again_live : (bits ier zero_ier : ℕ) (known : ThrEmpty) → KeepsIer known (again bits ier zero_ier) → IsLive known →
    IsLive (known_after_all known (again bits ier zero_ier))
again_live bits ier zero_ier known keeps live =
    (joined_has zero_ier bits IER.THR_EMPTY.0 (keeps.0 refl live.0), live.1)

abbrev Again : ℕ → RingFields → List Access → RingFields → Type 0
Again bits =
    RingNext (RingNext (OnDriver (ShowsEnabled bits) unchanged) (OnDriver TurnsOff unchanged)) (OnDriver (Enables bits) unchanged)

again_leaves : (bits : ℕ) → Implies (Again bits) LeavesArmed
again_leaves bits f l after t =
    let u = t.first in
    let whole : l ≡ again bits u.second.0.0 t.second.0.0 =
    rw (t.whole, u.whole, u.first.0.0.is, u.second.0.1, t.second.0.1) refl in
    let items : sendable after ≡ sendable f =
    ap sendable t.second.1 ∙ (ap sendable u.second.1 ∙ ap sendable u.first.1) in
    leaves_live f l after items
    (let P : List Access → Type 0 = λ k. (known : ThrEmpty) → KeepsIer known k → IsLive known → IsLive (known_after_all known k) in
    subst P (sym whole) (again_live bits u.second.0.0 t.second.0.0))

pub port_leaves_armed : (limit rounds : ℕ) (lowered : Lowered) →
    Implies (RingNext (LowersLine limit rounds lowered) (RaisesLine lowered.enabled.0)) LeavesArmed
port_leaves_armed limit rounds lowered f l after t = go t.mid.stuck refl t.second
  where
    go : (stuck : Option StuckError) → t.mid.stuck ≡ stuck → Enabling stuck lowered.enabled.0 t.mid t.back after → LeavesArmed f l after
    go None e enables =
        let whole : RingNext (LowersLine limit rounds lowered) (OnDriver (Enables lowered.enabled.0) unchanged) f l after =
        record { front = t.front; back = t.back; mid = t.mid; whole = t.whole; first = t.first; second = enables } in
        let u = then_later (TriesToHandle limit rounds lowered.handled)
        (RingNext (OnDriver (ShowsEnabled lowered.enabled.0) unchanged) (OnDriver TurnsOff unchanged))
        (OnDriver (Enables lowered.enabled.0) unchanged) f l after whole in
        rw u.whole (leaves_then f u.mid after u.front u.back (tries_carry limit rounds lowered.handled f u.front u.mid u.first)
        (tries_leave limit rounds lowered.handled f u.front u.mid u.first) (again_leaves lowered.enabled.0 u.mid u.back after u.second))
    go (Some error) e stays = leaves_stuck f l after (ap sendable stays.1 ∙ none_stuck t.mid error e)

-- ---- a chip that is stuck

-- a list that ends so also does so behind another one
ends_behind : (access : Access) (l k : List Access) → EndsWith access k → EndsWith access (l ++ k)
ends_behind access l k (front, is) = (l ++ front, rw is (sym (append_assoc l front (access ∷ []))))

pub port_leaves_off : (limit rounds : ℕ) (lowered : Lowered) (error : StuckError) → lowered.handled ≡ Err error →
    Implies (RingNext (LowersLine limit rounds lowered) (RaisesLine lowered.enabled.0)) (LeavesOff error)
port_leaves_off limit rounds lowered error is f l after t =
    let H : Result Handled StuckError → Type 0 = λ handled. TriesToHandle limit rounds handled f t.first.front t.first.mid in
    let tried = subst H is t.first.first in
    let off = t.first.second in
    let found = (tries_off limit rounds error f t.first.front t.first.mid tried).1 in
    let stuck : t.mid.stuck ≡ Some error = ap (λ (g : RingFields). g.stuck) off.second.1
    ∙ (ap (λ (g : RingFields). g.stuck) off.first.1 ∙ found) in
    let S : Option StuckError → Type 0 = λ s. Enabling s lowered.enabled.0 t.mid t.back after in
    let still = subst S stuck t.second in
    let none : rid_of every_bit off.second.0.0 ≡ 0 = and_zero_r off.second.0.0 in
    let written : off.back ≡ Read offsets.IER off.second.0.0 ∷ Write offsets.IER 0 ∷ [] =
    off.second.0.1 ∙ ap (λ value. Read offsets.IER off.second.0.0 ∷ Write offsets.IER value ∷ []) none in
    let last : EndsWith (Write offsets.IER 0) off.back = (Read offsets.IER off.second.0.0 ∷ [], written) in
    let lowers : EndsWith (Write offsets.IER 0) t.front =
    rw (t.first.whole, off.whole) (ends_behind (Write offsets.IER 0) t.first.front (off.front ++ off.back)
    (ends_behind (Write offsets.IER 0) off.front off.back last)) in
    let whole : l ≡ t.front = t.whole ∙ (ap (λ k. t.front ++ k) still.0 ∙ append-nil t.front) in
    (rw whole lowers, ap (λ (g : RingFields). g.stuck) still.1 ∙ stuck)

-- ---- how many accesses

pub lowers_size : (limit rounds : ℕ) (lowered : Lowered) →
    Implies (LowersLine limit rounds lowered) (MakesAtMostBySize (most_of_lower limit))
lowers_size limit rounds lowered f l after t =
    let u = t.second in
    let read : length u.front ≤ 1 = omega (arith, ap length u.first.0.0.is) in
    both l t.front t.back (most_of_try_handle limit f.driver.size) (1 + most_of_change) t.whole
    (tries_size limit rounds lowered.handled f t.front t.mid t.first)
    (both t.back u.front u.back 1 most_of_change u.whole read (changes_size (rid_of every_bit) u.mid.driver u.back after.driver u.second.0))

enabling_size : (stuck : Option StuckError) (bits : ℕ) (f : RingFields) (l : List Access) (after : RingFields) →
    Enabling stuck bits f l after → length l ≤ most_of_change
enabling_size None bits f l after t = changes_size (joined_with bits) f.driver l after.driver t.0
enabling_size (Some error) bits f l after t = omega (arith, ap length t.0)

pub raises_size : (bits : ℕ) → Implies (RaisesLine bits) (MakesAtMost most_of_change)
raises_size bits f l after t = enabling_size f.stuck bits f l after t

-- ---- no choice

-- what has no choice does so from the same fields
choices_of : {R : Type 0} {G : R → RingFields → List Access → RingFields → Type 0} → LeavesNoRingChoice G →
    (f : RingFields) (a b : R) → RingDoes (a ≡ b) f (G a) (G b)
choices_of h f a b = record {
  at = λ l m x y p q. elim (h f a b l m x y p q) [ inl same ↦ inl ((same.0, same.2), same.1) | inr part ↦ inr part ];
}

enabled_same : (x y : ℕ) (f : Fields) → Does (x ≡ y) f (ShowsEnabled x) (ShowsEnabled y)
enabled_same x y f =
    does_saving f (Only (Read offsets.IER x ∷ [])) (Only (Read offsets.IER y ∷ [])) (read_determined offsets.IER x y)

pub lowers_leave_no_choice : (limit rounds : ℕ) → LeavesNoRingChoice (LowersLine limit rounds)
lowers_leave_no_choice limit rounds = no_choice (λ f a b.
    ring_next (choices_of (tries_leave_no_choice limit rounds) f a.handled b.handled)
    (λ e mid. ring_next (on_driver {f = mid} unchanged unchanged (enabled_same a.enabled.0 b.enabled.0 mid.driver) (λ r. refl))
    (λ w last. ring_so (λ r i. record { handled = e i; enabled = record { 0 = w i } })
    (on_driver {f = last} unchanged unchanged (turns_off_same last.driver) (λ r. refl)))))

enables_same : (bits : ℕ) (f : RingFields) → RingDoes (Unit {0}) f (OnDriver (Enables bits) unchanged) (OnDriver (Enables bits) unchanged)
enables_same bits f =
    on_driver {f = f} unchanged unchanged (does_so (λ r. tt) (enables_determined bits f.driver tt tt)) (λ r. refl)

pub raises_leave_no_choice : (bits : ℕ) → LeavesNoRingChoice (λ (_ : ⊤). RaisesLine bits)
raises_leave_no_choice bits = returns_none (λ f. record { at = λ l m a b p q. at f f.stuck l m a b p q })
  where
    at : (f : RingFields) (stuck : Option StuckError) (l m : List Access) (a b : RingFields) → Enabling stuck bits f l a →
        Enabling stuck bits f m b → SameOrPart (Unit {0} × (a ≡ b)) l m
    at f None l m a b p q = (enables_same bits f).at l m a b p q
    at f (Some error) l m a b p q = (stays_same f).at l m a b p q

-- ---- a port of a list

all_same : {A : Type 0} (xs : List A) → EachGoes IsSame xs xs
all_same [] = tt
all_same (x ∷ xs) = (refl, all_same xs)

-- one of them was set, and the others are as they were
pub at_set : {A : Type 0} (Goes : A → A → Type 0) (port : ℕ) (xs : List A) (other y : A) → port < length xs →
    Goes (slice_index_or xs port other) y → AtPort Goes IsSame port xs (slice_set xs port y)
at_set Goes port [] other y within goes = absurd (omega (arith, within))
at_set Goes zero (x ∷ xs) other y within goes = (goes, all_same xs)
at_set Goes (suc port) (x ∷ xs) other y within goes = (refl, at_set Goes port xs other y (omega (arith, within)) goes)

-- where a loop over ports stands: a port that is there, as many as there were before; and behind the last one
pub stands_within : (port few many : ℕ) → few ≡ many → port < many → port < few
stands_within port few many same within = omega (arith, same, within)

pub stands_behind : (port count : ℕ) → port ≤ count → count ≤ port → port ≡ count
stands_behind port count before behind = omega (arith, before, behind)

-- ---- one port more

pub serves_more : {S : Type 0} (Does : ℕ → Bool → S → S → Type 0) (number : ℕ) (before here : Bool) (a mid b : S) →
    ServesInTurn Does number before a mid → Does number here mid b → ServesInTurn Does (number + 1) (before || here) a b
serves_more Does number before here a mid b first second = rw (add-one number) (before, here, mid, first, second, refl)

pub turns_more : {S : Type 0} (Does : ℕ → S → S → Type 0) (number : ℕ) (a mid b : S) → InTurn Does number a mid → Does number mid b →
    InTurn Does (number + 1) a b
turns_more Does number a mid b first second = rw (add-one number) (mid, first, second)

-- ---- how many ports

-- no port comes or goes
each_length : {A : Type 0} (Goes : A → A → Type 0) (xs ys : List A) → EachGoes Goes xs ys → length ys ≡ length xs
each_length Goes [] [] h = refl
each_length Goes [] (y ∷ ys) h = absurd h
each_length Goes (x ∷ xs) [] h = absurd h
each_length Goes (x ∷ xs) (y ∷ ys) h = ap suc (each_length Goes xs ys h.1)

at_length : {A : Type 0} (Goes Others : A → A → Type 0) (port : ℕ) (xs ys : List A) → AtPort Goes Others port xs ys →
    length ys ≡ length xs
at_length Goes Others zero [] ys h = absurd h
at_length Goes Others zero (x ∷ xs) [] h = absurd h
at_length Goes Others zero (x ∷ xs) (y ∷ ys) h = ap suc (each_length Others xs ys h.1)
at_length Goes Others (suc port) [] ys h = absurd h
at_length Goes Others (suc port) (x ∷ xs) [] h = absurd h
at_length Goes Others (suc port) (x ∷ xs) (y ∷ ys) h = ap suc (at_length Goes Others port xs ys h.1)

pub turns_length : {A : Type 0} (Goes Others : A → A → Type 0) (number : ℕ) (xs ys : List A) → InTurn (AtPort Goes Others) number xs ys →
    length ys ≡ length xs
turns_length Goes Others zero xs ys h = ap length h
turns_length Goes Others (suc number) xs ys (mid, before, here) =
    at_length Goes Others number mid ys here ∙ turns_length Goes Others number xs mid before

-- the same of what serves at each
pub serves_length : {A : Type 0} (Goes : Bool → A → A → Type 0) (Others : A → A → Type 0) (number : ℕ) (served : Bool) (xs ys : List A) →
    ServesInTurn (λ port here. AtPort (Goes here) Others port) number served xs ys → length ys ≡ length xs
serves_length Goes Others zero served xs ys h = ap length h.1
serves_length Goes Others (suc number) served xs ys (before, here, mid, first, second, told) =
    at_length (Goes here) Others number mid ys second ∙ serves_length Goes Others number before xs mid first
