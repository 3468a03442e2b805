-- Calls that change fields or read without saving, one after another.
use Rattle.std.proofs.Common.{◌≡◌, ◌+◌, ℕ, Bool, List, [], ◌∷◌, ◌++◌, refl, ◌∙◌, ap, subst, bit_or}
use lib.Bits.{or_zero_r}
use Rattle.std.specs.Int.NonZero.{non_zero_u64_get}
use Rattle.uart_spec.specs.Bits.{has}
use Rattle.uart_spec.specs.Access.{saved_lsr, saved_msr}
use Rattle.uart_spec.specs.declared.access.Access.{Access}
use Rattle.uart_spec.specs.declared.access.Access.TheVariants.{Read}
use Rattle.uart_16550.specs.Grammar.{Language, Settings, Only, Then, Times, Asks, ReadsRegister}
use Rattle.uart_16550.specs.Driver.{Made, Did, Doing, Fields, fields, settings_of, Saving, saving, Plain, Sets, Next}
use Rattle.uart_16550.specs.declared.driver.Uart16550.{Uart16550}
use Rattle.uart_16550.proofs.Paths.{path_then}
use Rattle.uart_16550.proofs.Languages.{times_more}

-- what is done by one call and then another
pub did_then : {B : Type 0} {step : B → Access → B → Type 0} {G H : Doing} {a b c : Uart16550 B} → Did step G a b → Did step H b c →
    Did step (Next G H) a c
did_then {step} {a} {b} {c} p q = record {
  list = p.list ++ q.list;
  path = path_then step a.backend b.backend c.backend p.list q.list p.path q.path;
  does = record { front = p.list; back = q.list; mid = fields b; whole = refl; first = p.does; second = q.does };
}

-- what is done is among more
pub did_among : {B : Type 0} {step : B → Access → B → Type 0} {G H : Doing} {a b : Uart16550 B} →
    ((f : Fields) (l : List Access) (after : Fields) → G f l after → H f l after) → Did step G a b → Did step H a b
did_among h p = record { list = p.list; path = p.path; does = h _ _ _ p.does }

-- a call that saves
pub did_made : {B : Type 0} {step : B → Access → B → Type 0} {L : Language} {a b : Uart16550 B} → Made step L a b → Did step (Saving L) a b
did_made p = record {
  list = p.list;
  path = p.path;
  does = (
    p.fits,
    λ i. record {
      config = p.config i;
      fifo = p.fifo i;
      size = p.size i;
      lsr = p.lsr i;
      msr = p.msr i;
      limit = non_zero_u64_get (p.limit i);
    },
  );
}

-- a list that shows nothing to save
pub saving-none : (f : Fields) (l : List Access) → saved_lsr l ≡ 0 → saved_msr l ≡ 0 → saving f l ≡ f
saving-none f l p q =
    let lsr : bit_or f.lsr (saved_lsr l) ≡ f.lsr = rw p (or_zero_r f.lsr) in
    let msr : bit_or f.msr (saved_msr l) ≡ f.msr = rw q (or_zero_r f.msr) in
    λ i. record { config = f.config; fifo = f.fifo; size = f.size; lsr = lsr i; msr = msr i; limit = f.limit }

-- a call that saves, and has nothing to save
pub did_unsaved : {B : Type 0} {step : B → Access → B → Type 0} (list : List Access) {a b : Uart16550 B} → saved_lsr list ≡ 0 →
    saved_msr list ≡ 0 → Made step (Only list) a b → Did step (Plain (Only list)) a b
did_unsaved list lsr msr p =
    did_among (λ f l after t. (t.0, t.1 ∙ saving-none f l (ap saved_lsr t.0.is ∙ lsr) (ap saved_msr t.0.is ∙ msr))) (did_made p)

-- plain calls, one after the other
pub plain_then : {B : Type 0} {step : B → Access → B → Type 0} {L M : Language} {a b c : Uart16550 B} → Did step (Plain L) a b →
    Did step (Plain M) b c → Did step (Plain (Then L M)) a c
plain_then {step} {M} {a} {b} {c} p q = record {
  list = p.list ++ q.list;
  path = path_then step a.backend b.backend c.backend p.list q.list p.path q.path;
  does = (
    record {
      front = p.list;
      back = q.list;
      whole = refl;
      first = p.does.0;
      second = subst (λ (f : Fields). M (settings_of f) q.list) p.does.1 q.does.0;
    },
    q.does.1 ∙ p.does.1,
  );
}

pub plain_among : {B : Type 0} {step : B → Access → B → Type 0} {L M : Language} {a b : Uart16550 B} →
    ((s : Settings) (l : List Access) → L s l → M s l) → Did step (Plain L) a b → Did step (Plain M) a b
plain_among h p = record { list = p.list; path = p.path; does = (h _ _ p.does.0, p.does.1) }

pub plain_none : {B : Type 0} {step : B → Access → B → Type 0} {a : Uart16550 B} → Did step (Plain (Only [])) a a
plain_none = record { list = []; path = refl; does = (record { is = refl }, refl) }

pub plain_times : {B : Type 0} {step : B → Access → B → Type 0} (n : ℕ) (P : Language) {a b c : Uart16550 B} →
    Did step (Plain (Times n P)) a b → Did step (Plain P) b c → Did step (Plain (Times (n + 1) P)) a c
plain_times n P p q =
    plain_among {L = Then (Times n P) P} {M = Times (n + 1) P} (λ s l t. rw t.whole (times_more n P s t.front t.back t.first t.second))
    (plain_then p q)

pub plain_asks : {B : Type 0} {step : B → Access → B → Type 0} (register answer bits : ℕ) (outcome : Bool) {a b : Uart16550 B} →
    Did step (Plain (Only (Read register answer ∷ []))) a b → has answer bits ≡ outcome → Did step (Plain (Asks register bits outcome)) a b
plain_asks register answer bits outcome p h =
    plain_among {L = Only (Read register answer ∷ [])} {M = Asks register bits outcome}
    (λ s l t. record { answer = answer; shows = h; is = t.is }) p

pub plain_read : {B : Type 0} {step : B → Access → B → Type 0} (register answer : ℕ) {a b : Uart16550 B} →
    Did step (Plain (Only (Read register answer ∷ []))) a b → Did step (Plain (ReadsRegister register)) a b
plain_read register answer p = record { list = p.list; path = p.path; does = ((answer, p.does.0.is), p.does.1) }

-- the fields are set
pub did_set : {B : Type 0} (step : B → Access → B → Type 0) (change : Fields → Fields) (a b : Uart16550 B) → b.backend ≡ a.backend →
    fields b ≡ change (fields a) → Did step (Sets change) a b
did_set step change a b same set = record { list = []; path = same; does = (refl, set) }
