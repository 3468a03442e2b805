-- Calls that save what they read, one after another.
use Rattle.std.proofs.Common.{◌≡◌, ◌≢◌, ◌<◌, ◌+◌, ℕ, Bool, true, false, List, [], ◌∷◌, ◌++◌, refl, sym, ◌∙◌, ap, subst, arith, ◌==◌}
use Rattle.std.proofs.Common.{MatchBool, bit_or}
use Rattle.std.proofs.lemmas.Bool.Decides.{nat_tests}
use Rattle.std.specs.Int.NonZero.{non_zero_u64_get}
use lib.Bits.{or_zero_r}
use Rattle.uart_spec.specs.Bits.{has}
use Rattle.uart_spec.specs.declared.registers.offsets.TheConstants as offsets
use Rattle.uart_spec.specs.declared.registers.line_status.TheConstants.LSR
use Rattle.uart_spec.specs.declared.registers.modem_status.TheConstants.MSR
use Rattle.uart_spec.specs.Access.{saved_lsr, saved_msr}
use Rattle.uart_spec.specs.declared.access.Access.{Access}
use Rattle.uart_spec.specs.declared.access.Access.TheVariants.{Read, Write}
use Rattle.uart_16550.specs.Grammar.{Language, Settings, Only, Then, InOrder, Times, FewMisses, Asks, IfChecks}
use Rattle.uart_16550.specs.Transmit.{SendHit, SendMiss, WaitsToSend, Round, data_writes}
use Rattle.uart_16550.specs.Driver.{Made, settings}
use Rattle.uart_16550.specs.declared.driver.Uart16550.{Uart16550}
use Rattle.uart_16550.proofs.Paths.{or_assoc, path_then, saved-append, or_saved}
use Rattle.uart_16550.proofs.Languages.{in_order_more, in_order_append, times_more, then_later}

-- a call leaves the settings
pub made_settings : {B : Type 0} {step : B → Access → B → Type 0} {L : Language} {a b : Uart16550 B} → Made step L a b →
    settings b ≡ settings a
made_settings p i = record {
  checks = (p.config i).check_cts_before_sending;
  fifo = p.fifo i;
  size = p.size i;
  limit = non_zero_u64_get (p.limit i);
}

-- one call and then another
pub made_then : {B : Type 0} {step : B → Access → B → Type 0} {L M : Language} {a b c : Uart16550 B} → Made step L a b → Made step M b c →
    Made step (Then L M) a c
made_then {step} {M} {a} {b} {c} p q = record {
  list = p.list ++ q.list;
  path = path_then step a.backend b.backend c.backend p.list q.list p.path q.path;
  lsr = rw (q.lsr, p.lsr, saved-append offsets.LSR LSR.LINE_ERRORS.0 p.list q.list)
      (or_assoc a.saved_lsr.0 (saved_lsr p.list) (saved_lsr q.list));
  msr = rw (q.msr, p.msr, saved-append offsets.MSR MSR.CHANGES.0 p.list q.list)
      (or_assoc a.saved_msr.0 (saved_msr p.list) (saved_msr q.list));
  config = q.config ∙ p.config;
  fifo = q.fifo ∙ p.fifo;
  size = q.size ∙ p.size;
  limit = q.limit ∙ p.limit;
  fits = record {
    front = p.list;
    back = q.list;
    whole = refl;
    first = p.fits;
    second = subst (λ (s : Settings). M s q.list) (made_settings p) q.fits;
  };
}

-- a call whose list is of another language too
pub made_fits : {B : Type 0} {step : B → Access → B → Type 0} {L M : Language} {a b : Uart16550 B} (p : Made step L a b) →
    M (settings a) p.list → Made step M a b
made_fits p fits = record {
  list = p.list;
  path = p.path;
  lsr = p.lsr;
  msr = p.msr;
  config = p.config;
  fifo = p.fifo;
  size = p.size;
  limit = p.limit;
  fits = fits;
}

-- a call whose lists are among more
pub made_among : {B : Type 0} {step : B → Access → B → Type 0} {L M : Language} {a b : Uart16550 B} →
    ((l : List Access) → L (settings a) l → M (settings a) l) → Made step L a b → Made step M a b
made_among h p = made_fits p (h p.list p.fits)

-- a call whose list is known
pub made_exactly : {B : Type 0} {step : B → Access → B → Type 0} {L : Language} {a b : Uart16550 B} (list : List Access)
    (p : Made step L a b) → p.list ≡ list → Made step (Only list) a b
made_exactly list p e = made_fits p (record { is = e })

-- no access
pub made_none : {B : Type 0} {step : B → Access → B → Type 0} {a : Uart16550 B} → Made step (Only []) a a
made_none {a} = record {
  list = [];
  path = refl;
  lsr = sym (or_zero_r a.saved_lsr.0);
  msr = sym (or_zero_r a.saved_msr.0);
  config = refl;
  fifo = refl;
  size = refl;
  limit = refl;
  fits = record { is = refl };
}

-- one access, and the bits that are saved after it
pub made_access : {B : Type 0} (step : B → Access → B → Type 0) (a : Uart16550 B) (after : B) (access : Access) (lsr msr : ℕ) →
    step a.backend access after → lsr ≡ bit_or a.saved_lsr.0 (saved_lsr (access ∷ [])) →
    msr ≡ bit_or a.saved_msr.0 (saved_msr (access ∷ [])) →
    Made step (Only (access ∷ [])) a
    (record a { backend = after; saved_lsr = record { 0 = lsr }; saved_msr = record { 0 = msr } })
made_access step a after access lsr msr taken saves_lsr saves_msr = record {
  list = access ∷ [];
  path = (after, taken, refl);
  lsr = saves_lsr;
  msr = saves_msr;
  config = refl;
  fifo = refl;
  size = refl;
  limit = refl;
  fits = record { is = refl };
}

-- a read of a register of which nothing is saved
pub made_read : {B : Type 0} (step : B → Access → B → Type 0) (a : Uart16550 B) (after : B) (offset answer : ℕ) → offset ≢ offsets.LSR →
    offset ≢ offsets.MSR → step a.backend (Read offset answer) after →
    Made step (Only (Read offset answer ∷ [])) a (record a { backend = after })
made_read step a after offset answer not_lsr not_msr taken =
    let other_lsr : (offset == offsets.LSR) ≡ false = grind (arith, nat_tests) in
    let other_msr : (offset == offsets.MSR) ≡ false = grind (arith, nat_tests) in
    made_access step a after (Read offset answer) a.saved_lsr.0 a.saved_msr.0 taken
    (rw other_lsr (sym (or_zero_r a.saved_lsr.0))) (rw other_msr (sym (or_zero_r a.saved_msr.0)))

-- a write
pub made_write : {B : Type 0} (step : B → Access → B → Type 0) (a : Uart16550 B) (after : B) (offset value : ℕ) →
    step a.backend (Write offset value) after → Made step (Only (Write offset value ∷ [])) a (record a { backend = after })
made_write step a after offset value taken =
    made_access step a after (Write offset value) a.saved_lsr.0 a.saved_msr.0 taken
    (sym (or_zero_r a.saved_lsr.0)) (sym (or_zero_r a.saved_msr.0))

-- known accesses, and then others
pub made_only : {B : Type 0} {step : B → Access → B → Type 0} (xs ys : List Access) {a b c : Uart16550 B} → Made step (Only xs) a b →
    Made step (Only ys) b c → Made step (Only (xs ++ ys)) a c
made_only xs ys p q = made_among (λ l t. record { is = rw (t.whole, t.first.is, t.second.is) refl }) (made_then p q)

-- a known read shows these bits or not
pub made_asks : {B : Type 0} {step : B → Access → B → Type 0} (register answer bits : ℕ) (outcome : Bool) {a b : Uart16550 B} →
    Made step (Only (Read register answer ∷ [])) a b → has answer bits ≡ outcome → Made step (Asks register bits outcome) a b
made_asks register answer bits outcome p h = made_among (λ l t. record { answer = answer; shows = h; is = t.is }) p

-- a call for one more item
pub made_more : {A B : Type 0} {step : B → Access → B → Type 0} (P : A → Language) (items : List A) (item : A) {a b c : Uart16550 B} →
    Made step (InOrder P items) a b → Made step (P item) b c → Made step (InOrder P (items ++ item ∷ [])) a c
made_more P items item {a} p q =
    made_among (λ l t. rw t.whole (in_order_more P items item (settings a) t.front t.back t.first t.second)) (made_then p q)

-- a call for more items
pub made_append : {A B : Type 0} {step : B → Access → B → Type 0} (P : A → Language) (items more : List A) {a b c : Uart16550 B} →
    Made step (InOrder P items) a b → Made step (InOrder P more) b c → Made step (InOrder P (items ++ more)) a c
made_append P items more {a} p q =
    made_among (λ l t. rw t.whole (in_order_append P items more (settings a) t.front t.back t.first t.second)) (made_then p q)

-- one time more
pub made_times : {B : Type 0} {step : B → Access → B → Type 0} (n : ℕ) (P : Language) {a b c : Uart16550 B} → Made step (Times n P) a b →
    Made step P b c → Made step (Times (n + 1) P) a c
made_times n P {a} p q = made_among (λ l t. rw t.whole (times_more n P (settings a) t.front t.back t.first t.second)) (made_then p q)

-- fewer times than the limit
pub made_few : {B : Type 0} {step : B → Access → B → Type 0} (n : ℕ) (P : Language) {a b : Uart16550 B} → n < (settings a).limit →
    Made step (Times n P) a b → Made step (FewMisses P) a b
made_few n P few p = made_among (λ l t. (n, few, t)) p

-- a hit after no misses
pub made_at_once : {B : Type 0} {step : B → Access → B → Type 0} (P : Language) {Q : Language} {a b : Uart16550 B} → Made step Q a b →
    Made step (Then (FewMisses P) Q) a b
made_at_once P {a} p = made_then (made_few 0 P (omega (arith, a.spin_limit.ok)) made_none) p

-- a burst, after its wait
pub made_round : {B : Type 0} {step : B → Access → B → Type 0} (bytes : List ℕ) {a b c : Uart16550 B} → Made step (WaitsToSend true) a b →
    Made step (Only (data_writes bytes)) b c → Made step (Round bytes) a c
made_round bytes {a} p q = made_among (λ l t. then_later (FewMisses SendMiss) SendHit _ (settings a) l t) (made_then p q)

-- what is allowed if CTS is checked
pub made_checked : {B : Type 0} {step : B → Access → B → Type 0} {P Q : Language} {a b : Uart16550 B} → (settings a).checks ≡ true →
    Made step P a b → Made step (IfChecks P Q) a b
made_checked {P} {Q} {a} on p =
    made_among (λ l t. let M : Bool → Type 0 = λ v. MatchBool v (P (settings a) l) (Q (settings a) l) in subst M (sym on) t) p

-- accesses that show nothing to save leave the saved bits
pub lsr_kept : {B : Type 0} {step : B → Access → B → Type 0} (list : List Access) {a b : Uart16550 B} → saved_lsr list ≡ 0 →
    Made step (Only list) a b → b.saved_lsr.0 ≡ a.saved_lsr.0
lsr_kept list {a} none p =
    p.lsr ∙ ap (λ (l : List Access). bit_or a.saved_lsr.0 (saved_lsr l)) p.fits.is ∙ ap (bit_or a.saved_lsr.0) none ∙ or_zero_r _

pub msr_kept : {B : Type 0} {step : B → Access → B → Type 0} (list : List Access) {a b : Uart16550 B} → saved_msr list ≡ 0 →
    Made step (Only list) a b → b.saved_msr.0 ≡ a.saved_msr.0
msr_kept list {a} none p =
    p.msr ∙ ap (λ (l : List Access). bit_or a.saved_msr.0 (saved_msr l)) p.fits.is ∙ ap (bit_or a.saved_msr.0) none ∙ or_zero_r _

-- a status joined with the saved bits after its own read is the status joined with those before it
pub lsr_joined : {B : Type 0} {step : B → Access → B → Type 0} (status : ℕ) {a b : Uart16550 B} →
    Made step (Only (Read offsets.LSR status ∷ [])) a b → bit_or status b.saved_lsr.0 ≡ bit_or status a.saved_lsr.0
lsr_joined status {a} p =
    ap (bit_or status) (p.lsr ∙ ap (λ (l : List Access). bit_or a.saved_lsr.0 (saved_lsr l)) p.fits.is) ∙
    or_saved status a.saved_lsr.0 LSR.LINE_ERRORS.0

pub msr_joined : {B : Type 0} {step : B → Access → B → Type 0} (status : ℕ) {a b : Uart16550 B} →
    Made step (Only (Read offsets.MSR status ∷ [])) a b → bit_or status b.saved_msr.0 ≡ bit_or status a.saved_msr.0
msr_joined status {a} p =
    ap (bit_or status) (p.msr ∙ ap (λ (l : List Access). bit_or a.saved_msr.0 (saved_msr l)) p.fits.is) ∙
    or_saved status a.saved_msr.0 MSR.CHANGES.0

-- what the check may use to join calls
pub ruleset calls = (made_then, made_none, made_more, made_times, made_few, made_asks, made_only, made_checked)
