-- Checks of the chip, one after another.
use mathlib.Core.Bool.{beq, not}
use Rattle.std.proofs.Common.{◌≡◌, ◌+◌, ◌*◌, ℕ, Bool, true, false, [], ◌∷◌, refl, sym, inl, inr, Ok, Err, Some}
use Rattle.uart_spec.specs.declared.access.Access.{Access}
use Rattle.uart_spec.specs.declared.access.Access.TheVariants.{Read}
use Rattle.uart_spec.specs.declared.config.Config.{Config}
use Rattle.uart_spec.specs.declared.errors.ConfigurationError.{ConfigurationError}
use Rattle.uart_spec.specs.declared.registers.offsets.TheConstants as offsets
use Rattle.uart_16550.specs.Grammar.{Language, Only}
use Rattle.uart_16550.specs.Frame.{unlooped}
use Rattle.uart_16550.specs.Init.{frame_bits}
use Rattle.uart_16550.specs.Configured.{Verdict, InTurn, KeepsLine, OpensLatch, IsDivisor, ReadsLatch, ShowsDivisor, ShowsAll}
use Rattle.uart_16550.specs.Configured.{IsDivisorIfAny, ChecksConfigured}
use Rattle.uart_16550.specs.Driver.{Made}
use Rattle.uart_16550.specs.declared.driver.Uart16550.{Uart16550}
use Rattle.uart_16550.proofs.Making.{made_then, made_among}
use Rattle.uart_16550.proofs.determined.Parting.{not_both}

-- two switches that a test found to be the same, or not
pub same_switch : (a b : Bool) → not (beq a b) ≡ false → a ≡ b
same_switch true true p = refl
same_switch true false p = p
same_switch false true p = sym p
same_switch false false p = refl

pub other_switch : (a b : Bool) → not (beq a b) ≡ true → a ≡ b → ⊥
other_switch true true p q = not_both (sym p)
other_switch true false p q = not_both q
other_switch false true p q = not_both (sym q)
other_switch false false p q = not_both (sym p)

-- the first check found something
pub made_found : {B : Type 0} {step : B → Access → B → Type 0} (P Q : Verdict → Language) (e : ConfigurationError) {a b : Uart16550 B} →
    Made step (P (Err e)) a b → Made step (InTurn P Q (Err e)) a b
made_found P Q e p = made_among (λ l t. inl t) p

-- the first check found nothing, and then the second was made
pub made_passed : {B : Type 0} {step : B → Access → B → Type 0} (P Q : Verdict → Language) (found : Verdict) {a b c : Uart16550 B} →
    Made step (P (Ok tt)) a b → Made step (Q found) b c → Made step (InTurn P Q found) a c
made_passed P Q (Ok x) p q = made_then p q
made_passed P Q (Err e) p q = made_among (λ l t. inr t) (made_then p q)

-- the latch was opened, read and closed
pub latch_read : {B : Type 0} {step : B → Access → B → Type 0} (divisor lcr low high : ℕ) (found : Verdict) {a b c d e : Uart16550 B} →
    Made step (Only (Read offsets.LCR lcr ∷ [])) a b → Made step (OpensLatch lcr (Ok tt)) b c →
    Made step (Only (Read offsets.DLL low ∷ Read offsets.DLM high ∷ [])) c d →
    Made step (InTurn (KeepsLine lcr) (IsDivisor divisor (256 * high + low)) found) d e → Made step (ShowsDivisor divisor found) a e
latch_read divisor lcr low high found p q r t =
    made_among (λ l w. (lcr, w))
    (made_then p
    (made_passed (OpensLatch lcr) (ReadsLatch divisor lcr) found q (made_among (λ l w. (low, high, w)) (made_then r t))))

-- all registers were checked
pub configured : {B : Type 0} {step : B → Access → B → Type 0} (config : Config) (outputs divisor frame written : ℕ) (found : Verdict)
    {a b : Uart16550 B} → IsDivisorIfAny config (Some divisor) → frame ≡ frame_bits config → written ≡ unlooped outputs →
    Made step (ShowsAll frame written config.interrupts.0 divisor found) a b → Made step (ChecksConfigured config outputs found) a b
configured config outputs divisor frame written (Ok x) given p q m = made_among (λ l t. (divisor, given, rw (p, q) at t)) m
configured config outputs divisor frame written (Err e) given p q m = made_among (λ l t. inr (divisor, given, rw (p, q) at t)) m
