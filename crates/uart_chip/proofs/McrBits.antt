-- What MCR keeps of a chip that has automatic flow control, or has not.
use Rattle.std.proofs.Common.{◌≡◌, ℕ, ◌*◌, ◌^◌, ◌<◌, zero, suc, Bool, true, false, not, ◌&&◌, ◌==◌, refl, arith, sym, ◌∙◌, ap, bit_and}
use Rattle.std.proofs.Common.{bit_or}
use Rattle.std.specs.Int.{bit_at}
use Rattle.std.proofs.lemmas.Nat.{and_assoc}
use Rattle.std.proofs.lemmas.Nat.Bits.{same_from_bits, bit_at_or, bit_at_and, and_pow, bit_at-lt}
use lib.Bits.{or_zero_r}
use Rattle.uart_spec.specs.Bits.{IsWithin, has_any, flag}
use Rattle.uart_spec.specs.declared.registers.modem_control.TheConstants.MCR
use Rattle.uart_chip.specs.Masks.{mcr_bits, mcr_bits_of, kept_mcr}
use Rattle.uart_chip.proofs.Bits.{has_and, has_not}
use Rattle.uart_chip.proofs.soundness.Within.{within_and}

-- ---- as a mask

no_and : (b : Bool) → (b && false) ≡ false
no_and true = refl
no_and false = refl

yes_and : (b : Bool) → (b && true) ≡ b
yes_and true = refl
yes_and false = refl

-- the one without it keeps the outputs and loopback
pub kept_without : (value : ℕ) → kept_mcr false value ≡ bit_and value mcr_bits
kept_without value =
    ap (λ (b : Bool). bit_or (bit_and value mcr_bits) (flag b 32)) (no_and (has_any value 32)) ∙ or_zero_r (bit_and value mcr_bits)

-- a single bit, as a mask leaves it
one_bit : (value : ℕ) → flag (has_any value (2 ^ 5)) (2 ^ 5) ≡ bit_and value (2 ^ 5)
one_bit value = rw (and_pow value 5) (digit (bit_at value 5) (bit_at-lt value 5))
  where
    digit : (v : ℕ) → v < 2 → flag (not (v * 2 ^ 5 == 0)) (2 ^ 5) ≡ v * 2 ^ 5
    digit zero h = refl
    digit (suc zero) h = refl
    digit (suc (suc v)) h = absurd (omega arith)

parted : (value : ℕ) → bit_and value (bit_or mcr_bits 32) ≡ bit_or (bit_and value mcr_bits) (bit_and value 32)
parted value = same_from_bits _ _ (λ i. simp (bit_at_and, bit_at_or) (omega arith))

-- and the one with it its bit too
pub kept_all : (value : ℕ) → kept_mcr true value ≡ bit_and value (mcr_bits_of true)
kept_all value =
    ap (λ (b : Bool). bit_or (bit_and value mcr_bits) (flag b 32)) (yes_and (has_any value 32)) ∙
    (ap (bit_or (bit_and value mcr_bits)) (one_bit value) ∙ sym (parted value))

pub kept_masked : (auto_flow : Bool) (value : ℕ) → kept_mcr auto_flow value ≡ bit_and value (mcr_bits_of auto_flow)
kept_masked true value = kept_all value
kept_masked false value = kept_without value

-- ---- what it can hold

pub kept_within : (auto_flow : Bool) (value : ℕ) → IsWithin (kept_mcr auto_flow value) (mcr_bits_of auto_flow)
kept_within auto_flow value =
    ap (λ (v : ℕ). bit_and v (mcr_bits_of auto_flow)) (kept_masked auto_flow value) ∙
    (within_and value (mcr_bits_of auto_flow) ∙ sym (kept_masked auto_flow value))

-- what the one without it can hold, each can
pub within_any : (auto_flow : Bool) (value : ℕ) → IsWithin value mcr_bits → IsWithin value (mcr_bits_of auto_flow)
within_any false value w = w
within_any true value w = ap (λ (v : ℕ). bit_and v (mcr_bits_of true)) (sym w) ∙ (and_assoc (mcr_bits_of true) value mcr_bits ∙ w)

-- what any can hold, the one with it can
pub within_flowing : (auto_flow : Bool) (value : ℕ) → IsWithin value (mcr_bits_of auto_flow) → IsWithin value (mcr_bits_of true)
within_flowing true value w = w
within_flowing false value w = within_any true value w

-- what it can hold, it keeps
pub kept_same : (auto_flow : Bool) (value : ℕ) → IsWithin value (mcr_bits_of auto_flow) → kept_mcr auto_flow value ≡ value
kept_same auto_flow value w = kept_masked auto_flow value ∙ w

-- ---- its bits

-- a bit that each chip keeps is there as it was written
pub kept_bit : (auto_flow : Bool) (k value : ℕ) → bit_at mcr_bits k ≡ 1 → bit_at (mcr_bits_of true) k ≡ 1 →
    has_any (kept_mcr auto_flow value) (2 ^ k) ≡ has_any value (2 ^ k)
kept_bit false k value e f = ap (λ (v : ℕ). has_any v (2 ^ k)) (kept_without value) ∙ has_and k value mcr_bits e
kept_bit true k value e f = ap (λ (v : ℕ). has_any v (2 ^ k)) (kept_all value) ∙ has_and k value (mcr_bits_of true) f

-- the bit of automatic flow control is there only in a chip that has it
pub flow_bit : (auto_flow : Bool) (value : ℕ) →
    has_any (kept_mcr auto_flow value) MCR.AUTO_FLOW.0 ≡ (has_any value MCR.AUTO_FLOW.0 && auto_flow)
flow_bit true value =
    ap (λ (v : ℕ). has_any v MCR.AUTO_FLOW.0) (kept_all value) ∙
    (has_and 5 value (mcr_bits_of true) refl ∙ sym (yes_and (has_any value MCR.AUTO_FLOW.0)))
flow_bit false value =
    ap (λ (v : ℕ). has_any v MCR.AUTO_FLOW.0) (kept_without value) ∙
    (has_not 5 value mcr_bits refl ∙ sym (no_and (has_any value MCR.AUTO_FLOW.0)))
