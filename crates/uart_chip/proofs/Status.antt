-- LSR as the parts of the chip keep it.
use Rattle.std.proofs.Common.{◌≡◌, ℕ, suc, ◌<◌, Bool, true, false, ◌&&◌, ◌==◌, List, [], ◌∷◌, ◌++◌, length, nat_lt, refl}
use Rattle.std.proofs.Common.{◌||◌, Option, Some, None, ◌∙◌, ap, sym, arith, bit_and, bit_or}
use Rattle.std.proofs.lemmas.Grind.{common_steps}
use Rattle.std.proofs.lemmas.Nat.Bits.{same_from_bits, bit_at_or}
use Rattle.std.specs.List.{list_any}
use lib.Bits.{or_zero_r}
use Rattle.uart_spec.specs.Bits.{flag}
use Rattle.uart_spec.specs.declared.registers.line_status.TheConstants.LSR
use Rattle.uart_chip.specs.declared.receiver.Character.{Character}
use Rattle.uart_chip.specs.declared.transmitter.Shifting.{Shifting}
use Rattle.uart_chip.specs.Receiver.{unreported, has_errors, front_errors}
use Rattle.uart_chip.specs.Chip.{ChipState, line_status, is_transmitter_empty}
use Rattle.uart_chip.specs.Jumps.{place_after}
use Rattle.uart_chip.specs.Status.{transmitter_status, receiver_status, fifo_status}
use Rattle.uart_chip.proofs.Bits.{or_assoc}

-- ---- the transmitter

not_zero : (n : ℕ) → (suc n == 0) ≡ false
not_zero n = grind (arith, common_steps)

above : (n : ℕ) → nat_lt 0 (suc n) ≡ true
above n = grind (arith, common_steps)

-- nothing is shown while a byte waits
pub busy : (xs : List ℕ) (place : Option Shifting) → 0 < length xs → 0 ≡ transmitter_status xs place
busy [] place some = absurd (omega (arith, some))
busy (x ∷ xs) place some = ap (λ (b : Bool). bit_or (flag b LSR.THR_EMPTY.0) 0) (sym (not_zero (length xs)))

-- how long a character still takes is not shown
pub same_place : (xs : List ℕ) (s t : Shifting) → transmitter_status xs (Some s) ≡ transmitter_status xs (Some t)
same_place [] s t = refl
same_place (x ∷ xs) s t = refl

pub same_after : (n : ℕ) (xs : List ℕ) (place : Option Shifting) → transmitter_status xs place ≡ transmitter_status xs (place_after n place)
same_after n xs None = refl
same_after n xs (Some s) = same_place xs s _

-- ---- the receiver

-- a character behind the front is not shown
pub same_front : (xs : List Character) (x : Character) (overrun reported : Bool) → 0 < length xs →
    receiver_status xs overrun reported ≡ receiver_status (xs ++ x ∷ []) overrun reported
same_front [] x overrun reported some = absurd (omega (arith, some))
same_front (y ∷ ys) x overrun reported some =
    ap (λ (b : Bool). bit_or (bit_or (flag b LSR.DATA_READY.0) (flag overrun LSR.OVERRUN_ERROR.0)) (front_errors (y ∷ ys) reported))
    (above (length ys) ∙ sym (above (length (ys ++ x ∷ []))))

-- of a character that is alone its errors are shown
pub alone : (x : Character) (status : ℕ) (overrun reported : Bool) → status ≡ receiver_status [] overrun reported →
    bit_or (bit_or status LSR.DATA_READY.0) (bit_and x.errors LSR.CHARACTER_ERRORS.0) ≡ receiver_status (x ∷ []) overrun false
alone x status true reported is = ap (λ (s : ℕ). bit_or (bit_or s LSR.DATA_READY.0) (bit_and x.errors LSR.CHARACTER_ERRORS.0)) is
alone x status false reported is = ap (λ (s : ℕ). bit_or (bit_or s LSR.DATA_READY.0) (bit_and x.errors LSR.CHARACTER_ERRORS.0)) is

-- one is lost
with_lost : (ready errors lost : ℕ) (overrun : Bool) →
    bit_or (bit_or (bit_or ready (flag overrun lost)) errors) lost ≡ bit_or (bit_or ready lost) errors
with_lost ready errors lost true =
    same_from_bits _ _
    (λ i. rw (
      bit_at_or (bit_or (bit_or ready lost) errors) lost i,
      bit_at_or (bit_or ready lost) errors i,
      bit_at_or ready lost i,
    ) (omega arith))
with_lost ready errors lost false =
    ap (λ (x : ℕ). bit_or (bit_or x errors) lost) (or_zero_r ready) ∙
    same_from_bits _ _
    (λ i. rw (
      bit_at_or (bit_or ready errors) lost i,
      bit_at_or ready errors i,
      bit_at_or (bit_or ready lost) errors i,
      bit_at_or ready lost i,
    ) (omega arith))

pub lost : (xs : List Character) (overrun reported : Bool) →
    bit_or (receiver_status xs overrun reported) LSR.OVERRUN_ERROR.0 ≡ receiver_status xs true reported
lost xs overrun reported =
    with_lost (flag (nat_lt 0 (length xs)) LSR.DATA_READY.0) (front_errors xs reported) LSR.OVERRUN_ERROR.0 overrun

-- after a read of LSR only whether a character waits is shown
pub reported_some : (xs : List Character) → 0 < length xs → LSR.DATA_READY.0 ≡ receiver_status xs false true
reported_some [] some = absurd (omega (arith, some))
reported_some (x ∷ xs) some = ap (λ (b : Bool). bit_or (bit_or (flag b LSR.DATA_READY.0) 0) 0) (sym (above (length xs)))

pub reported_none : (reported : Bool) → 0 ≡ receiver_status [] false reported
reported_none reported = refl

-- of an empty receiver only whether a character was lost is shown
pub cleared : (overrun reported : Bool) → flag overrun LSR.OVERRUN_ERROR.0 ≡ receiver_status [] overrun reported
cleared true reported = refl
cleared false reported = refl

-- ---- LSR

regroup : (a b c d e f : ℕ) →
    bit_or (bit_or (bit_or (bit_or a b) c) (bit_or d e)) f ≡ bit_or (bit_or (bit_or a b) (bit_or c d)) (bit_or e f)
regroup a b c d e f =
    or_assoc (bit_or (bit_or a b) c) (bit_or d e) f ∙ (or_assoc (bit_or a b) c (bit_or (bit_or d e) f) ∙
    (ap (λ (x : ℕ). bit_or (bit_or a b) (bit_or c x)) (or_assoc d e f) ∙
    (ap (λ (x : ℕ). bit_or (bit_or a b) x) (sym (or_assoc c d (bit_or e f))) ∙
    sym (or_assoc (bit_or a b) (bit_or c d) (bit_or e f)))))

-- LSR is what the parts show
pub joins : (c : ChipState) (result r t f : ℕ) → result ≡ bit_or (bit_or r t) f →
    r ≡ receiver_status c.receiver.queue c.receiver.is_overrun c.receiver.is_front_reported →
    t ≡ transmitter_status c.transmitter.queue c.transmitter.shift_register →
    f ≡ fifo_status c.fifo c.receiver.queue c.receiver.is_front_reported → result ≡ line_status c
joins c result r t f is receiver transmitter fifo =
    is ∙ (ap (λ (x : ℕ). bit_or (bit_or x t) f) receiver ∙
    (ap (λ (x : ℕ). bit_or (bit_or (receiver_status c.receiver.queue c.receiver.is_overrun c.receiver.is_front_reported) x) f) transmitter ∙
    (ap (λ (x : ℕ). bit_or (bit_or (receiver_status c.receiver.queue c.receiver.is_overrun c.receiver.is_front_reported)
    (transmitter_status c.transmitter.queue c.transmitter.shift_register)) x) fifo ∙
    regroup (flag (nat_lt 0 (length c.receiver.queue)) LSR.DATA_READY.0) (flag c.receiver.is_overrun LSR.OVERRUN_ERROR.0)
    (front_errors c.receiver.queue c.receiver.is_front_reported) (flag (length c.transmitter.queue == 0) LSR.THR_EMPTY.0)
    (flag (is_transmitter_empty c.transmitter.queue c.transmitter.shift_register) LSR.TRANSMITTER_EMPTY.0)
    (fifo_status c.fifo c.receiver.queue c.receiver.is_front_reported))))

-- without errors nothing more is shown than what the parts keep
quiet : (xs : List Character) (reported : Bool) → false ≡ list_any has_errors xs → false ≡ list_any has_errors (unreported xs reported)
quiet [] true e = refl
quiet [] false e = refl
quiet (x ∷ xs) false e = e
quiet (x ∷ xs) true e = tail (has_errors x) (list_any has_errors xs) e
  where
    tail : (a b : Bool) → false ≡ (a || b) → false ≡ b
    tail false b e = e
    tail true b e = absurd cc

pub shows : (c : ChipState) (result r t : ℕ) → result ≡ bit_or r t →
    r ≡ receiver_status c.receiver.queue c.receiver.is_overrun c.receiver.is_front_reported →
    t ≡ transmitter_status c.transmitter.queue c.transmitter.shift_register → false ≡ list_any has_errors c.receiver.queue →
    result ≡ line_status c
shows c result r t is receiver transmitter none =
    joins c result r t 0 (is ∙ sym (or_zero_r (bit_or r t))) receiver transmitter
    (both c.fifo (list_any has_errors (unreported c.receiver.queue c.receiver.is_front_reported))
    (quiet c.receiver.queue c.receiver.is_front_reported none))
  where
    both : (a b : Bool) → false ≡ b → 0 ≡ flag (a && b) LSR.FIFO_DATA_ERROR.0
    both true false e = refl
    both false false e = refl
    both a true e = absurd cc
