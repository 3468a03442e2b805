-- Bits of registers under masks, and bits of LSR and MSR that are saved, noted and returned.
use Rattle.std.proofs.Common.{◌≡◌, ℕ, Bool, true, false, ◌==◌, List, [], ◌∷◌, ◌++◌, sym, ◌∙◌, ap, arith, bit_and, bit_or, refl}
use Rattle.std.proofs.Common.{if◌then◌else◌}
use Rattle.std.proofs.lemmas.Nat.Bits.{same_from_bits, bit_at_or, bit_at_and}
use Rattle.std.specs.Int.Bits.{and_zero_l}
use lib.Bits.{or_zero_r}
use Rattle.bitflags.specs.Sets.{known_bits, known_from}
use Rattle.uart_spec.specs.Access.{saved, saved_of, saved_lsr, saved_msr}
use Rattle.uart_spec.specs.declared.access.Access.{Access}
use Rattle.uart_spec.specs.declared.access.Access.TheVariants.{Read, Write}
use Rattle.uart_spec.specs.declared.registers.line_status.TheConstants.LSR
use Rattle.uart_spec.specs.declared.registers.modem_status.TheConstants.MSR
use Rattle.uart_spec.specs.declared.registers.offsets.TheConstants as offsets
use Rattle.uart_16550.proofs.Paths.{or_assoc, saved-append}

-- a mask of a join, a mask twice, and one mask after another
pub and_or : (a b mask : ℕ) → bit_and (bit_or a b) mask ≡ bit_or (bit_and a mask) (bit_and b mask)
and_or a b mask = same_from_bits _ _ (λ i. simp (bit_at_and, bit_at_or) (omega arith))

and_twice : (a mask : ℕ) → bit_and (bit_and a mask) mask ≡ bit_and a mask
and_twice a mask = same_from_bits _ _ (λ i. simp bit_at_and (omega arith))

pub and_assoc : (a mask other : ℕ) → bit_and (bit_and a mask) other ≡ bit_and a (bit_and mask other)
and_assoc a mask other = same_from_bits _ _ (λ i. simp bit_at_and (omega arith))

-- what was joined is there
pub or_and : (a bits : ℕ) → bit_and (bit_or a bits) bits ≡ bits
or_and a bits = same_from_bits _ _ (λ i. simp (bit_at_and, bit_at_or) (omega arith))

-- what is saved of a list lies within the mask
saved_of-within : (register mask : ℕ) (access : Access) → bit_and (saved_of register mask access) mask ≡ saved_of register mask access
saved_of-within register mask (Read offset answer) = go (offset == register)
  where
    go : (b : Bool) → bit_and (if b then bit_and answer mask else 0) mask ≡ (if b then bit_and answer mask else 0)
    go true = and_twice answer mask
    go false = and_zero_l mask
saved_of-within register mask (Write offset value) = and_zero_l mask

saved-within : (register mask : ℕ) (l : List Access) → bit_and (saved register mask l) mask ≡ saved register mask l
saved-within register mask [] = and_zero_l mask
saved-within register mask (access ∷ l) =
    and_or (saved_of register mask access) (saved register mask l) mask
    ∙ (λ i. bit_or (saved_of-within register mask access i) (saved-within register mask l i))

pub saved_lsr-within : (l : List Access) → bit_and (saved_lsr l) LSR.LINE_ERRORS.0 ≡ saved_lsr l
saved_lsr-within l = saved-within offsets.LSR LSR.LINE_ERRORS.0 l

pub saved_msr-within : (l : List Access) → bit_and (saved_msr l) MSR.CHANGES.0 ≡ saved_msr l
saved_msr-within l = saved-within offsets.MSR MSR.CHANGES.0 l

-- what is saved of two lists in turn
pub saved_lsr-append : (l m : List Access) → saved_lsr (l ++ m) ≡ bit_or (saved_lsr l) (saved_lsr m)
saved_lsr-append l m = saved-append offsets.LSR LSR.LINE_ERRORS.0 l m

pub saved_msr-append : (l m : List Access) → saved_msr (l ++ m) ≡ bit_or (saved_msr l) (saved_msr m)
saved_msr-append l m = saved-append offsets.MSR MSR.CHANGES.0 l m

-- what is still to be returned, after more was saved
pub more_saved : (noted kept more mask : ℕ) → bit_and more mask ≡ more →
    bit_and (bit_or noted (bit_or kept more)) mask ≡ bit_or (bit_and (bit_or noted kept) mask) more
more_saved noted kept more mask within =
    ap (λ n. bit_and n mask) (sym (or_assoc noted kept more))
    ∙ (and_or (bit_or noted kept) more mask ∙ ap (bit_or (bit_and (bit_or noted kept) mask)) within)

-- what is still to be returned, after a status was noted, joined with what was kept of it
pub now_noted : (noted kept status mask : ℕ) →
    bit_and (bit_or (bit_or noted (bit_and (bit_or status kept) mask)) 0) mask
    ≡ bit_or (bit_and (bit_or noted kept) mask) (bit_or (bit_and status mask) 0)
now_noted noted kept status mask = same_from_bits _ _ (λ i. simp (or_zero_r, bit_at_and, bit_at_or) (omega arith))

-- what is returned with a status, joined with what was kept and noted of it
pub now_told : (noted kept status mask : ℕ) →
    bit_and (bit_or (bit_or status kept) noted) mask
    ≡ bit_or (bit_and (bit_or noted kept) mask) (bit_or (bit_and status mask) 0)
now_told noted kept status mask = same_from_bits _ _ (λ i. simp (or_zero_r, bit_at_and, bit_at_or) (omega arith))

-- eight names, one for each bit, have all bits
pub eight_bits : (a b c d e f g h : List ℕ) →
    known_bits ((a, 1) ∷ (b, 2) ∷ (c, 4) ∷ (d, 8) ∷ (e, 16) ∷ (f, 32) ∷ (g, 64) ∷ (h, 128) ∷ []) ≡ 255
unfolding known_from
eight_bits a b c d e f g h = refl
