-- What a part of a session does to the modem lines: each change was seen, or is still in the register.
use Rattle.std.proofs.Common.{◌≡◌, ℕ, min, max, false, List, [], ◌∷◌, ◌++◌, refl, arith, sym, ◌∙◌, ap, bit_and, bit_or}
use Rattle.std.proofs.lemmas.Nat.Bits.{same_from_bits, bit_at_or, bit_at_and, bit_at-zero}
use Rattle.std.specs.Int.{bit_at}
use lib.Bits.{or_zero_r}
use Rattle.uart_events.specs.declared.event.Event.{Event}
use Rattle.uart_events.specs.declared.event.Event.TheVariants.{Lines}
use Rattle.uart_spec.specs.Bits.{IsWithin, has_any}
use Rattle.uart_spec.specs.declared.registers.modem_status.TheConstants.MSR
use Rattle.uart_spec.specs.declared.registers.modem_control.TheConstants.MCR
use Rattle.uart_spec.specs.Lines.{line_changes}
use Rattle.uart_chip.specs.Modem.{ModemState, renew, lines_under}
use Rattle.uart_chip.specs.Laws.{lines_after, changes_in}
use Rattle.uart_chip.specs.Sound.{IsSoundModem}
use Rattle.uart_chip.proofs.Bits.{or_assoc}

pub lines_after-append : (lines : ℕ) (xs ys : List Event) → lines_after lines (xs ++ ys) ≡ lines_after (lines_after lines xs) ys
lines_after-append lines [] ys = refl
lines_after-append lines (Lines inputs ∷ xs) ys = lines_after-append inputs xs ys
lines_after-append lines (_ ∷ xs) ys = lines_after-append lines xs ys

pub changes_in-append : (lines : ℕ) (xs ys : List Event) →
    changes_in lines (xs ++ ys) ≡ bit_or (changes_in lines xs) (changes_in (lines_after lines xs) ys)
changes_in-append lines [] ys = refl
changes_in-append lines (Lines inputs ∷ xs) ys =
    ap (bit_or (line_changes lines inputs)) (changes_in-append inputs xs ys) ∙
    sym (or_assoc (line_changes lines inputs) (changes_in inputs xs) (changes_in (lines_after inputs xs) ys))
changes_in-append lines (_ ∷ xs) ys = changes_in-append lines xs ys

-- from m to n these events came, and the modem status showed these changes
pub record LinesChanged (m n : ModemState) (events : List Event) (seen : ℕ) : Type 0 where
  pub lines : n.lines ≡ lines_after m.lines events
  pub deltas : bit_or seen n.deltas ≡ bit_or m.deltas (changes_in m.lines events)

pub changed-refl : (m : ModemState) → LinesChanged m m [] 0
changed-refl m = record { lines = refl; deltas = sym (or_zero_r m.deltas) }

pub changed-trans : (m n o : ModemState) (xs ys : List Event) (a b : ℕ) →
    LinesChanged m n xs a → LinesChanged n o ys b → LinesChanged m o (xs ++ ys) (bit_or a b)
changed-trans m n o xs ys a b p q = record {
  lines = q.lines ∙ (ap (λ l. lines_after l ys) p.lines ∙ sym (lines_after-append m.lines xs ys));
  deltas =
      let later : bit_or b o.deltas ≡ bit_or n.deltas (changes_in (lines_after m.lines xs) ys) =
      q.deltas ∙ ap (λ l. bit_or n.deltas (changes_in l ys)) p.lines in
      or_assoc a b o.deltas ∙ (ap (bit_or a) later ∙ (sym (or_assoc a n.deltas (changes_in (lines_after m.lines xs) ys)) ∙
      (ap (λ d. bit_or d (changes_in (lines_after m.lines xs) ys)) p.deltas ∙
      (or_assoc m.deltas (changes_in m.lines xs) (changes_in (lines_after m.lines xs) ys) ∙
      ap (bit_or m.deltas) (sym (changes_in-append m.lines xs ys))))));
}

-- the inputs change, outside of loopback
pub changed-lines : (mcr inputs : ℕ) (m : ModemState) → has_any mcr MCR.LOOP_BACK.0 ≡ false →
    LinesChanged m (renew mcr (record m { inputs = inputs })) (Lines inputs ∷ []) 0
changed-lines mcr inputs m e =
    let same : lines_under mcr inputs ≡ inputs = rw e refl in
    record {
      lines = same;
      deltas = ap (λ l. bit_or m.deltas (line_changes m.lines l)) same
          ∙ ap (bit_or m.deltas) (sym (or_zero_r (line_changes m.lines inputs)));
    }

-- the low nibble of the modem status is the changes
status_deltas : (lines deltas : ℕ) → IsWithin lines MSR.LINES.0 → IsWithin deltas MSR.CHANGES.0 →
    bit_and (bit_or lines deltas) MSR.CHANGES.0 ≡ deltas
status_deltas lines deltas p q = same_from_bits _ _ (λ i. at i)
  where
    at : (i : ℕ) → bit_at (bit_and (bit_or lines deltas) MSR.CHANGES.0) i ≡ bit_at deltas i
    at i =
        let high : bit_at lines i ≡ min (bit_at lines i) (bit_at MSR.LINES.0 i) =
        ap (λ n. bit_at n i) (sym p) ∙ bit_at_and lines MSR.LINES.0 i in
        let low : bit_at deltas i ≡ min (bit_at deltas i) (bit_at MSR.CHANGES.0 i) =
        ap (λ n. bit_at n i) (sym q) ∙ bit_at_and deltas MSR.CHANGES.0 i in
        let apart : min (bit_at MSR.LINES.0 i) (bit_at MSR.CHANGES.0 i) ≡ 0 =
        sym (bit_at_and MSR.LINES.0 MSR.CHANGES.0 i) ∙ bit_at-zero i in
        bit_at_and (bit_or lines deltas) MSR.CHANGES.0 i ∙ (ap (λ n. min n (bit_at MSR.CHANGES.0 i)) (bit_at_or lines deltas i) ∙
        joined (bit_at lines i) (bit_at deltas i) (bit_at MSR.LINES.0 i) (bit_at MSR.CHANGES.0 i) high low apart)
      where
        joined : (a b h l : ℕ) → a ≡ min a h → b ≡ min b l → min h l ≡ 0 → min (max a b) l ≡ b
        joined a b h l p q r = omega arith

-- the modem status is read
pub changed-status : (m : ModemState) (status : ℕ) → IsSoundModem m → status ≡ bit_or m.lines m.deltas →
    LinesChanged m (record m { deltas = 0 }) [] (bit_or (bit_and status MSR.CHANGES.0) 0)
changed-status m status w e = record {
  lines = refl;
  deltas = or_zero_r _ ∙
      (or_zero_r _ ∙ (ap (λ v. bit_and v MSR.CHANGES.0) e ∙ (status_deltas m.lines m.deltas w.lines w.deltas ∙ sym (or_zero_r m.deltas))));
}
