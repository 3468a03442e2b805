-- `check_configured` is determined.
use Rattle.std.proofs.Common.{◌≡◌, ◌+◌, ◌*◌, ℕ, Bool, true, false, List, [], ◌∷◌, refl, sym, ◌∙◌, ap, subst, inl, inr, Result, Ok, Err}
use Rattle.std.proofs.Common.{◌⊎◌, bit_or, Some, None}
use Rattle.uart_spec.specs.Bits.{has}
use Rattle.uart_spec.specs.declared.access.Access.{Access}
use Rattle.uart_spec.specs.declared.access.Access.TheVariants.{Read, Write}
use Rattle.uart_spec.specs.declared.config.Config.{Config}
use Rattle.uart_spec.specs.declared.errors.ConfigurationError.{ConfigurationError}
use Rattle.uart_spec.specs.declared.errors.ConfigurationError.TheVariants.{NoDivisor, LineControl, ModemControl}
use Rattle.uart_spec.specs.declared.errors.ConfigurationError.TheVariants.{Interrupts, Divisor, Fifos}
use Rattle.bitflags.specs.Sets.{without}
use Rattle.uart_spec.specs.declared.registers.interrupt_status.TheConstants.ISR
use Rattle.uart_spec.specs.declared.registers.line_control.TheConstants.LCR
use Rattle.uart_spec.specs.declared.registers.offsets.TheConstants as offsets
use Rattle.uart_16550.specs.Frame.{unlooped}
use Rattle.uart_16550.specs.Init.{frame_bits}
use Rattle.uart_16550.specs.Grammar.{Language, Settings, Only, Then}
use Rattle.uart_16550.specs.Configured.{Verdict, Shows, InTurn, ShowsFrame, ShowsOutputs, ShowsInterrupts, KeepsLine, OpensLatch}
use Rattle.uart_16550.specs.Configured.{IsDivisor, ReadsLatch, ShowsDivisor, ShowsFifos, ShowsAll, IsDivisorIfAny, ChecksConfigured}
use Rattle.uart_16550.proofs.determined.Parting.{SameOrPart, Determined, so, so_is, so_read, so_write, so_reads, not_both}
use Rattle.uart_16550.proofs.determined.Parting.{determined_so, determined_sym, determined_then, determined_front, determined_only}
use Rattle.uart_16550.proofs.determined.Parting.{determined_either, read_determined}
use Rattle.uart_16550.proofs.determined.Init.{divisor_one, no_divisor}

-- verdicts
abbrev failed : ConfigurationError → Verdict
failed e = Err e

failed_same : (d e : ConfigurationError) → d ≡ e → failed d ≡ failed e
failed_same d e same = ap failed same

abbrev passes : Verdict → Bool
passes (Ok x) = true
passes (Err e) = false

passed_failed : (x : Unit {0}) (e : ConfigurationError) → ◌≡◌ {A = Verdict} (Ok x) (Err e) → ⊥
passed_failed x e same = not_both (ap passes same)

-- a check that gives two verdicts on one list gives one
abbrev Decides : Settings → (Verdict → Language) → Type 0
Decides s P = (a b : Verdict) → Determined (a ≡ b) (P a s) (P b s)

-- what passes and what fails part
apart : (s : Settings) (P : Verdict → Language) → Decides s P → (x : Unit {0}) (e : ConfigurationError) →
    Determined ⊥ (P (Ok x) s) (P (Err e) s)
apart s P p x e = determined_so (passed_failed x e) (p (Ok x) (Err e))

-- one read of a register
shows_determined : (s : Settings) (register : ℕ) (IsRight : ℕ → Type 0) (fault : ℕ → ConfigurationError) →
    Decides s (Shows register IsRight fault)
shows_determined s register IsRight fault (Ok x) (Ok y) = record { at = λ l m p q. so_is p.2 q.2 (so (λ t. refl) so_reads) }
shows_determined s register IsRight fault (Ok x) (Err e) = record {
  at = λ l m p q. so_is p.2 q.3 (so (λ same. absurd (q.1 (subst IsRight same p.1))) so_reads);
}
shows_determined s register IsRight fault (Err d) (Ok y) = record {
  at = λ l m p q. so_is p.3 q.2 (so (λ same. absurd (p.1 (subst IsRight (sym same) q.1))) so_reads);
}
shows_determined s register IsRight fault (Err d) (Err e) = record {
  at = λ l m p q. so_is p.3 q.3 (so (λ same. failed_same d e (p.2 ∙ ap fault same ∙ sym q.2)) so_reads);
}

-- two checks in turn
in_turn_determined : (s : Settings) (P Q : Verdict → Language) → Decides s P → Decides s Q → Decides s (InTurn P Q)
in_turn_determined s P Q p q = at
  where
    -- the first fails in the one, and not in the other
    fails : (e : ConfigurationError) (found : Verdict) → Determined ⊥ (Then (P (Ok tt)) (Q found) s) (P (Err e) s)
    fails e found = determined_front (apart s P p tt e)

    both : (a b : Verdict) → Determined (a ≡ b) (Then (P (Ok tt)) (Q a) s) (Then (P (Ok tt)) (Q b) s)
    both a b = determined_then (p (Ok tt) (Ok tt)) (λ t. q a b)

    failing : (d e : ConfigurationError) (l m : List Access) → InTurn P Q (Err d) s l → InTurn P Q (Err e) s m →
        SameOrPart (failed d ≡ failed e) l m
    failing d e l m (inl t) (inl w) = (p (Err d) (Err e)).at l m t w
    failing d e l m (inl t) (inr w) = (determined_sym (fails d (Err e))).at l m t w
    failing d e l m (inr t) (inl w) = (determined_so absurd (fails e (Err d))).at l m t w
    failing d e l m (inr t) (inr w) = (both (Err d) (Err e)).at l m t w

    parted : (e : ConfigurationError) → Determined ⊥ (InTurn P Q (Err e) s) (Then (P (Ok tt)) (Q (Ok tt)) s)
    parted e = determined_either (determined_sym (fails e (Ok tt)))
        (determined_so (λ same. passed_failed tt e (sym same)) (both (Err e) (Ok tt)))

    at : (a b : Verdict) → Determined (a ≡ b) (InTurn P Q a s) (InTurn P Q b s)
    at (Ok x) (Ok y) = both (Ok tt) (Ok tt)
    at (Ok x) (Err e) = determined_sym (parted e)
    at (Err d) (Ok y) = determined_so absurd (parted d)
    at (Err d) (Err e) = record { at = failing d e }

-- LCR written and read back
keeps_determined : (s : Settings) (value : ℕ) → Decides s (KeepsLine value)
keeps_determined s value a b =
    determined_then (determined_only refl)
    (λ t. shows_determined s offsets.LCR (λ shown. shown ≡ value)
    (λ shown. LineControl (record { 0 = value }) (record { 0 = shown })) a b)

-- the latch
opens_determined : (s : Settings) (lcr : ℕ) → Decides s (OpensLatch lcr)
opens_determined s lcr = at
  where
    opened : ℕ
    opened = bit_or lcr LCR.DLAB.0

    fails : (x : Unit {0}) (e : ConfigurationError) →
        Determined ⊥ (Then (KeepsLine opened (Err e)) (Only (Write offsets.LCR lcr ∷ [])) s) (KeepsLine opened (Ok x) s)
    fails x e = determined_front (determined_sym (apart s (KeepsLine opened) (keeps_determined s opened) x e))

    at : (a b : Verdict) → Determined (a ≡ b) (OpensLatch lcr a s) (OpensLatch lcr b s)
    at (Ok x) (Ok y) = keeps_determined s opened (Ok x) (Ok y)
    at (Ok x) (Err e) = determined_sym (fails x e)
    at (Err d) (Ok y) = determined_so absurd (fails y d)
    at (Err d) (Err e) =
        determined_then (keeps_determined s opened (Err d) (Err e)) (λ same. determined_so (λ t. same) (determined_only refl))

compares_determined : (s : Settings) (divisor shown : ℕ) → Decides s (IsDivisor divisor shown)
compares_determined s divisor shown (Ok x) (Ok y) = record { at = λ l m p q. inl (refl, p.1 ∙ sym q.1) }
compares_determined s divisor shown (Ok x) (Err e) = record { at = λ l m p q. absurd (q.0 p.0) }
compares_determined s divisor shown (Err d) (Ok y) = record { at = λ l m p q. absurd (p.0 q.0) }
compares_determined s divisor shown (Err d) (Err e) =
    record { at = λ l m p q. inl (failed_same d e (p.1 ∙ sym q.1), p.2 ∙ sym q.2) }

bytes_determined : (s : Settings) (low high low' high' : ℕ) →
    Determined ((low ≡ low') × (high ≡ high')) (Only (Read offsets.DLL low ∷ Read offsets.DLM high ∷ []) s)
    (Only (Read offsets.DLL low' ∷ Read offsets.DLM high' ∷ []) s)
bytes_determined s low high low' high' = record { at = λ l m p q. so_is p.is q.is (so_read (λ same. so_reads)) }

reads_latch_determined : (s : Settings) (divisor lcr : ℕ) → Decides s (ReadsLatch divisor lcr)
reads_latch_determined s divisor lcr a b = record {
  at = λ l m p q.
      (determined_then (bytes_determined s p.0 p.1 q.0 q.1)
      (λ same. closed (256 * p.1 + p.0) (256 * q.1 + q.0) (λ i. 256 * same.1 i + same.0 i))).at l m p.2 q.2;
}
  where
    closed : (shown other : ℕ) → shown ≡ other →
        Determined (a ≡ b) (InTurn (KeepsLine lcr) (IsDivisor divisor shown) a s)
        (InTurn (KeepsLine lcr) (IsDivisor divisor other) b s)
    closed shown other same =
        let M : ℕ → Type 0 = λ n. Determined (a ≡ b) (InTurn (KeepsLine lcr) (IsDivisor divisor shown) a s)
        (InTurn (KeepsLine lcr) (IsDivisor divisor n) b s) in
        subst M same
        (in_turn_determined s (KeepsLine lcr) (IsDivisor divisor shown) (keeps_determined s lcr)
        (compares_determined s divisor shown) a b)

shows_divisor_determined : (s : Settings) (divisor : ℕ) → Decides s (ShowsDivisor divisor)
shows_divisor_determined s divisor a b = record {
  at = λ l m p q. (determined_then (read_determined offsets.LCR p.0 q.0) (λ same. latch p.0 q.0 same)).at l m p.1 q.1;
}
  where
    latch : (lcr other : ℕ) → lcr ≡ other →
        Determined (a ≡ b) (InTurn (OpensLatch lcr) (ReadsLatch divisor lcr) a s)
        (InTurn (OpensLatch other) (ReadsLatch divisor other) b s)
    latch lcr other same =
        let M : ℕ → Type 0 = λ n. Determined (a ≡ b) (InTurn (OpensLatch lcr) (ReadsLatch divisor lcr) a s)
        (InTurn (OpensLatch n) (ReadsLatch divisor n) b s) in
        subst M same
        (in_turn_determined s (OpensLatch lcr) (ReadsLatch divisor lcr) (opens_determined s lcr)
        (reads_latch_determined s divisor lcr) a b)

-- the FIFOs
shows_fifos_determined : (s : Settings) (interrupts : ℕ) → Decides s (ShowsFifos interrupts)
shows_fifos_determined s interrupts (Ok x) (Ok y) = record {
  at = λ l m p q. so_is p.2 q.2 (so (λ r. refl) (so_write refl (so_read (λ same. so_write refl (inl (tt {0}, refl))))));
}
shows_fifos_determined s interrupts (Ok x) (Err e) = record {
  at = λ l m p q.
      so_is p.2 q.3
      (so (λ r. absurd (q.1 (ap (λ (n : ℕ). has n ISR.FIFOS_ENABLED.0) (sym r.0) ∙ p.1)))
      (so_write refl (so_read (λ same. so_write refl (inl (tt {0}, refl))))));
}
shows_fifos_determined s interrupts (Err d) (Ok y) = record {
  at = λ l m p q.
      so_is p.3 q.2
      (so (λ r. absurd (p.1 (ap (λ (n : ℕ). has n ISR.FIFOS_ENABLED.0) r.0 ∙ q.1)))
      (so_write refl (so_read (λ same. so_write refl (inl (tt {0}, refl))))));
}
shows_fifos_determined s interrupts (Err d) (Err e) = record {
  at = λ l m p q.
      so_is p.3 q.3
      (so (λ r. failed_same d e (p.2 ∙ ap (λ (n : ℕ). Fifos s.fifo (has n ISR.FIFOS_ENABLED.0)) r.0 ∙ sym q.2))
      (so_write refl (so_read (λ same. so_write refl (inl (tt {0}, refl))))));
}

-- all of it
shows_all_determined : (s : Settings) (frame outputs interrupts divisor : ℕ) → Decides s (ShowsAll frame outputs interrupts divisor)
shows_all_determined s frame outputs interrupts divisor =
    in_turn_determined s (ShowsFrame frame) (InTurn (ShowsOutputs outputs) (InTurn (ShowsInterrupts interrupts)
    (InTurn (ShowsDivisor divisor) (ShowsFifos interrupts))))
    (shows_determined s offsets.LCR (λ shown. without 8 shown LCR.SET_BREAK.0 ≡ frame)
    (λ shown. LineControl (record { 0 = frame }) (record { 0 = shown })))
    (in_turn_determined s (ShowsOutputs outputs) (InTurn (ShowsInterrupts interrupts)
    (InTurn (ShowsDivisor divisor) (ShowsFifos interrupts)))
    (shows_determined s offsets.MCR (λ shown. shown ≡ outputs)
    (λ shown. ModemControl (record { 0 = outputs }) (record { 0 = shown })))
    (in_turn_determined s (ShowsInterrupts interrupts) (InTurn (ShowsDivisor divisor) (ShowsFifos interrupts))
    (shows_determined s offsets.IER (λ shown. shown ≡ interrupts)
    (λ shown. Interrupts (record { 0 = interrupts }) (record { 0 = shown })))
    (in_turn_determined s (ShowsDivisor divisor) (ShowsFifos interrupts) (shows_divisor_determined s divisor)
    (shows_fifos_determined s interrupts))))

-- a configuration has one divisor, or none
divisors_agree : (config : Config) (d e : ℕ) → IsDivisorIfAny config (Some d) → IsDivisorIfAny config (Some e) → d ≡ e
divisors_agree config d e p q = divisor_one config p.0 d e p.1.0 q.1.0

some_or_none : (config : Config) (d : ℕ) → IsDivisorIfAny config (Some d) → IsDivisorIfAny config None → ⊥
some_or_none config d p q = let cause = q p.0 in no_divisor config p.0 d cause.0 p.1 cause.1

pub checks_configured_determined : (config : Config) (outputs : ℕ) (s : Settings) → Decides s (ChecksConfigured config outputs)
checks_configured_determined config outputs s = at
  where
    All : ℕ → Verdict → Language
    All = ShowsAll (frame_bits config) (unlooped outputs) config.interrupts.0

    all : (d e : ℕ) → IsDivisorIfAny config (Some d) → IsDivisorIfAny config (Some e) → (a b : Verdict) →
        Determined (a ≡ b) (All d a s) (All e b s)
    all d e p q a b =
        let M : ℕ → Type 0 = λ n. Determined (a ≡ b) (All d a s) (All n b s) in
        subst M (divisors_agree config d e p q)
        (shows_all_determined s (frame_bits config) (unlooped outputs) config.interrupts.0 d a b)

    failing : (c e : ConfigurationError) (l m : List Access) → ChecksConfigured config outputs (Err c) s l →
        ChecksConfigured config outputs (Err e) s m → SameOrPart (failed c ≡ failed e) l m
    failing c e l m (inl p) (inl q) = inl (failed_same c e (p.1 ∙ sym q.1), p.2 ∙ sym q.2)
    failing c e l m (inl p) (inr q) = absurd (some_or_none config q.0 q.1 p.0)
    failing c e l m (inr p) (inl q) = absurd (some_or_none config p.0 p.1 q.0)
    failing c e l m (inr p) (inr q) = (all p.0 q.0 p.1 q.1 (Err c) (Err e)).at l m p.2 q.2

    parted : (e : ConfigurationError) (l m : List Access) → ChecksConfigured config outputs (Err e) s l →
        ChecksConfigured config outputs (Ok tt) s m → SameOrPart ⊥ l m
    parted e l m (inl p) q = absurd (some_or_none config q.0 q.1 p.0)
    parted e l m (inr p) q =
        so (λ same. passed_failed tt e (sym same)) ((all p.0 q.0 p.1 q.1 (Err e) (Ok tt)).at l m p.2 q.2)

    at : (a b : Verdict) → Determined (a ≡ b) (ChecksConfigured config outputs a s) (ChecksConfigured config outputs b s)
    at (Ok x) (Ok y) = record { at = λ l m p q. (all p.0 q.0 p.1 q.1 (Ok tt) (Ok tt)).at l m p.2 q.2 }
    at (Ok x) (Err e) = determined_sym (record { at = parted e })
    at (Err d) (Ok y) = determined_so absurd (record { at = parted d })
    at (Err d) (Err e) = record { at = failing d e }
