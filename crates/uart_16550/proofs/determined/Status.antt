-- The register calls are determined.
use Rattle.std.proofs.Common.{◌≡◌, ℕ, true, false, List, [], ◌++◌, refl, sym, ◌∙◌, ap, inl, inr, Result, Ok, Err, bit_or}
use Rattle.bitflags.specs.Sets.{without}
use Rattle.uart_spec.specs.Bits.{has}
use Rattle.uart_spec.specs.declared.errors.RemoteReadyToReceiveError.{RemoteReadyToReceiveError}
use Rattle.uart_spec.specs.declared.errors.RemoteReadyToReceiveError.TheVariants.{
  NoRemoteConnectedNoDSR,
  NoRemoteConnectedNoCD,
  RemoteNotClearToSend,
}
use Rattle.uart_spec.specs.declared.registers.line_control.TheConstants.LCR
use Rattle.uart_spec.specs.declared.registers.modem_status.TheConstants.MSR
use Rattle.uart_spec.specs.declared.access.Access.{Access}
use Rattle.uart_16550.specs.Grammar.{Settings}
use Rattle.uart_16550.specs.Driver.{Fields, with_interrupts, saving}
use Rattle.uart_16550.specs.Status.{TakesLsr, TakesMsr, Connects, ShowsConnection, ReadsDivisor, divisor_accesses, Enables, Disables, Dumps}
use Rattle.uart_16550.specs.Status.{dump_reads, Retriggers}
use Rattle.uart_spec.specs.declared.dump.ConfigRegisterDump.{ConfigRegisterDump}
use Rattle.uart_16550.proofs.determined.Parting.{SameOrPart, Determined, so, so_is, so_read, so_write, so_reads, not_both}
use Rattle.uart_16550.proofs.determined.Doings.{Does}

pub takes_lsr_determined : (f : Fields) (x y : ℕ) → Does (x ≡ y) f (TakesLsr x) (TakesLsr y)
takes_lsr_determined f x y = record {
  at = λ l m a b p q. so_is p.1 q.1 (so (λ same. (p.2 ∙ ap (λ (n : ℕ). bit_or n f.lsr) same ∙ sym q.2, p.3 ∙ sym q.3)) so_reads);
}

pub takes_msr_determined : (f : Fields) (x y : ℕ) → Does (x ≡ y) f (TakesMsr x) (TakesMsr y)
takes_msr_determined f x y = record {
  at = λ l m a b p q. so_is p.1 q.1 (so (λ same. (p.2 ∙ ap (λ (n : ℕ). bit_or n f.msr) same ∙ sym q.2, p.3 ∙ sym q.3)) so_reads);
}

has_same : (a b bits : ℕ) → a ≡ b → has a bits ≡ true → has b bits ≡ false → ⊥
has_same a b bits same p q = not_both (sym p ∙ ap (λ (n : ℕ). has n bits) same ∙ q)

-- one status, one answer
connection_same : (a b : Result (Unit {0}) RemoteReadyToReceiveError) (x y : ℕ) → x ≡ y → ShowsConnection a x → ShowsConnection b y → a ≡ b
connection_same (Ok t) (Ok w) x y same p q = refl
connection_same (Ok t) (Err NoRemoteConnectedNoDSR) x y same p q = absurd (has_same x y MSR.DSR.0 same p.0 q)
connection_same (Ok t) (Err RemoteNotClearToSend) x y same p q = absurd (has_same x y MSR.CTS.0 same p.1 q.1)
connection_same (Err NoRemoteConnectedNoDSR) (Ok w) x y same p q = absurd (has_same y x MSR.DSR.0 (sym same) q.0 p)
connection_same (Err NoRemoteConnectedNoDSR) (Err NoRemoteConnectedNoDSR) x y same p q = refl
connection_same (Err NoRemoteConnectedNoDSR) (Err RemoteNotClearToSend) x y same p q = absurd (has_same y x MSR.DSR.0 (sym same) q.0 p)
connection_same (Err NoRemoteConnectedNoCD) b x y same p q = absurd p
connection_same (Err RemoteNotClearToSend) (Ok w) x y same p q = absurd (has_same y x MSR.CTS.0 (sym same) q.1 p.1)
connection_same (Err RemoteNotClearToSend) (Err NoRemoteConnectedNoDSR) x y same p q = absurd (has_same x y MSR.DSR.0 same p.0 q)
connection_same (Err RemoteNotClearToSend) (Err RemoteNotClearToSend) x y same p q = refl
connection_same _ (Err NoRemoteConnectedNoCD) x y same p q = absurd q

pub connects_determined : (s : Settings) (a b : Result (Unit {0}) RemoteReadyToReceiveError) →
    Determined (a ≡ b) (Connects a s) (Connects b s)
connects_determined s a b = record { at = λ l m p q. so_is p.2 q.2 (so (λ same. connection_same a b p.0 q.0 same p.1 q.1) so_reads) }

-- the divisor latch, and what follows
divisor_read : {C : Type 0} (lcr lcr' low low' high high' : ℕ) (l m : List Access) → SameOrPart C l m →
    SameOrPart ((low ≡ low') × ((high ≡ high') × C)) (divisor_accesses lcr low high ++ l) (divisor_accesses lcr' low' high' ++ m)
divisor_read {C} lcr lcr' low low' high high' l m rest =
    so {C = (lcr ≡ lcr') × ((low ≡ low') × ((high ≡ high') × C))} (λ r. r.1)
    (so_read {a = lcr} {b = lcr'}
    (λ same. so_write (ap (λ (n : ℕ). bit_or n LCR.DLAB.0) same)
    (so_read {a = low} {b = low'} (λ x. so_read {a = high} {b = high'} (λ y. so_write same rest)))))

pub divisor_determined : (s : Settings) (x y : ℕ × ℕ) → Determined (x ≡ y) (ReadsDivisor x.0 x.1 s) (ReadsDivisor y.0 y.1 s)
divisor_determined s x y = record {
  at = λ l m p q. so_is p.1 q.1 (so (λ r i. (r.0 i, r.1.0 i)) (divisor_read p.0 q.0 x.0 y.0 x.1 y.1 [] [] (inl (tt {0}, refl))));
}

pub enables_determined : (bits : ℕ) (f : Fields) (x y : Unit {0}) → Does (x ≡ y) f (Enables bits) (Enables bits)
enables_determined bits f x y = record {
  at = λ l m a b p q.
      so_is p.1 q.1
      (so (λ r. (refl, p.2 ∙ ap (λ (n : ℕ). with_interrupts (bit_or n bits) f) r.0 ∙ sym q.2))
      (so_read (λ same. so_write (ap (λ (n : ℕ). bit_or n bits) same) (inl (tt {0}, refl)))));
}

pub disables_determined : (bits : ℕ) (f : Fields) (x y : Unit {0}) → Does (x ≡ y) f (Disables bits) (Disables bits)
disables_determined bits f x y = record {
  at = λ l m a b p q.
      so_is p.1 q.1
      (so (λ r. (refl, p.2 ∙ ap (λ (n : ℕ). with_interrupts (without 8 n bits) f) r.0 ∙ sym q.2))
      (so_read (λ same. so_write (ap (λ (n : ℕ). without 8 n bits) same) (inl (tt {0}, refl)))));
}

pub retriggers_determined : (s : Settings) (x y : Unit {0}) → Determined (x ≡ y) (Retriggers s) (Retriggers s)
retriggers_determined s x y = record {
  at = λ l m p q. so_is p.1 q.1 (so (λ r. refl) (so_read (λ same. so_write refl (so_write same (inl (tt {0}, refl))))));
}

pub dumps_determined : (f : Fields) (x y : ConfigRegisterDump) → Does (x ≡ y) f (Dumps x) (Dumps y)
dumps_determined f x y = record { at = λ l m a b p q. at l m a b p q (so_is p.is q.is (all p.lcr q.lcr p.lsr q.lsr p.msr q.msr)) }
  where
    Same : (lsr lsr' msr msr' : ℕ) → Type 0
    Same lsr lsr' msr msr' =
        (x.dll ≡ y.dll) × ((x.dlm ≡ y.dlm) × ((x.ier.0 ≡ y.ier.0) × ((x.isr.0 ≡ y.isr.0) × ((x.lcr.0 ≡ y.lcr.0)
        × ((x.mcr.0 ≡ y.mcr.0) × ((lsr ≡ lsr') × ((msr ≡ msr') × (x.spr ≡ y.spr))))))))

    all : (lcr lcr' lsr lsr' msr msr' : ℕ) →
        SameOrPart (Same lsr lsr' msr msr') (divisor_accesses lcr x.dll x.dlm ++ dump_reads lsr msr x)
        (divisor_accesses lcr' y.dll y.dlm ++ dump_reads lsr' msr' y)
    all lcr lcr' lsr lsr' msr msr' =
        divisor_read lcr lcr' x.dll y.dll x.dlm y.dlm _ _
        (so_read (λ ier. so_read (λ isr. so_read (λ lcr. so_read (λ mcr. so_read (λ lsr. so_read (λ msr. so_reads)))))))

    at : (l m : List Access) (a b : Fields) (p : Dumps x f l a) (q : Dumps y f m b) → SameOrPart (Same p.lsr q.lsr p.msr q.msr) l m →
        SameOrPart ((x ≡ y) × (a ≡ b)) l m
    at l m a b p q (inr part) = inr part
    at l m a b p q (inl same) = inl ((dump same.0, p.keeps ∙ ap (saving f) same.1 ∙ sym q.keeps), same.1)
      where
        dump : Same p.lsr q.lsr p.msr q.msr → x ≡ y
        dump (dll, (dlm, (ier, (isr, (lcr, (mcr, (lsr, (msr, spr)))))))) =
            let shown_lsr = p.shows_lsr ∙ ap (λ (n : ℕ). bit_or n f.lsr) lsr ∙ sym q.shows_lsr in
            let shown_msr = p.shows_msr ∙ ap (λ (n : ℕ). bit_or n f.msr) msr ∙ sym q.shows_msr in
            λ i. record {
              ier = record { 0 = ier i };
              isr = record { 0 = isr i };
              lcr = record { 0 = lcr i };
              mcr = record { 0 = mcr i };
              lsr = record { 0 = shown_lsr i };
              msr = record { 0 = shown_msr i };
              spr = spr i;
              dll = dll i;
              dlm = dlm i;
            }
