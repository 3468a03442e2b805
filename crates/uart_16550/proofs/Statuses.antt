-- The status calls.
use Rattle.std.proofs.Common.{◌≡◌, ℕ, [], ◌∷◌, ◌++◌, refl, ◌∙◌, ap, bit_or}
use Rattle.std.specs.Int.NonZero.{non_zero_u64_get}
use Rattle.uart_spec.specs.declared.registers.offsets.TheConstants as offsets
use Rattle.uart_spec.specs.declared.access.Access.{Access}
use Rattle.uart_spec.specs.declared.access.Access.TheVariants.{Read}
use Rattle.uart_16550.specs.Grammar.{Language, Only}
use Rattle.uart_16550.specs.Driver.{Made, Did, fields, with_saved}
use Rattle.uart_16550.specs.Status.{TakesLsr, TakesMsr, Dumps, divisor_accesses}
use Rattle.uart_16550.specs.declared.driver.Uart16550.{Uart16550}
use Rattle.uart_spec.specs.declared.dump.ConfigRegisterDump.{ConfigRegisterDump}
use Rattle.uart_16550.proofs.Making.{made_only, lsr_kept, msr_kept, lsr_joined, msr_joined}
use Rattle.uart_16550.proofs.Doings.{did_made}

-- the registers in the dump's order, with both statuses joined with the saved bits as they are after their reads
pub dumped : {B : Type 0} {step : B → Access → B → Type 0} (dump : ConfigRegisterDump) (lcr lsr msr : ℕ) {a b c d e : Uart16550 B} →
    Made step
    (Only (divisor_accesses lcr dump.dll dump.dlm ++
    (Read offsets.IER dump.ier.0 ∷ Read offsets.ISR dump.isr.0 ∷ Read offsets.LCR dump.lcr.0 ∷ Read offsets.MCR dump.mcr.0 ∷ []))) a b →
    Made step (Only (Read offsets.LSR lsr ∷ [])) b c → dump.lsr.0 ≡ bit_or lsr c.saved_lsr.0 →
    Made step (Only (Read offsets.MSR msr ∷ [])) c d → dump.msr.0 ≡ bit_or msr d.saved_msr.0 →
    Made step (Only (Read offsets.SPR dump.spr ∷ [])) d e → Did step (Dumps dump) a e
dumped dump lcr lsr msr p q shows_lsr r shows_msr s =
    let all = did_made (made_only _ _ p (made_only _ _ q (made_only _ _ r s))) in
    record {
      list = all.list;
      path = all.path;
      does = record {
        lcr = lcr;
        lsr = lsr;
        msr = msr;
        is = all.does.0.is;
        shows_lsr = shows_lsr ∙ lsr_joined lsr q ∙ ap (bit_or lsr) (lsr_kept _ refl p);
        shows_msr = shows_msr ∙ msr_joined msr r ∙ ap (bit_or msr) (msr_kept _ refl q ∙ msr_kept _ refl p);
        keeps = all.does.1;
      };
    }

-- the fields after a call, if then other bits are saved
saved_are : {B : Type 0} {step : B → Access → B → Type 0} {L : Language} {a b : Uart16550 B} → Made step L a b → (lsr msr x y : ℕ) →
    lsr ≡ x → msr ≡ y →
    fields (record b { saved_lsr = record { 0 = lsr }; saved_msr = record { 0 = msr } }) ≡ with_saved x y (fields a)
saved_are p lsr msr x y same_lsr same_msr i = record {
  config = p.config i;
  fifo = p.fifo i;
  size = p.size i;
  lsr = same_lsr i;
  msr = same_msr i;
  limit = non_zero_u64_get (p.limit i);
}

-- one read of a status, joined with the saved bits as they are after it, which are then cleared
pub takes_lsr : {B : Type 0} {step : B → Access → B → Type 0} (status result none : ℕ) {a b : Uart16550 B} →
    Made step (Only (Read offsets.LSR status ∷ [])) a b →
    result ≡ bit_or status b.saved_lsr.0 → none ≡ 0 → Did step (TakesLsr result) a (record b { saved_lsr = record { 0 = none } })
takes_lsr status result none {a} {b} p shows empty =
    let left = saved_are p none b.saved_msr.0 0 a.saved_msr.0 empty (msr_kept _ refl p) in
    record { list = p.list; path = p.path; does = (status, p.fits.is, shows ∙ lsr_joined status p, left) }

pub takes_msr : {B : Type 0} {step : B → Access → B → Type 0} (status result none : ℕ) {a b : Uart16550 B} →
    Made step (Only (Read offsets.MSR status ∷ [])) a b →
    result ≡ bit_or status b.saved_msr.0 → none ≡ 0 → Did step (TakesMsr result) a (record b { saved_msr = record { 0 = none } })
takes_msr status result none {a} {b} p shows empty =
    let left = saved_are p b.saved_lsr.0 none a.saved_lsr.0 0 (lsr_kept _ refl p) empty in
    record { list = p.list; path = p.path; does = (status, p.fits.is, shows ∙ msr_joined status p, left) }
