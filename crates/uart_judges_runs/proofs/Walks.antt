-- Lists of accesses that are good one after the other: in no recording of them there is a warning without a cause.
use Rattle.std.proofs.Common.{◌≡◌, ℕ, zero, suc, Bool, true, false, not, ◌==◌, ◌&&◌, List, [], ◌∷◌, ◌++◌, Option, Some, None, refl, sym}
use Rattle.std.proofs.Common.{subst, arith, if◌then◌else◌}
use Rattle.std.specs.Prelude.{nat_lt}
use Rattle.std.proofs.lemmas.Grind.{common_steps}
use Rattle.uart_spec.specs.Bits.{has}
use Rattle.uart_spec.specs.declared.access.Access.{Access as RegisterAccess}
use Rattle.uart_spec.specs.declared.access.Access.TheVariants.{Read, Write}
use Rattle.uart_spec.specs.declared.registers.fifo_control.TheConstants.FCR as fcr_bits
use Rattle.uart_spec.specs.declared.registers.interrupt_status.TheConstants.ISR as isr_bits
use Rattle.uart_spec.specs.declared.registers.line_control.TheConstants.LCR as lcr_bits
use Rattle.uart_spec.specs.declared.registers.line_status.TheConstants.LSR as lsr_bits
use Rattle.uart_spec.specs.declared.registers.modem_status.TheConstants.MSR as msr_bits
use Rattle.uart_spec.specs.declared.registers.offsets.TheConstants as offsets
use Rattle.uart_judges.specs.Actions.{action}
use Rattle.uart_judges.specs.Findings.{enables_some}
use Rattle.uart_judges.specs.History.{known, next, step_from}
use Rattle.uart_judges.specs.declared.audit.auditor.Auditor.{Auditor}
use Rattle.uart_judges.specs.declared.recording.entry.Entry.{Entry}
use Rattle.uart_judges.specs.declared.recording.entry.Happening.{Happening}
use Rattle.uart_judges.specs.declared.recording.entry.Happening.TheVariants.{Access}
use Rattle.uart_judges_runs.specs.Calls.{opened_by}
use Rattle.uart_judges_runs.specs.Causes.{Causes, Fits, ShowsFor, line_while}
use Rattle.uart_judges_runs.specs.Lost.{IsSo}
use Rattle.uart_judges_runs.specs.Recorded.{HasNone, access_in, accesses_in}
use Rattle.uart_judges_runs.proofs.Founded.{is_of_caller}
use Rattle.uart_judges_runs.proofs.Recordings.{IsEither, IsOther, access, either, other}
use Rattle.uart_judges_runs.proofs.Settled.{Harmless, Settled, Stage, at, founded_step, settled_next}

-- ---- one access

-- whether MSR may have shown CTS clear since it was last checked
abbrev pub held_by : RegisterAccess → Bool → Bool
held_by (Read register answer) before = if register == offsets.MSR then not (has answer msr_bits.CTS.0) else before
held_by (Write register value) before = before

-- whether LSR showed a byte, and DATA was not read since
abbrev pub looked_by : RegisterAccess → Bool → Bool
looked_by (Read register answer) before =
    if register == offsets.LSR then has answer lsr_bits.DATA_READY.0 else if register == offsets.DATA then false else before
looked_by (Write register value) before = if register == offsets.FCR then false else before

abbrev pub by : RegisterAccess → Stage → Stage
by x f = record { opened = opened_by x f.opened; held = held_by x f.held; looked = looked_by x f.looked }

-- a read: it shows what gives no other cause; an interrupt is pending only where ISR may be read so; DLAB is off where LSR is read; and
-- LSR showed a byte where DATA is read
pub record GoodRead (c : Causes) (line : ℕ) (f : Stage) (register answer : ℕ) : Type 0 where
  pub real : nat_lt register 8 ≡ true
  pub shows : ShowsFor c line f.opened register answer
  pub idle : register ≡ offsets.ISR → (c.interrupts_are_on && c.isr_is_read) ≡ false → has answer isr_bits.INTERRUPT_STATUS.0 ≡ true
  pub fifos : register ≡ offsets.ISR → c.fifos_are_off ≡ false → has answer isr_bits.FIFOS_ENABLED.0 ≡ true
  pub shut : register ≡ offsets.LSR → f.opened ≡ false
  pub looked : register ≡ offsets.DATA → f.opened ≡ false → c.fifos_are_off ≡ false → f.looked ≡ true

-- a write: LCR gets what it has, and MCR nothing; DLAB is off where DATA or IER is written; a byte fits, and goes out after CTS was
-- checked;
-- no interrupt is enabled; and the FIFOs stay on
pub record GoodWrite (c : Causes) (line : ℕ) (f : Stage) (register value : ℕ) : Type 0 where
  pub real : nat_lt register 8 ≡ true
  pub lcr : register ≡ offsets.LCR → value ≡ line_while (has value lcr_bits.DLAB.0) line
  pub no_mcr : (register == offsets.MCR) ≡ false
  pub fifos : register ≡ offsets.FCR → c.fifos_are_off ≡ false → has value fcr_bits.FIFO_ENABLE.0 ≡ true
  pub shut : register ≡ offsets.DATA → f.opened ≡ false
  pub fits : register ≡ offsets.DATA → c.bytes_are_cut ≡ false → Fits line value
  pub clear : register ≡ offsets.DATA → (c.cts_is_unchecked && c.msr_is_read) ≡ false → f.held ≡ false
  pub shut_too : register ≡ offsets.IER → f.opened ≡ false
  pub off : register ≡ offsets.IER → c.interrupts_are_on ≡ false → enables_some (Some (record { 0 = value })) ≡ false

abbrev pub IsGood : Causes → (line : ℕ) → Stage → RegisterAccess → Type 0
IsGood c line f (Read register answer) = GoodRead c line f register answer
IsGood c line f (Write register value) = GoodWrite c line f register value

module _ (c : Causes) (line : ℕ) (f : Stage) where
  true_is : (b : Bool) → true ≡ b → b ≡ false → ⊥
  true_is true e g = cc
  true_is false e g = cc

  read_harmless : (o : Option Bool) (register answer : ℕ) → GoodRead c line f register answer → IsSo o (λ on. on ≡ f.opened) →
      Harmless c line f (action o (Access (Read register answer)))
  read_harmless None zero answer g so = tt
  read_harmless (Some true) zero answer g so = tt
  read_harmless (Some false) zero answer g so = g.looked refl (sym so)
  read_harmless None (suc zero) answer g so = tt
  read_harmless (Some true) (suc zero) answer g so = tt
  read_harmless (Some false) (suc zero) answer g so = g.shows.enabled refl (sym so)
  read_harmless o (suc (suc zero)) answer g so = (g.idle refl, g.fifos refl)
  read_harmless o (suc (suc (suc zero))) answer g so = g.shows.lcr refl
  read_harmless o (suc (suc (suc (suc zero)))) answer g so = g.shows.out2 refl
  read_harmless o (suc (suc (suc (suc (suc zero))))) answer g so = g.shut refl
  read_harmless o (suc (suc (suc (suc (suc (suc zero)))))) answer g so = tt
  read_harmless o (suc (suc (suc (suc (suc (suc (suc zero))))))) answer g so = tt
  read_harmless o (suc (suc (suc (suc (suc (suc (suc (suc n)))))))) answer g so =
      absurd (let r : nat_lt (suc (suc (suc (suc (suc (suc (suc (suc n)))))))) 8 ≡ true = g.real in grind (arith, common_steps))

  write_harmless : (o : Option Bool) (register value : ℕ) → GoodWrite c line f register value → IsSo o (λ on. on ≡ f.opened) →
      Harmless c line f (action o (Access (Write register value)))
  write_harmless (Some true) zero value g so = absurd (true_is f.opened so (g.shut refl))
  write_harmless (Some false) zero value g so = (g.shut refl, g.fits refl, g.clear refl)
  write_harmless (Some true) (suc zero) value g so = absurd (true_is f.opened so (g.shut_too refl))
  write_harmless (Some false) (suc zero) value g so = g.off refl
  write_harmless o (suc (suc zero)) value g so = g.fifos refl
  write_harmless o (suc (suc (suc zero))) value g so = g.lcr refl
  write_harmless o (suc (suc (suc (suc zero)))) value g so = absurd (let e : (4 == offsets.MCR) ≡ false = g.no_mcr in cc)
  write_harmless o (suc (suc (suc (suc (suc (suc (suc (suc n)))))))) value g so =
      absurd (let r : nat_lt (suc (suc (suc (suc (suc (suc (suc (suc n)))))))) 8 ≡ true = g.real in grind (arith, common_steps))
  write_harmless o _ value g so = tt

  harmless : (o : Option Bool) (x : RegisterAccess) → IsGood c line f x → IsSo o (λ on. on ≡ f.opened) →
      Harmless c line f (action o (Access x))
  harmless o (Read register answer) g so = read_harmless o register answer g so
  harmless o (Write register value) g so = write_harmless o register value g so

  -- what is known after an access that the judge takes for none of DATA
  unlooked : (a : Auditor) → Settled c line f a → Settled c line (record f { looked = false }) a
  unlooked a k = record {
    dlab = k.dlab;
    lcr = k.lcr;
    interrupts = k.interrupts;
    not_handling = k.not_handling;
    out2 = k.out2;
    divisor = k.divisor;
    fifos = k.fifos;
    clear = k.clear;
    seen = λ on e. absurd (cc);
  }

  read_moved : (o : Option Bool) (register answer : ℕ) (a : Auditor) → nat_lt register 8 ≡ true →
      Settled c line (at (action o (Access (Read register answer))) f) a → Settled c line (by (Read register answer) f) a
  read_moved None zero answer a r k = unlooked a k
  read_moved (Some true) zero answer a r k = unlooked a k
  read_moved (Some true) (suc zero) answer a r k = k
  read_moved o (suc (suc (suc (suc (suc (suc (suc (suc n)))))))) answer a r k = absurd (grind (arith, common_steps))
  read_moved o _ answer a r k = k

  write_moved : (o : Option Bool) (register value : ℕ) (a : Auditor) → nat_lt register 8 ≡ true →
      Settled c line (at (action o (Access (Write register value))) f) a → Settled c line (by (Write register value) f) a
  write_moved (Some true) zero value a r k = k
  write_moved (Some true) (suc zero) value a r k = k
  write_moved o (suc (suc (suc (suc (suc (suc (suc (suc n)))))))) value a r k = absurd (grind (arith, common_steps))
  write_moved o _ value a r k = k

  moved : (o : Option Bool) (x : RegisterAccess) (a : Auditor) → IsGood c line f x → Settled c line (at (action o (Access x)) f) a →
      Settled c line (by x f) a
  moved o (Read register answer) a g k = read_moved o register answer a g.real k
  moved o (Write register value) a g k = write_moved o register value a g.real k

  -- an entry that is no access
  other_harmless : (o : Option Bool) (h : Happening) → IsOther h → Harmless c line f (action o h)
  other_harmless o (Access x) i = absurd i
  other_harmless o _ i = tt

  other_moved : (o : Option Bool) (h : Happening) (a : Auditor) → IsOther h → Settled c line (at (action o h) f) a → Settled c line f a
  other_moved o (Access x) a i k = absurd i
  other_moved o _ a i k = k

-- ---- some accesses

abbrev pub Walks : Causes → (line : ℕ) → Stage → List RegisterAccess → Type 0
Walks c line f [] = Unit {0}
Walks c line f (x ∷ l) = IsGood c line f x × Walks c line (by x f) l

module _ (c : Causes) (line : ℕ) (off : has line lcr_bits.DLAB.0 ≡ false)
    (free : c.break_is_sent ≡ false → has line lcr_bits.SET_BREAK.0 ≡ false) where
  abbrev Follows : Stage → (past entries : List Entry) → Type 0
  Follows f past entries =
      Walks c line f (accesses_in entries) → Settled c line f (known past) → HasNone (is_of_caller c) past entries

  at_access : (f : Stage) (past : List Entry) (e : Entry) (es : List Entry) (x : RegisterAccess) → e.happening ≡ Access x →
      ((g : Stage) → Follows g (e ∷ past) es) → Follows f past (e ∷ es)
  at_access f past e es x is rest w k =
      let a = known past in
      let o = a.setup.is_open in
      let v : IsGood c line f x × Walks c line (by x f) (accesses_in es) =
      subst (λ (h : Happening). Walks c line f (access_in h ++ accesses_in es)) is w in
      let h : Harmless c line f (action o e.happening) =
      subst (λ (h : Happening). Harmless c line f (action o h)) (sym is) (harmless c line f o x v.0 k.dlab) in
      let n : Settled c line (at (action o e.happening) f) (next a (step_from a e)) = settled_next c line f off a e h k in
      let m : Settled c line (by x f) (next a (step_from a e)) =
      moved c line f o x _ v.0 (subst (λ (h : Happening). Settled c line (at (action o h) f) (next a (step_from a e))) is n) in
      (founded_step c line f off free a e h k, rest (by x f) v.1 m)

  at_other : (f : Stage) (past : List Entry) (e : Entry) (es : List Entry) → IsOther e.happening → access_in e.happening ≡ [] →
      Follows f (e ∷ past) es → Follows f past (e ∷ es)
  at_other f past e es i none rest w k =
      let a = known past in
      let o = a.setup.is_open in
      let h : Harmless c line f (action o e.happening) = other_harmless c line f o e.happening i in
      let v : Walks c line f (accesses_in es) = subst (λ (l : List RegisterAccess). Walks c line f (l ++ accesses_in es)) none w in
      (founded_step c line f off free a e h k, rest v (other_moved c line f o e.happening _ i (settled_next c line f off a e h k)))

  at_either : (f : Stage) (past : List Entry) (e : Entry) (es : List Entry) → IsEither e.happening →
      ((g : Stage) → Follows g (e ∷ past) es) → Follows f past (e ∷ es)
  at_either f past e es (access x is) rest = at_access f past e es x is rest
  at_either f past e es (other i none) rest = at_other f past e es i none (rest f)

  pub founded_walk : (f : Stage) (past entries : List Entry) → Follows f past entries
  founded_walk f past [] w k = tt
  founded_walk f past (e ∷ es) w k =
      at_either f past e es (either e.happening) (λ g. founded_walk g (e ∷ past) es) w k
