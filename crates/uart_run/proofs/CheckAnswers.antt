-- What `check_configured` answers over the machine: it is Ok exactly if the registers are as configured. So it is Ok after an `init` or an
-- `init_with` that is done.
use Rattle.uart_run.proofs.Names.{◌≡◌, ℕ, ◌+◌, ◌*◌, Bool, true, false, inl, inr, List, [], ◌∷◌, refl, sym, ◌∙◌, ap, subst, bit_or, Ok, Err}
use Rattle.uart_run.proofs.Names.{arith, if◌then◌else◌, common_steps, without, Path, has, has_any, IsComputable, Access, Read, Write}
use Rattle.uart_run.proofs.Names.{Config, ConfigurationError, Verdict, Shows, InTurn, ShowsFrame, ShowsOutputs, ShowsInterrupts, KeepsLine}
use Rattle.uart_run.proofs.Names.{OpensLatch, IsDivisor, ReadsLatch, ShowsDivisor, fifo_look, ShowsFifos, ShowsAll, ChecksConfigured}
use Rattle.uart_run.proofs.Names.{fields, settings_of, unlooped, Language, Settings, Only, DivisorOf, frame_bits, inner_of, Answer}
use Rattle.uart_run.proofs.Names.{configured_answer, ChipState, answer, divisor, is_dlab_set, MachineState, MachineStep, at_access, has_and}
use Rattle.uart_run.proofs.Names.{has_or, path_as, latches_of, IsConfigured, Checks, State, machine_of, CallStep}
use Rattle.uart_spec.specs.declared.errors.ConfigurationError.TheVariants.{LineControl}
use Rattle.uart_spec.specs.declared.registers.interrupt_status.TheConstants.ISR
use Rattle.uart_spec.specs.declared.registers.line_control.TheConstants.LCR
use Rattle.uart_spec.specs.declared.registers.modem_control.MCR.{MCR}
use Rattle.uart_spec.specs.declared.registers.offsets.TheConstants as offsets
use Rattle.uart_16550.proofs.determined.Init.{divisor_one, no_divisor}
use Rattle.uart_call.specs.declared.call.Call.TheVariants as call
use Rattle.uart_run.proofs.{FrameLaws.answer_low, FrameLaws.answer_high, Pieces.then_parts, initialising.FifoShown.fifo_shown}
use Rattle.uart_run.proofs.{initialising.Inits.frame-dlab}
use Rattle.uart_run.proofs.Latches.{Kept, kept_in, keep, kept_after, kept_access, kept_step, kept_path, kept_list}

-- ---- one check after another

-- A check over a machine that keeps `before`. If it finds nothing, what it asks for is so, and the machine keeps `after`; if it finds
-- something, it is not so.
record Finds (s : Settings) (P : Verdict → Language) (before after : Kept) (IsSo : Type 0) : Type 0 where
  pub so : (l : List Access) (m n : MachineState) → kept_in m.chip ≡ before → P (Ok tt) s l → Path MachineStep m l n → IsSo
  pub leaves : (l : List Access) (m n : MachineState) → kept_in m.chip ≡ before → P (Ok tt) s l → Path MachineStep m l n →
      kept_in n.chip ≡ after
  pub wrong : (e : ConfigurationError) (l : List Access) (m n : MachineState) → kept_in m.chip ≡ before → P (Err e) s l →
      Path MachineStep m l n → IsSo → ⊥

finds_in_turn : (s : Settings) (P Q : Verdict → Language) (a b c : Kept) (A B : Type 0) → Finds s P a b A → Finds s Q b c B →
    Finds s (InTurn P Q) a c (A × B)
finds_in_turn s P Q a b c A B p q = record {
  so = λ l m n e t path.
      let r = then_parts (P (Ok tt)) (Q (Ok tt)) s l m n t path in (
        p.so r.front m r.between e r.first r.before,
        q.so r.back r.between n (p.leaves r.front m r.between e r.first r.before) r.second r.after,
      );
  leaves = λ l m n e t path.
      let r = then_parts (P (Ok tt)) (Q (Ok tt)) s l m n t path in
      q.leaves r.back r.between n (p.leaves r.front m r.between e r.first r.before) r.second r.after;
  wrong = wrong;
}
  where
    wrong : (x : ConfigurationError) (l : List Access) (m n : MachineState) → kept_in m.chip ≡ a → InTurn P Q (Err x) s l →
        Path MachineStep m l n → A × B → ⊥
    wrong x l m n e (inl t) path both = p.wrong x l m n e t path both.0
    wrong x l m n e (inr t) path both =
        let r = then_parts (P (Ok tt)) (Q (Err x)) s l m n t path in
        q.wrong x r.back r.between n (p.leaves r.front m r.between e r.first r.before) r.second r.after both.1

-- ---- a register that is read

-- what a read of the register returns is a matter of what is kept
abbrev IsKept : (register : ℕ) → (Kept → ℕ) → Type 0
IsKept register shown = (c : ChipState) → answer register c ≡ shown (kept_in c)

read_kept : (register : ℕ) (shown : Kept → ℕ) (k : Kept) (value : ℕ) (m n : MachineState) → IsKept register shown → kept_in m.chip ≡ k →
    Path MachineStep m (Read register value ∷ []) n → value ≡ shown k
read_kept register shown k value m n is e path =
    path.1.1 ∙ (is (at_access m).chip ∙ ap shown (kept_access m ∙ e))

finds_shown : (s : Settings) (register : ℕ) (shown : Kept → ℕ) (IsRight : ℕ → Type 0) (fault : ℕ → ConfigurationError) (k : Kept) →
    IsKept register shown → Finds s (Shows register IsRight fault) k k (IsRight (shown k))
finds_shown s register shown IsRight fault k is = record {
  so = λ l m n e t path.
      subst IsRight (read_kept register shown k t.0 m n is e (path_as m n l (Read register t.0 ∷ []) t.2 path)) t.1;
  leaves = λ l m n e t path. kept_list l (Read register t.0 ∷ []) m n t.2 path ∙ e;
  wrong = λ x l m n e t path right.
      let same = read_kept register shown k t.0 m n is e (path_as m n l (Read register t.0 ∷ []) t.3 path) in
      t.1 (subst IsRight (sym same) right);
}

lcr_kept : IsKept offsets.LCR (λ k. k.latches.lcr)
lcr_kept c = refl

mcr_kept : IsKept offsets.MCR (λ k. k.latches.mcr)
mcr_kept c = refl

-- while DLAB is set, the high byte of the divisor is at the offset of IER
abbrev at_ier : Kept → ℕ
at_ier k = if is_dlab_set k.latches then k.latches.dlm else k.latches.ier

ier_kept : IsKept offsets.IER at_ier
ier_kept c = refl

-- ---- the divisor

-- with this LCR
abbrev with_lcr : ℕ → Kept → Kept
with_lcr lcr k = record k { latches = record k.latches { lcr = lcr } }

finds_line : (s : Settings) (value : ℕ) (k : Kept) → Finds s (KeepsLine value) k (with_lcr value k) (Unit {0})
finds_line s value k = record {
  so = λ l m n e t path. tt;
  leaves = λ l m n e t path.
      let r = then_parts (Only (Write offsets.LCR value ∷ [])) (look (Ok tt)) s l m n t path in
      shown.leaves r.back r.between n (wrote m r.between r.front r.first.is e r.before) r.second r.after;
  wrong = λ x l m n e t path so.
      let r = then_parts (Only (Write offsets.LCR value ∷ [])) (look (Err x)) s l m n t path in
      shown.wrong x r.back r.between n (wrote m r.between r.front r.first.is e r.before) r.second r.after refl;
}
  where
    look : Verdict → Language
    look = Shows offsets.LCR (λ v. v ≡ value) (λ v. LineControl (record { 0 = value }) (record { 0 = v }))

    shown : Finds s look (with_lcr value k) (with_lcr value k) (value ≡ value)
    shown = finds_shown s offsets.LCR (λ (j : Kept). j.latches.lcr) _ _ (with_lcr value k) lcr_kept

    wrote : (m n : MachineState) (l : List Access) → l ≡ Write offsets.LCR value ∷ [] → kept_in m.chip ≡ k → Path MachineStep m l n →
        kept_in n.chip ≡ with_lcr value k
    wrote m n l is e path = kept_list l (Write offsets.LCR value ∷ []) m n is path ∙ ap (with_lcr value) e

-- the latch is opened
abbrev opened : ℕ → ℕ
opened lcr = bit_or lcr LCR.DLAB.0

finds_open : (s : Settings) (lcr : ℕ) (k : Kept) → Finds s (OpensLatch lcr) k (with_lcr (opened lcr) k) (Unit {0})
finds_open s lcr k = record {
  so = λ l m n e t path. tt;
  leaves = (finds_line s (opened lcr) k).leaves;
  wrong = λ x l m n e t path so.
      let r = then_parts (KeepsLine (opened lcr) (Err x)) (Only (Write offsets.LCR lcr ∷ [])) s l m n t path in
      (finds_line s (opened lcr) k).wrong x r.front m r.between e r.first r.before so;
}

finds_divisor : (s : Settings) (d shown : ℕ) (k : Kept) → Finds s (IsDivisor d shown) k k (shown ≡ d)
finds_divisor s d shown k = record {
  so = λ l m n e t path. t.0;
  leaves = λ l m n e t path. kept_list l [] m n t.1 path ∙ e;
  wrong = λ x l m n e t path so. t.0 so;
}

-- what is read while the latch is open
abbrev latch_reads : (low high : ℕ) → List Access
latch_reads low high = Read offsets.DLL low ∷ Read offsets.DLM high ∷ []

latch_shown : (k : Kept) (low high : ℕ) (m n : MachineState) → is_dlab_set k.latches ≡ true → kept_in m.chip ≡ k →
    Path MachineStep m (latch_reads low high) n → 256 * high + low ≡ divisor k.latches
latch_shown k low high m n on e (m₁, s₁, (m₂, s₂, same)) =
    let first = kept_access m ∙ e in
    let second = kept_access m₁ ∙ (kept_step (Read offsets.DLL low) m m₁ s₁ ∙ e) in
    let dlab : Kept → Bool = λ j. is_dlab_set j.latches in
    let is_low : low ≡ k.latches.dll =
    s₁.1 ∙ (answer_low (at_access m).chip (ap dlab first ∙ on) ∙ ap (λ (j : Kept). j.latches.dll) first) in
    let is_high : high ≡ k.latches.dlm =
    s₂.1 ∙ (answer_high (at_access m₁).chip (ap dlab second ∙ on) ∙ ap (λ (j : Kept). j.latches.dlm) second) in
    omega (arith, is_low, is_high)

finds_latch : (s : Settings) (d lcr : ℕ) (k : Kept) → is_dlab_set k.latches ≡ true →
    Finds s (ReadsLatch d lcr) k (with_lcr lcr k) (divisor k.latches ≡ d)
finds_latch s d lcr k on = record {
  so = λ l m n e t path.
      let r = then_parts (Only (latch_reads t.0 t.1)) (closes (256 * t.1 + t.0) (Ok tt)) s l m n t.2 path in
      let reads = path_as m r.between r.front (latch_reads t.0 t.1) r.first.is r.before in
      let found = (closing (256 * t.1 + t.0)).so r.back r.between n (still m r.between t.0 t.1 e reads) r.second r.after in
      sym (latch_shown k t.0 t.1 m r.between on e reads) ∙ found.1;
  leaves = λ l m n e t path.
      let r = then_parts (Only (latch_reads t.0 t.1)) (closes (256 * t.1 + t.0) (Ok tt)) s l m n t.2 path in
      let reads = path_as m r.between r.front (latch_reads t.0 t.1) r.first.is r.before in
      (closing (256 * t.1 + t.0)).leaves r.back r.between n (still m r.between t.0 t.1 e reads) r.second r.after;
  wrong = λ x l m n e t path so.
      let r = then_parts (Only (latch_reads t.0 t.1)) (closes (256 * t.1 + t.0) (Err x)) s l m n t.2 path in
      let reads = path_as m r.between r.front (latch_reads t.0 t.1) r.first.is r.before in
      (closing (256 * t.1 + t.0)).wrong x r.back r.between n (still m r.between t.0 t.1 e reads) r.second r.after
      (tt, latch_shown k t.0 t.1 m r.between on e reads ∙ so);
}
  where
    closes : (shown : ℕ) → Verdict → Language
    closes shown = InTurn (KeepsLine lcr) (IsDivisor d shown)

    closing : (shown : ℕ) → Finds s (closes shown) k (with_lcr lcr k) (Unit {0} × (shown ≡ d))
    closing shown =
        finds_in_turn s (KeepsLine lcr) (IsDivisor d shown) k (with_lcr lcr k) (with_lcr lcr k) _ _ (finds_line s lcr k)
        (finds_divisor s d shown (with_lcr lcr k))

    still : (m n : MachineState) (low high : ℕ) → kept_in m.chip ≡ k → Path MachineStep m (latch_reads low high) n → kept_in n.chip ≡ k
    still m n low high e reads = kept_path (latch_reads low high) m n reads ∙ e

finds_whole : (s : Settings) (d : ℕ) (k : Kept) → Finds s (ShowsDivisor d) k k (divisor k.latches ≡ d)
finds_whole s d k = record {
  so = λ l m n e t path.
      let r = then_parts (Only (Read offsets.LCR t.0 ∷ [])) (opens t.0 (Ok tt)) s l m n t.1 path in
      let p = path_as m r.between r.front (Read offsets.LCR t.0 ∷ []) r.first.is r.before in
      ((opening t.0).so r.back r.between n (still m r.between t.0 e p) r.second r.after).1;
  leaves = λ l m n e t path.
      let r = then_parts (Only (Read offsets.LCR t.0 ∷ [])) (opens t.0 (Ok tt)) s l m n t.1 path in
      let p = path_as m r.between r.front (Read offsets.LCR t.0 ∷ []) r.first.is r.before in
      (opening t.0).leaves r.back r.between n (still m r.between t.0 e p) r.second r.after
      ∙ ap (λ v. with_lcr v k) (read_kept offsets.LCR (λ (j : Kept). j.latches.lcr) k t.0 m r.between lcr_kept e p);
  wrong = λ x l m n e t path so.
      let r = then_parts (Only (Read offsets.LCR t.0 ∷ [])) (opens t.0 (Err x)) s l m n t.1 path in
      let p = path_as m r.between r.front (Read offsets.LCR t.0 ∷ []) r.first.is r.before in
      (opening t.0).wrong x r.back r.between n (still m r.between t.0 e p) r.second r.after (tt, so);
}
  where
    opens : (lcr : ℕ) → Verdict → Language
    opens lcr = InTurn (OpensLatch lcr) (ReadsLatch d lcr)

    is_open : (lcr : ℕ) → has_any (opened lcr) LCR.DLAB.0 ≡ true
    is_open lcr = has_or 7 lcr LCR.DLAB.0 ∙ grind (arith, common_steps)

    opening : (lcr : ℕ) → Finds s (opens lcr) k (with_lcr lcr k) (Unit {0} × (divisor k.latches ≡ d))
    opening lcr =
        finds_in_turn s (OpensLatch lcr) (ReadsLatch d lcr) k (with_lcr (opened lcr) k) (with_lcr lcr k) _ _ (finds_open s lcr k)
        (finds_latch s d lcr (with_lcr (opened lcr) k) (is_open lcr))

    still : (m n : MachineState) (lcr : ℕ) → kept_in m.chip ≡ k → Path MachineStep m (Read offsets.LCR lcr ∷ []) n → kept_in n.chip ≡ k
    still m n lcr e p = kept_path (Read offsets.LCR lcr ∷ []) m n p ∙ e

-- ---- the FIFOs

either_fifo : (b : Bool) (j k : Kept) (on : Bool) → j.fifo ≡ on → k.fifo ≡ on → (if b then j else k).fifo ≡ on
either_fifo true j k on p q = p
either_fifo false j k on p q = q

fifo_look_shown : (k : Kept) (interrupts isr : ℕ) (m n : MachineState) → kept_in m.chip ≡ k →
    Path MachineStep m (fifo_look interrupts isr) n → has isr ISR.FIFOS_ENABLED.0 ≡ k.fifo
fifo_look_shown k interrupts isr m n e (m₁, s₁, (m₂, s₂, more)) =
    fifo_shown m₁ m₂ isr s₂ ∙ (ap (λ (j : Kept). j.fifo) (kept_step (Write offsets.IER 0) m m₁ s₁ ∙ ap (keep (Write offsets.IER 0)) e)
    ∙ either_fifo (is_dlab_set k.latches) _ _ k.fifo refl refl)

finds_fifos : (s : Settings) (interrupts : ℕ) (k : Kept) →
    Finds s (ShowsFifos interrupts) k (kept_after (fifo_look interrupts 0) k) (k.fifo ≡ s.fifo)
finds_fifos s interrupts k = record {
  so = λ l m n e t path.
      sym (fifo_look_shown k interrupts t.0 m n e (path_as m n l (fifo_look interrupts t.0) t.2 path)) ∙ t.1;
  leaves = λ l m n e t path. kept_list l (fifo_look interrupts t.0) m n t.2 path ∙ ap (kept_after (fifo_look interrupts 0)) e;
  wrong = λ x l m n e t path so.
      t.1 (fifo_look_shown k interrupts t.0 m n e (path_as m n l (fifo_look interrupts t.0) t.3 path) ∙ so);
}

-- ---- all registers

-- what a check asks for
abbrev AllSo : (frame outputs interrupts divisor : ℕ) → (fifo : Bool) → Kept → Type 0
AllSo frame outputs interrupts d fifo k =
    (without 8 k.latches.lcr LCR.SET_BREAK.0 ≡ frame)
    × ((k.latches.mcr ≡ outputs) × ((at_ier k ≡ interrupts) × ((divisor k.latches ≡ d) × (k.fifo ≡ fifo))))

finds_all : (s : Settings) (frame outputs interrupts d : ℕ) (k : Kept) →
    Finds s (ShowsAll frame outputs interrupts d) k (kept_after (fifo_look interrupts 0) k) (AllSo frame outputs interrupts d s.fifo k)
finds_all s frame outputs interrupts d k =
    let latch : Verdict → Language = InTurn (ShowsDivisor d) (ShowsFifos interrupts) in
    let enabled : Verdict → Language = InTurn (ShowsInterrupts interrupts) latch in
    let control : Verdict → Language = InTurn (ShowsOutputs outputs) enabled in
    finds_in_turn s (ShowsFrame frame) control k k _ _ _
    (finds_shown s offsets.LCR (λ (j : Kept). j.latches.lcr) (λ v. without 8 v LCR.SET_BREAK.0 ≡ frame) _ k lcr_kept)
    (finds_in_turn s (ShowsOutputs outputs) enabled k k _ _ _
    (finds_shown s offsets.MCR (λ (j : Kept). j.latches.mcr) (λ v. v ≡ outputs) _ k mcr_kept)
    (finds_in_turn s (ShowsInterrupts interrupts) latch k k _ _ _
    (finds_shown s offsets.IER at_ier (λ v. v ≡ interrupts) _ k ier_kept)
    (finds_in_turn s (ShowsDivisor d) (ShowsFifos interrupts) k k _ _ _ (finds_whole s d k) (finds_fifos s interrupts k))))

-- ---- the answer

-- a configured frame has no DLAB
frame_closed : (config : Config) (lcr : ℕ) → without 8 lcr LCR.SET_BREAK.0 ≡ frame_bits config → has_any lcr LCR.DLAB.0 ≡ false
frame_closed config lcr e = sym (has_and 7 lcr 191 refl) ∙ (ap (λ (v : ℕ). has_any v LCR.DLAB.0) e ∙ frame-dlab config)

ier_shown : (k : Kept) → is_dlab_set k.latches ≡ false → at_ier k ≡ k.latches.ier
ier_shown k off = ap (λ (b : Bool). if b then k.latches.dlm else k.latches.ier) off

configured : (s : State) (outputs d : ℕ) → IsComputable (fields (inner_of s)).config → DivisorOf (fields (inner_of s)).config (Ok d) →
    AllSo (frame_bits (fields (inner_of s)).config) (unlooped outputs) (fields (inner_of s)).config.interrupts.0 d
    (fields (inner_of s)).fifo (kept_in (machine_of s).chip) → IsConfigured outputs s
configured s outputs d ok of so = record {
  computable = ok;
  lcr = so.0;
  mcr = so.1.0;
  ier = sym (ier_shown (kept_in (machine_of s).chip) (frame_closed (fields (inner_of s)).config (latches_of s).lcr so.0)) ∙ so.1.1.0;
  divisor_latch = subst (λ n. DivisorOf (fields (inner_of s)).config (Ok n)) (sym so.1.1.1.0) of;
  fifo = so.1.1.1.1;
}

all_so : (s : State) (outputs d : ℕ) → IsConfigured outputs s → DivisorOf (fields (inner_of s)).config (Ok d) →
    AllSo (frame_bits (fields (inner_of s)).config) (unlooped outputs) (fields (inner_of s)).config.interrupts.0 d
    (fields (inner_of s)).fifo (kept_in (machine_of s).chip)
all_so s outputs d c of =
    let config = (fields (inner_of s)).config in (
      c.lcr,
      (
        c.mcr,
        (
          ier_shown (kept_in (machine_of s).chip) (frame_closed config (latches_of s).lcr c.lcr) ∙ c.ier,
          (divisor_one config c.computable (divisor (latches_of s)) d c.divisor_latch.0 of.0, c.fifo),
        ),
      ),
    )

-- what is found, and what is so
pub check_found : (s : State) (outputs : ℕ) (found : Verdict) (l : List Access) (n : MachineState) →
    ChecksConfigured (fields (inner_of s)).config outputs found (settings_of (fields (inner_of s))) l →
    Path MachineStep (machine_of s) l n → (found ≡ Ok tt → IsConfigured outputs s) × (IsConfigured outputs s → found ≡ Ok tt)
check_found s outputs (Ok tt) l n (d, is, all) path =
    let config = (fields (inner_of s)).config in
    let finds = finds_all (settings_of (fields (inner_of s))) (frame_bits config) (unlooped outputs) config.interrupts.0 d
    (kept_in (machine_of s).chip) in
    ((λ same. configured s outputs d is.0 is.1 (finds.so l (machine_of s) n refl all path)), (λ c. refl))
check_found s outputs (Err e) l n (inl (none, told, is)) path =
    let config = (fields (inner_of s)).config in (
      (λ same. absurd (cc)),
      (λ c. let cause = none c.computable in
          absurd (no_divisor config c.computable (divisor (latches_of s)) cause.0 c.divisor_latch cause.1)),
    )
check_found s outputs (Err e) l n (inr (d, is, all)) path =
    let config = (fields (inner_of s)).config in
    let finds = finds_all (settings_of (fields (inner_of s))) (frame_bits config) (unlooped outputs) config.interrupts.0 d
    (kept_in (machine_of s).chip) in
    ((λ same. absurd (cc)), (λ c. absurd (finds.wrong e l (machine_of s) n refl all path (all_so s outputs d c is.1))))

pub checks : (s t : State) (outputs : MCR) (a : Answer) → CallStep s (call.CheckConfigured outputs) a t → Checks outputs.0 s a
checks s t outputs a h = answered h.outcome h.answered
    (check_found s outputs.0 h.outcome h.did.list (machine_of t) h.did.does.0 h.did.path)
  where
    answered : (found : Verdict) → a ≡ configured_answer found →
        (found ≡ Ok tt → IsConfigured outputs.0 s) × (IsConfigured outputs.0 s → found ≡ Ok tt) → Checks outputs.0 s a
    answered (Ok tt) e both = ((λ same. both.0 refl), (λ c. e))
    answered (Err x) e both = ((λ same. absurd (cc)), (λ c. let wrong = both.1 c in absurd (cc)))
