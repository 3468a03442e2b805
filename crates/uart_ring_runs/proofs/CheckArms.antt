-- `check_configured` leaves the THR-empty interrupt: it looks at ISR while no interrupt is enabled, so that none is acknowledged, and then
-- enables those that IER has shown.
use Rattle.uart_ring_runs.proofs.Names.{◌≡◌, ℕ, ◌==◌, true, false, inl, inr, List, [], ◌∷◌, ◌++◌, refl, sym, ◌∙◌, ap, Ok, Err, false≢true}
use Rattle.uart_ring_runs.proofs.Names.{Path, has, has_any, Access, Read, Write, Config, unlooped, Language, Settings, frame_bits}
use Rattle.uart_ring_runs.proofs.Names.{ChipState, interrupt, is_dlab_set, is_thr_empty, ier_bits, MachineState, MachineStep, at_access}
use Rattle.uart_ring_runs.proofs.Names.{path_as, lasts-before, Kept, kept_access, kept_path, then_parts, ThrEmpty, thr_empty_of}
use Rattle.std.specs.Int.Bits.{and_zero_l}
use Rattle.uart_spec.specs.declared.errors.ConfigurationError.{ConfigurationError}
use Rattle.uart_spec.specs.declared.registers.interrupt_enable.TheConstants.IER
use Rattle.uart_spec.specs.declared.registers.line_control.TheConstants.LCR
use Rattle.uart_spec.specs.declared.registers.offsets.TheConstants as offsets
use Rattle.uart_16550.specs.Configured.{Verdict, Shows, InTurn, ShowsFrame, ShowsOutputs, ShowsInterrupts, ShowsDivisor, ShowsFifos}
use Rattle.uart_16550.specs.Configured.{ShowsAll, ChecksConfigured, fifo_look}
use Rattle.uart_run.proofs.CheckLists.{LatchList, latch_list, latched, opened}
use Rattle.uart_ring_runs.proofs.RingDue.{IsDue, IsDlabOff, due-read, due-tick, due_says, says_due, ier_answer, off_access}
use Rattle.uart_ring_runs.proofs.{RingDue.off_step, RingDue.path_holds, ThrSpared.IsThrArmed, ThrSpared.AllSpare, ThrSpared.spared_list}

-- the interrupt is enabled and due, and DLAB is off; a list of the language leaves it so
record IsAt (m : MachineState) : Type 0 where
  pub armed : IsThrArmed m
  pub off : IsDlabOff m

abbrev Arms : Language → Type 0
Arms L = (s : Settings) (l : List Access) (m n : MachineState) → L s l → Path MachineStep m l n → IsAt m → IsAt n

-- one read of another register than ISR
reads_arm : (register value : ℕ) (l : List Access) (m n : MachineState) → (register == offsets.ISR) ≡ false →
    l ≡ Read register value ∷ [] → Path MachineStep m l n → IsAt m → IsAt n
reads_arm register value l m n other is path at =
    let p = path_as m n l (Read register value ∷ []) is path in
    record {
      armed = spared_list (Read register value ∷ []) m n (other, tt) p at.armed;
      off = let still = off_step (Read register value) m p.0 tt at.off p.1 in rw p.2 still;
    }

shows_arm : (register : ℕ) (IsRight : ℕ → Type 0) (fault : ℕ → ConfigurationError) (v : Verdict) → (register == offsets.ISR) ≡ false →
    Arms (Shows register IsRight fault v)
shows_arm register IsRight fault (Ok x) other s l m n (shown, right, is) path at = reads_arm register shown l m n other is path at
shows_arm register IsRight fault (Err e) other s l m n (shown, wrong, told, is) path at = reads_arm register shown l m n other is path at

in_turn_arms : (P Q : Verdict → Language) → ((v : Verdict) → Arms (P v)) → ((v : Verdict) → Arms (Q v)) → (v : Verdict) →
    Arms (InTurn P Q v)
in_turn_arms P Q p q (Ok tt) s l m n t path at =
    let a = then_parts (P (Ok tt)) (Q (Ok tt)) s l m n t path in
    q (Ok tt) s a.back a.between n a.second a.after (p (Ok tt) s a.front m a.between a.first a.before at)
in_turn_arms P Q p q (Err e) s l m n (inl t) path at = p (Err e) s l m n t path at
in_turn_arms P Q p q (Err e) s l m n (inr t) path at =
    let a = then_parts (P (Ok tt)) (Q (Err e)) s l m n t path in
    q (Err e) s a.back a.between n a.second a.after (p (Ok tt) s a.front m a.between a.first a.before at)

-- ---- the divisor latch

latch_spares : (l : List Access) → LatchList l → AllSpare l
latch_spares _ (LatchList.Ignored lcr shown) = (refl, ((refl, refl), (refl, ((refl, refl), tt))))
latch_spares _ (LatchList.Looked lcr low high closed) =
    (refl, ((refl, refl), (refl, (refl, (refl, ((refl, refl), (refl, tt)))))))

lcr_shown : (m n : MachineState) (value : ℕ) → MachineStep m (Read offsets.LCR value) n → value ≡ m.chip.latches.lcr
lcr_shown m n value s = s.1 ∙ ap (λ (k : Kept). k.latches.lcr) (kept_access m)

dlab_shown : (m n : MachineState) (value : ℕ) → IsDlabOff m → MachineStep m (Read offsets.LCR value) n → has_any value LCR.DLAB.0 ≡ false
dlab_shown m n value off s = ap (λ (v : ℕ). has_any v LCR.DLAB.0) (lcr_shown m n value s) ∙ off

latch_off : (l : List Access) (m n : MachineState) → LatchList l → IsDlabOff m → Path MachineStep m l n → IsDlabOff n
latch_off _ m n (LatchList.Ignored lcr shown) off path =
    ap (λ (k : Kept). is_dlab_set k.latches) (kept_path (latched lcr (Read offsets.LCR shown ∷ [])) m n path)
    ∙ dlab_shown m path.0 lcr off path.1
latch_off _ m n (LatchList.Looked lcr low high closed) off path =
    ap (λ (k : Kept). is_dlab_set k.latches)
    (kept_path (latched lcr (Read offsets.LCR (opened lcr) ∷ Read offsets.DLL low ∷ Read offsets.DLM high ∷ [])
    ++ Read offsets.LCR closed ∷ []) m n path)
    ∙ dlab_shown m path.0 lcr off path.1

divisor_arms : (divisor : ℕ) (v : Verdict) → Arms (ShowsDivisor divisor v)
divisor_arms divisor v s l m n t path at =
    let is = latch_list divisor v s l t in
    record { armed = spared_list l m n (latch_spares l is) path at.armed; off = latch_off l m n is at.off path }

-- ---- the look at ISR

abbrev waiting_off : ThrEmpty
waiting_off = record { enabled = false; due = true }

-- while IER is 0 no interrupt is identified
none_enabled : (c : ChipState) → c.latches.ier ≡ 0 → is_thr_empty (interrupt c) ≡ false
none_enabled c e = rw e refl

looked_isr : (m n : MachineState) (isr : ℕ) → m.chip.latches.ier ≡ 0 → (thr_empty_of m).due ≡ true →
    MachineStep m (Read offsets.ISR isr) n → (thr_empty_of n).due ≡ true
looked_isr m n isr none due s =
    let c = (at_access m).chip in
    let still : c.latches.ier ≡ 0 = ap (λ (k : Kept). k.latches.ier) (kept_access m) ∙ none in
    let before : IsDue c.transmitter = lasts-before IsDue due-tick m.ahead m.chip (due_says m.chip.transmitter due) in
    says_due n.chip.transmitter (rw s.0 (due-read offsets.ISR c (λ _. none_enabled c still) before))

fifos_arm : (interrupts isr : ℕ) (l : List Access) (m n : MachineState) → has interrupts IER.THR_EMPTY.0 ≡ true →
    l ≡ fifo_look interrupts isr → Path MachineStep m l n → IsAt m → IsAt n
fifos_arm interrupts isr l m n enabled is path at = go (path_as m n l (fifo_look interrupts isr) is path)
  where
    go : Path MachineStep m (fifo_look interrupts isr) n → IsAt n
    go (m₁, s₁, (m₂, s₂, (m₃, s₃, e))) =
        let live : ThrEmpty = record { enabled = true; due = true } in
        let first = path_holds live (Write offsets.IER 0 ∷ []) m m₁ (refl, tt) at.off (λ e. at.armed.0, λ e. at.armed.1) (m₁, s₁, refl) in
        let off₁ = off_step (Write offsets.IER 0) m m₁ refl at.off s₁ in
        let there = off_access m at.off in
        let none : m₁.chip.latches.ier ≡ 0 =
        ap (λ (o : MachineState). o.chip.latches.ier) s₁ ∙ rw there (and_zero_l ier_bits) in
        let due₂ = looked_isr m₁ m₂ isr none (first.1.1 refl) s₂ in
        let off₂ = off_step (Read offsets.ISR isr) m₁ m₂ tt off₁ s₂ in
        let last = path_holds waiting_off (Write offsets.IER interrupts ∷ []) m₂ m₃ (refl, tt) off₂
        (λ e. absurd (false≢true e), λ e. due₂) (m₃, s₃, refl) in
        let off₃ = off_step (Write offsets.IER interrupts) m₂ m₃ refl off₂ s₃ in
        let after : IsAt m₃ = record { armed = (last.1.0 enabled, last.1.1 refl); off = off₃ } in
        rw e after

shows_fifos_arm : (interrupts : ℕ) → has interrupts IER.THR_EMPTY.0 ≡ true → (v : Verdict) → Arms (ShowsFifos interrupts v)
shows_fifos_arm interrupts enabled (Ok x) s l m n (isr, same, is) path at = fifos_arm interrupts isr l m n enabled is path at
shows_fifos_arm interrupts enabled (Err e) s l m n (isr, other, told, is) path at = fifos_arm interrupts isr l m n enabled is path at

-- ---- the registers in turn

-- IER shows these interrupts, so THR_EMPTY is among them
enabled_shown : (interrupts shown : ℕ) (l : List Access) (m n : MachineState) → shown ≡ interrupts → l ≡ Read offsets.IER shown ∷ [] →
    Path MachineStep m l n → IsAt m → has interrupts IER.THR_EMPTY.0 ≡ true
enabled_shown interrupts shown l m n right is path at =
    let p = path_as m n l (Read offsets.IER shown ∷ []) is path in
    let same : interrupts ≡ m.chip.latches.ier = sym right ∙ ier_answer shown m p.0 at.off p.1 in
    ap (λ (v : ℕ). has v IER.THR_EMPTY.0) same ∙ at.armed.0

interrupts_arm : (interrupts : ℕ) (Q : Verdict → Language) → (has interrupts IER.THR_EMPTY.0 ≡ true → (v : Verdict) → Arms (Q v)) →
    (v : Verdict) → Arms (InTurn (ShowsInterrupts interrupts) Q v)
interrupts_arm interrupts Q q (Ok tt) s l m n t path at =
    let a = then_parts (ShowsInterrupts interrupts (Ok tt)) (Q (Ok tt)) s l m n t path in
    let enabled = enabled_shown interrupts a.first.0 a.front m a.between a.first.1 a.first.2 a.before at in
    q enabled (Ok tt) s a.back a.between n a.second a.after
    (reads_arm offsets.IER a.first.0 a.front m a.between refl a.first.2 a.before at)
interrupts_arm interrupts Q q (Err e) s l m n (inl t) path at =
    shows_arm offsets.IER (λ shown. shown ≡ interrupts) _ (Err e) refl s l m n t path at
interrupts_arm interrupts Q q (Err e) s l m n (inr t) path at =
    let a = then_parts (ShowsInterrupts interrupts (Ok tt)) (Q (Err e)) s l m n t path in
    let enabled = enabled_shown interrupts a.first.0 a.front m a.between a.first.1 a.first.2 a.before at in
    q enabled (Err e) s a.back a.between n a.second a.after
    (reads_arm offsets.IER a.first.0 a.front m a.between refl a.first.2 a.before at)

all_arm : (frame outputs interrupts divisor : ℕ) (v : Verdict) → Arms (ShowsAll frame outputs interrupts divisor v)
all_arm frame outputs interrupts divisor v =
    let latch : Verdict → Language = InTurn (ShowsDivisor divisor) (ShowsFifos interrupts) in
    let enabled : Verdict → Language = InTurn (ShowsInterrupts interrupts) latch in
    let control : Verdict → Language = InTurn (ShowsOutputs outputs) enabled in
    in_turn_arms (ShowsFrame frame) control (λ v. shows_arm offsets.LCR _ _ v refl)
    (in_turn_arms (ShowsOutputs outputs) enabled (λ v. shows_arm offsets.MCR _ _ v refl)
    (interrupts_arm interrupts latch
    (λ e. in_turn_arms (ShowsDivisor divisor) (ShowsFifos interrupts) (divisor_arms divisor) (shows_fifos_arm interrupts e)))) v

pub checks_arm : (config : Config) (outputs : ℕ) (v : Verdict) (s : Settings) (l : List Access) (m n : MachineState) →
    ChecksConfigured config outputs v s l → IsDlabOff m → Path MachineStep m l n → IsThrArmed m → IsThrArmed n
checks_arm config outputs (Ok tt) s l m n (divisor, is, t) off path h =
    (all_arm (frame_bits config) (unlooped outputs) config.interrupts.0 divisor (Ok tt) s l m n t path
    (record { armed = h; off = off })).armed
checks_arm config outputs (Err e) s l m n (inl (none, told, is)) off path h = spared_list l m n (rw is tt) path h
checks_arm config outputs (Err e) s l m n (inr (divisor, is, t)) off path h =
    (all_arm (frame_bits config) (unlooped outputs) config.interrupts.0 divisor (Err e) s l m n t path
    (record { armed = h; off = off })).armed
