-- Over the software chip, good accesses show the latches as they are, and leave them so.
use Rattle.std.proofs.Common.{◌≡◌, ℕ, zero, suc, Bool, true, false, not, ◌&&◌, ◌==◌, List, [], ◌∷◌, ◌++◌, Option, Some, None, refl, sym}
use Rattle.std.proofs.Common.{◌∙◌, ap, subst, arith, if◌then◌else◌, bit_and}
use Rattle.std.specs.Prelude.{nat_lt}
use Rattle.std.proofs.lemmas.Grind.{common_steps}
use Rattle.std.proofs.lemmas.Nat.{and_assoc}
use Rattle.uart_spec.specs.Access.{Path}
use Rattle.uart_spec.specs.Bits.{has, has_any}
use Rattle.uart_spec.specs.declared.access.Access.{Access as RegisterAccess}
use Rattle.uart_spec.specs.declared.access.Access.TheVariants.{Read, Write}
use Rattle.uart_spec.specs.declared.registers.interrupt_status.TheConstants.ISR as isr_bits
use Rattle.uart_spec.specs.declared.registers.interrupt_type.InterruptType.{InterruptType}
use Rattle.uart_spec.specs.declared.registers.line_control.TheConstants.LCR as lcr_bits
use Rattle.uart_spec.specs.declared.registers.offsets.TheConstants as offsets
use Rattle.uart_events.specs.declared.event.Chip.{Chip}
use Rattle.uart_events.specs.declared.event.Chip.TheVariants.{Uart16550A, Uart16450}
use Rattle.uart_chip.specs.Chip.{ChipState, LatchesState, interrupt, is_dlab_set}
use Rattle.uart_chip.proofs.FifoBits.{isr_of}
use Rattle.uart_chip.specs.Machine.{MachineState, MachineStep, at_access}
use Rattle.uart_chip.proofs.Bits.{has_one}
use Rattle.uart_run.proofs.initialising.FifoShown.{shows_64}
use Rattle.uart_judges.specs.Findings.{enables_some, is_cut_off}
use Rattle.uart_run.proofs.Latches.{Kept, kept_in, keep, keep_control, keep_write, kept_access, kept_step}
use Rattle.uart_judges_runs.specs.Calls.{AreTakenFrom, opened_by}
use Rattle.uart_judges_runs.specs.Causes.{Causes, IsShownFor, ShowsFor, line_while}
use Rattle.uart_judges_runs.proofs.GoodLists.{Causal, zero_of}
use Rattle.uart_judges_runs.proofs.Settled.{Stage}
use Rattle.uart_judges_runs.proofs.Walks.{GoodWrite, IsGood, Walks, by}

-- ---- no interrupt is pending where none is enabled

fewer : (v k : ℕ) → bit_and 15 k ≡ k → bit_and v 15 ≡ 0 → has_any v k ≡ false
fewer v k e none =
    let x : bit_and v k ≡ 0 = ap (bit_and v) (sym e) ∙ (sym (and_assoc k v 15) ∙ ap (λ (w : ℕ). bit_and w k) none) in
    ap (λ (w : ℕ). not (w == 0)) x

none_first : (a b d e p q r t u : Bool) (v w x y z : Option InterruptType) → a ≡ false → b ≡ false → d ≡ false → e ≡ false →
    (if a && p then v else if b && q then w else if b && r then x else if d && t then y else if e && u then z else None) ≡ None
none_first a b d e p q r t u v w x y z f g h i = rw (f, g, h, i) refl

none_pending : (c : ChipState) → bit_and c.latches.ier 15 ≡ 0 → interrupt c ≡ None
none_pending c e =
    let ier = c.latches.ier in
    none_first (has_any ier 4) (has_any ier 1) (has_any ier 2) (has_any ier 8) _ _ _ _ _ _ _ _ _ _ (fewer ier 4 refl e) (fewer ier 1 refl e)
    (fewer ier 2 refl e) (fewer ier 8 refl e)

-- ---- the latches

-- no interrupt is enabled, and OUT2 is on
pub record IsLatchedFor (c : Causes) (latches : LatchesState) : Type 0 where
  pub interrupts : c.interrupts_are_on ≡ false → enables_some (Some (record { 0 = latches.ier })) ≡ false
  pub out2 : c.out2_is_off ≡ false → is_cut_off (Some (record { 0 = latches.mcr })) ≡ false

-- LCR is as it is while DLAB is on or off, and the others give no other cause
pub record Holds (c : Causes) (line : ℕ) (opened : Bool) (k : Kept) : Type 0 where
  pub lcr : k.latches.lcr ≡ line_while opened line
  pub latched : IsLatchedFor c k.latches

abbrev pub HoldsIn : Causes → (line : ℕ) → (opened : Bool) → MachineState → Type 0
HoldsIn c line opened m = Holds c line opened (kept_in m.chip)

idle_shown : (on holds_64 : Bool) → has (isr_of on holds_64 None) isr_bits.INTERRUPT_STATUS.0 ≡ true
idle_shown true true = refl
idle_shown true false = refl
idle_shown false holds_64 = refl

if_not : (b : Bool) (x y : ℕ) → b ≡ false → (if b then x else y) ≡ y
if_not b x y e = rw e refl

module _ (c : Causes) (line : ℕ) (off : has line lcr_bits.DLAB.0 ≡ false) where
  -- ---- reads

  shows_chip : (opened : Bool) (m n : MachineState) (register value : ℕ) → MachineStep m (Read register value) n → HoldsIn c line opened m →
      ShowsFor c line opened register value
  shows_chip opened m n register value s h =
      let d = (at_access m).chip in
      let same : kept_in d ≡ kept_in m.chip = kept_access m in
      let k : Holds c line opened (kept_in d) = subst (λ (k : Kept). Holds c line opened k) (sym same) h in
      let at : (r : ℕ) → register ≡ r → MachineStep m (Read r value) n = λ r e. subst (λ (r : ℕ). MachineStep m (Read r value) n) e s in
      record {
        lcr = λ e. (at offsets.LCR e).1 ∙ k.lcr;
        enabled = λ e shut none.
            let closed : is_dlab_set d.latches ≡ false =
            sym (has_one 7 d.latches.lcr) ∙ (ap (λ (v : ℕ). has v lcr_bits.DLAB.0) (k.lcr ∙ ap (λ (b : Bool). line_while b line) shut)
            ∙ off) in
            let is : value ≡ d.latches.ier = (at offsets.IER e).1 ∙ if_not (is_dlab_set d.latches) d.latches.dlm d.latches.ier closed in
            ap (λ (v : ℕ). enables_some (Some (record { 0 = v }))) is ∙ k.latched.interrupts none;
        pending = λ e none.
            let idle : interrupt d ≡ None = none_pending d (zero_of (bit_and d.latches.ier 15) (k.latched.interrupts none)) in
            ap (λ (v : ℕ). has v isr_bits.INTERRUPT_STATUS.0) ((at offsets.ISR e).1
            ∙ ap (λ (o : Option InterruptType). isr_of d.fifo (shows_64 d) o) idle) ∙ idle_shown d.fifo (shows_64 d);
        out2 = λ e on. ap (λ (v : ℕ). is_cut_off (Some (record { 0 = v }))) (at offsets.MCR e).1 ∙ k.latched.out2 on;
      }

  shown_chip : (opened : Bool) (x : RegisterAccess) (m n : MachineState) → MachineStep m x n → HoldsIn c line opened m →
      IsShownFor c line opened x
  shown_chip opened (Read register value) m n s h = shows_chip opened m n register value s h
  shown_chip opened (Write register value) m n s h = tt

  -- ---- writes

  holds_if : (opened b : Bool) (x y : Kept) → Holds c line opened x → Holds c line opened y → Holds c line opened (if b then x else y)
  holds_if opened true x y p q = p
  holds_if opened false x y p q = q

  holds_control : (opened : Bool) (model : Chip) (value : ℕ) (k : Kept) → Holds c line opened k → Holds c line opened
      (keep_control model value k)
  holds_control opened Uart16450 value k h = h
  holds_control opened Uart16550A value k h = record { lcr = h.lcr; latched = h.latched }

  same_latches : (opened : Bool) (k j : Kept) → k.latches.lcr ≡ j.latches.lcr → k.latches.ier ≡ j.latches.ier →
      k.latches.mcr ≡ j.latches.mcr → Holds c line opened k → Holds c line opened j
  same_latches opened k j p q r h = record {
    lcr = sym p ∙ h.lcr;
    latched = record {
      interrupts = λ e. ap (λ (v : ℕ). enables_some (Some (record { 0 = v }))) (sym q) ∙ h.latched.interrupts e;
      out2 = λ e. ap (λ (v : ℕ). is_cut_off (Some (record { 0 = v }))) (sym r) ∙ h.latched.out2 e;
    };
  }

  written_off : (value : ℕ) → enables_some (Some (record { 0 = value })) ≡ false →
      enables_some (Some (record { 0 = bit_and value 15 })) ≡ false
  written_off value e = ap (λ (v : ℕ). enables_some (Some (record { 0 = v }))) (zero_of (bit_and value 15) e)

  holds_write : (f : Stage) (register value : ℕ) (k : Kept) → GoodWrite c line f register value → Holds c line f.opened k →
      Holds c line (opened_by (Write register value) f.opened) (keep_write register value k)
  holds_write f zero value k g h =
      holds_if f.opened (is_dlab_set k.latches) (record k { latches = record k.latches { dll = value } }) k
      (same_latches f.opened k _ refl refl refl h) h
  holds_write f (suc zero) value k g h =
      holds_if f.opened (is_dlab_set k.latches) (record k { latches = record k.latches { dlm = value } })
      (record k { latches = record k.latches { ier = bit_and value 15 } }) (same_latches f.opened k _ refl refl refl h)
      (record {
        lcr = h.lcr;
        latched = record { interrupts = λ e. written_off value (g.off refl e); out2 = h.latched.out2 };
      })
  holds_write f (suc (suc zero)) value k g h = holds_control f.opened k.model value k h
  holds_write f (suc (suc (suc zero))) value k g h =
      record { lcr = g.lcr refl; latched = record { interrupts = h.latched.interrupts; out2 = h.latched.out2 } }
  holds_write f (suc (suc (suc (suc zero)))) value k g h = absurd (let e : (4 == offsets.MCR) ≡ false = g.no_mcr in cc)
  holds_write f (suc (suc (suc (suc (suc zero))))) value k g h = h
  holds_write f (suc (suc (suc (suc (suc (suc zero)))))) value k g h = h
  holds_write f (suc (suc (suc (suc (suc (suc (suc zero))))))) value k g h = same_latches f.opened k _ refl refl refl h
  holds_write f (suc (suc (suc (suc (suc (suc (suc (suc n)))))))) value k g h =
      absurd (let r : nat_lt (suc (suc (suc (suc (suc (suc (suc (suc n)))))))) 8 ≡ true = g.real in grind (arith, common_steps))

  holds_keep : (f : Stage) (x : RegisterAccess) (k : Kept) → IsGood c line f x → Holds c line f.opened k →
      Holds c line (opened_by x f.opened) (keep x k)
  holds_keep f (Read register value) k g h = h
  holds_keep f (Write register value) k g h = holds_write f register value k g h

  holds_step : (f : Stage) (x : RegisterAccess) (m n : MachineState) → IsGood c line f x → MachineStep m x n → HoldsIn c line f.opened m →
      HoldsIn c line (opened_by x f.opened) n
  holds_step f x m n g s h =
      subst (λ (k : Kept). Holds c line (opened_by x f.opened) k) (sym (kept_step x m n s)) (holds_keep f x (kept_in m.chip) g h)

  -- ---- a list of them

  module _ (fifo : Bool) where
    -- they are good, and what follows them if it is so then
    pub path_walks : (l rest : List RegisterAccess) (f : Stage) (m n : MachineState) (End : Stage → Type 0) → Causal c line fifo f l End →
        AreTakenFrom fifo f.opened l → Path MachineStep m l n → HoldsIn c line f.opened m →
        ((g : Stage) → End g → HoldsIn c line g.opened n → Walks c line g rest) → Walks c line f (l ++ rest)
    path_walks [] rest f m n End p taken path h follow =
        follow f p (subst (λ (m : MachineState). HoldsIn c line f.opened m) (sym path) h)
    path_walks (x ∷ l) rest f m n End p taken path h follow =
        let shown = shown_chip f.opened x m path.0 path.1 h in
        let r = p (shown, taken.0) in
        (r.0, path_walks l rest (by x f) path.0 n End r.1 taken.1 path.2 (holds_step f x m path.0 r.0 path.1 h) follow)
