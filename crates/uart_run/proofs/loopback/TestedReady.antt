-- A loopback test leaves a ready state ready, whatever it answers.
use Rattle.uart_run.proofs.Names.{◌≡◌, ◌&&◌, ℕ, Bool, true, false, inl, inr, List, [], ◌∷◌, Result, Option, refl, sym, ◌∙◌, ap, bit_and}
use Rattle.uart_run.proofs.Names.{if◌then◌else◌, without, LoopbackError, FifoTriggerLevel, Path, Access, Read, Write, Settings, Only, Then}
use Rattle.uart_run.proofs.Names.{Fields, fields, settings_of, Saving, Sets, Next, with_fifo, WaitsFor, SetsFifo, Exchanges, EntersAt}
use Rattle.uart_run.proofs.Names.{Enters, Leaves, BeginsTest, Tests, TestsLoopback, inner_of, Answer, has_any, ier_bits, kept_mcr}
use Rattle.uart_run.proofs.Names.{is_dlab_set, MachineState, MachineStep, State, machine_of, CallStep, BurstsFit, Ready, has_fifo, is_level}
use Rattle.uart_run.proofs.Names.{IsSound, kept_bit, sound_path, path_as}
use Rattle.uart_spec.specs.declared.registers.offsets.TheConstants as offsets
use Rattle.uart_spec.specs.declared.registers.line_status.TheConstants.LSR
use Rattle.uart_spec.specs.declared.registers.modem_control.TheConstants.MCR
use Rattle.uart_call.specs.declared.call.Call.TheVariants as call
use Rattle.uart_run.proofs.{SizeKept.fits_kept, Pieces.then_parts, Pieces.next_stages, KeptLists.kept_still, built.Loopback.begins_test}
use Rattle.uart_run.proofs.{built.Loopback.exchanges, initialising.FifoSteps.sets_fifo, initialising.Initialised.ready_by}
use Rattle.uart_run.proofs.Latches.{Kept, kept_in, keep_write, kept_after, kept_list, kept_access, LeftBy}

-- ---- the first wait

-- MCR is read as it is
pub mcr_read : (s : Settings) (mcr ier : ℕ) (empty : Bool) (l : List Access) (m n : MachineState) → BeginsTest mcr ier empty s l →
    Path MachineStep m l n → mcr ≡ m.chip.latches.mcr
mcr_read s mcr ier empty l m n t p =
    let a = then_parts (Only (Read offsets.MCR mcr ∷ Read offsets.IER ier ∷ [])) (WaitsFor LSR.TRANSMITTER_EMPTY.0 empty) s l m n t p in
    first a.between (path_as m a.between a.front (Read offsets.MCR mcr ∷ Read offsets.IER ier ∷ []) a.first.is a.before)
  where
    first : (o : MachineState) → Path MachineStep m (Read offsets.MCR mcr ∷ Read offsets.IER ier ∷ []) o → mcr ≡ m.chip.latches.mcr
    first o (m₁, s₁, rest) = s₁.1 ∙ ap (λ (k : Kept). k.latches.mcr) (kept_access m)

-- ---- into loopback

-- the registers in loopback
abbrev pub looped : Bool → Kept → Kept
looped on k = record k { latches = record k.latches { ier = 0; mcr = MCR.LOOP_BACK.0 }; fifo = on }

-- loopback is entered with FIFOs of this level, and the driver takes the FIFO to be as it is
pub record Entered (level : Option FifoTriggerLevel) (on : Bool) (m n : MachineState) (after : Fields) : Type 0 where
  pub kept : kept_in n.chip ≡ looped on (kept_in m.chip)
  pub knows : after.fifo ≡ on
  pub is_on : on ≡ (is_level level && has_fifo m.chip.model)

pub entered : (level : Option FifoTriggerLevel) (before : ℕ) (on : Bool) (f after : Fields) (l : List Access) (m n : MachineState) →
    IsSound m → is_dlab_set m.chip.latches ≡ false → EntersAt level before on f l after → Path MachineStep m l n →
    Entered level on m n after
entered level before on f after l m n w dlab t p =
    let modes : List Access = Read offsets.MSR before ∷ Write offsets.IER 0 ∷ Write offsets.MCR MCR.LOOP_BACK.0 ∷ [] in
    let a = next_stages (Saving (Then (Only modes) (SetsFifo level on))) (Sets (with_fifo on)) f after l m n t p in
    let b = then_parts (Only modes) (SetsFifo level on) (settings_of f) a.parts.front m a.parts.between
    a.parts.first.0 a.parts.before in
    let first = kept_list b.front modes m b.between b.first.is b.before ∙ written (kept_in m.chip) dlab in
    let set = sets_fifo level on (settings_of f) b.back b.between a.parts.between
    (sound_path b.front m b.between w b.before) b.second b.after in
    record {
      kept =
          kept_list a.parts.back [] a.parts.between n a.parts.second.0 a.parts.after
          ∙ (set.kept ∙ ap (λ (k : Kept). record k { fifo = on }) first);
      knows = ap (λ (g : Fields). g.fifo) a.parts.second.1;
      is_on = set.is_on ∙ ap (λ (k : Kept). is_level level && has_fifo k.model) first;
    }
  where
    written : (k : Kept) → is_dlab_set k.latches ≡ false →
        kept_after (Read offsets.MSR before ∷ Write offsets.IER 0 ∷ Write offsets.MCR MCR.LOOP_BACK.0 ∷ []) k ≡
        record k { latches = record k.latches { ier = 0; mcr = MCR.LOOP_BACK.0 } }
    written k d =
        ap
        (λ (b : Bool). keep_write offsets.MCR MCR.LOOP_BACK.0
        (if b then record k { latches = record k.latches { dlm = 0 } } else record k { latches = record k.latches { ier = 0 } })) d

-- ---- out of loopback

-- the accesses by which the modes are written back
abbrev pub leaving : (mcr ier now : ℕ) → List Access
leaving mcr ier now =
    Write offsets.MCR (without 8 mcr MCR.OUT_2_INT_ENABLE.0) ∷ Read offsets.MSR now ∷ Write offsets.MCR mcr ∷ Write offsets.IER ier ∷ []

-- what is kept after them
abbrev pub restored : ℕ → ℕ → Kept → Kept
restored mcr ier k = record k { latches = record k.latches { ier = bit_and ier ier_bits; mcr = kept_mcr k.auto_flow mcr } }

pub written_back : (mcr ier now : ℕ) (k : Kept) → is_dlab_set k.latches ≡ false → kept_after (leaving mcr ier now) k ≡ restored mcr ier k
written_back mcr ier now k d =
    let shown : Kept = record k { latches = record k.latches { mcr = kept_mcr k.auto_flow mcr; dlm = ier } } in
    ap (λ (b : Bool). if b then shown else restored mcr ier k) d

pub leaves_list : (mcr ier before noted : ℕ) (f after : Fields) (l : List Access) (t : Leaves mcr ier before noted f l after) →
    l ≡ leaving mcr ier t.0
leaves_list mcr ier before noted f after l (now, t) =
    rw (
      t.whole,
      t.first.0.is,
      t.second.whole,
      t.second.first.0.is,
      t.second.second.whole,
      t.second.second.first.0.is,
      t.second.second.second.0,
    ) refl

pub left : (mcr ier before noted : ℕ) (f after : Fields) (l : List Access) (m n : MachineState) →
    (t : Leaves mcr ier before noted f l after) → Path MachineStep m l n → LeftBy (leaving mcr ier t.0) f after m n
left mcr ier before noted f after l m n (now, t) p =
    let fifo : Fields → Bool = λ g. g.fifo in
    record {
      kept = kept_list l (leaving mcr ier now) m n (leaves_list mcr ier before noted f after l (now, t)) p;
      knows = ap fifo t.second.second.second.1 ∙ (ap fifo t.second.second.first.1 ∙ (ap fifo t.second.first.1 ∙ ap fifo t.first.1));
    }

-- ---- all of it

tests_ready : {T : Type 0} (result : Result T LoopbackError) (mcr ier : ℕ) (f : Fields) (l : List Access) (m : MachineState) (t : State) →
    IsSound m → is_dlab_set m.chip.latches ≡ false → has_any mcr MCR.LOOP_BACK.0 ≡ false → Tests mcr ier result f l (fields (inner_of t)) →
    Path MachineStep m l (machine_of t) → BurstsFit t → Ready t
tests_ready result mcr ier f l m t w dlab no_loop (before, on, does) p fits =
    let after = fields (inner_of t) in
    let n = machine_of t in
    let a = next_stages (Enters before on) (Next (Saving (Exchanges result)) (Leaves mcr ier before f.lsr)) f after l m n does p in
    let b = next_stages (Saving (Exchanges result)) (Leaves mcr ier before f.lsr) a.mid after a.parts.back a.parts.between
    n a.parts.second a.parts.after in
    let e = entered f.config.fifo_trigger_level before on f a.mid a.parts.front m a.parts.between w dlab a.parts.first a.parts.before in
    joined a.parts.between b.parts.between b.mid b.parts.second.0 e.kept
    (λ d. kept_still (exchanges result) refl (settings_of a.mid) b.parts.front a.parts.between b.parts.between d
    b.parts.first.0 b.parts.before)
    (left mcr ier before f.lsr b.mid after b.parts.back b.parts.between n b.parts.second b.parts.after)
    (ap (λ (g : Fields). g.fifo) b.parts.first.1 ∙ e.knows)
  where
    joined : (m₁ m₂ : MachineState) (g : Fields) (now : ℕ) → kept_in m₁.chip ≡ looped on (kept_in m.chip) →
        (is_dlab_set m₁.chip.latches ≡ false → kept_in m₂.chip ≡ kept_in m₁.chip) →
        LeftBy (leaving mcr ier now) g (fields (inner_of t)) m₂ (machine_of t) → g.fifo ≡ on → Ready t
    joined m₁ m₂ g now set still out knows =
        let dlab₁ : is_dlab_set m₁.chip.latches ≡ false = ap (λ (k : Kept). is_dlab_set k.latches) set ∙ dlab in
        let back = ap (kept_after (leaving mcr ier now)) (still dlab₁ ∙ set) ∙ written_back mcr ier now (looped on (kept_in m.chip)) dlab in
        ready_by t (restored mcr ier (looped on (kept_in m.chip))) (out.kept ∙ back) dlab
        (kept_bit m.chip.auto_flow 4 mcr refl refl ∙ no_loop) (out.knows ∙ knows) fits

-- MCR is written back as it was
pub tested_ready : (s t : State) (a : Answer) → IsSound (machine_of s) → CallStep s call.TestLoopback a t → Ready s → Ready t
tested_ready s t a w h ready = go h.did.does
  where
    fits : BurstsFit t
    fits = fits_kept s t call.TestLoopback a h (inr ready.dlab) ready.fits

    go : TestsLoopback h.outcome (fields (inner_of s)) h.did.list (fields (inner_of t)) → Ready t
    go (mcr, ier, inl (stalls, (begins, same))) =
        let still = kept_still (begins_test mcr ier false) refl (settings_of (fields (inner_of s))) h.did.list (machine_of s)
        (machine_of t) ready.dlab begins h.did.path in
        ready_by t (kept_in (machine_of s).chip) still ready.dlab ready.loopback (ap (λ (g : Fields). g.fifo) same ∙ sym ready.fifo)
        fits
    go (mcr, ier, inr does) =
        let v = settings_of (fields (inner_of s)) in
        let a = next_stages (Saving (BeginsTest mcr ier true)) (Tests mcr ier h.outcome) (fields (inner_of s)) (fields (inner_of t))
        h.did.list (machine_of s) (machine_of t) does h.did.path in
        let still = kept_still (begins_test mcr ier true) refl v a.parts.front (machine_of s) a.parts.between
        ready.dlab a.parts.first.0 a.parts.before in
        tests_ready h.outcome mcr ier a.mid a.parts.back a.parts.between t
        (sound_path a.parts.front (machine_of s) a.parts.between w a.parts.before)
        (ap (λ (k : Kept). is_dlab_set k.latches) still ∙ ready.dlab)
        (ap (λ b. has_any b MCR.LOOP_BACK.0) (mcr_read v mcr ier true a.parts.front (machine_of s) a.parts.between a.parts.first.0
        a.parts.before) ∙ ready.loopback)
        a.parts.second a.parts.after fits
