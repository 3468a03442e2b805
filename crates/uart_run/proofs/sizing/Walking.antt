-- How a `find_fifo_size` goes: a first wait, the way into loopback, the measure, the FIFO step, and the way out.
use Rattle.uart_run.proofs.Names.{◌≡◌, ◌⊎◌, ◌&&◌, ℕ, Bool, true, false, inl, inr, List, [], ◌∷◌, append-nil, Err, Option, Some, ◌≤◌, arith}
use Rattle.uart_run.proofs.Names.{refl, sym, ◌∙◌, ap, subst, bit_and, if◌then◌else◌, unwrap_or, Config, FifoSize, Stalled, FifoTriggerLevel}
use Rattle.uart_run.proofs.Names.{One, Path, Access, Read, Settings, Only, Fields, Saving, Sets, Next, fields, settings_of, with_fifo}
use Rattle.uart_run.proofs.Names.{WaitsFor, SetsFifo, level_of, EntersAt, Leaves, BeginsTest, Measures, SwitchesFifo, Sizes}
use Rattle.uart_run.proofs.Names.{SizesInLoopback, FindsFifoSize, inner_of, Chip, ier_bits, mcr_bits_of, kept_mcr, kept_same, out, cut_of}
use Rattle.uart_run.proofs.Names.{is_dlab_set, MachineState, MachineStep, IsSound, sound_path, Modes, IsIn, IsOpen, Stands, path_as}
use Rattle.uart_run.proofs.Names.{IsLooped, State, machine_of, has_fifo, transmitter_of, IsPlain, size_in, IsWithin}
use Rattle.uart_spec.specs.declared.registers.line_status.TheConstants.LSR
use Rattle.uart_spec.specs.declared.registers.offsets.TheConstants as offsets
use Rattle.uart_run.proofs.{NeverSwitched.does_never, SizeKept.size_left, SizeKept.left_plain, SizeKept.left_fixed, CallKeeps.quiet_blocks}
use Rattle.uart_run.proofs.{KeptLists.kept_still, Pieces.then_parts, Pieces.next_stages, initialising.FifoSteps.sets_fifo}
use Rattle.uart_run.proofs.{loopback.LoopTests.IsBegun, loopback.LoopTests.begun, loopback.LoopTests.looped_modes}
use Rattle.uart_run.proofs.{loopback.LoopTests.in_loopback, built.Loopback.begins_test, built.Loopback.enters_at, built.Sizing.measures}
use Rattle.uart_run.proofs.{loopback.TestedReady.left, sizing.Counting.Found, sizing.Measuring.FoundIn, sizing.Measuring.TellsAll}
use Rattle.uart_run.proofs.{sizing.Measuring.measured, sizing.Remaining.come_path}
use Rattle.uart_run.proofs.CallBlocks.{Makes, most_in, makes_then, passed_silently, waits_blocks}
use Rattle.uart_run.proofs.Latches.{Kept, kept_in, kept_after, kept_list, kept_step, kept_access}
use Rattle.uart_run.proofs.loopback.TestedReady.{entered, mcr_read, looped, restored, leaving, written_back}

-- ---- before the loopback

begins_blocks : (s : Settings) (mcr ier : ℕ) (empty : Bool) → Makes s (BeginsTest mcr ier empty) [] []
begins_blocks s mcr ier empty l t =
    makes_then s (Only (Read offsets.MCR mcr ∷ Read offsets.IER ier ∷ [])) (WaitsFor LSR.TRANSMITTER_EMPTY.0 empty) [] [] [] []
    (λ k u. rw u.is (quiet_blocks (most_in s) (Read offsets.MCR mcr ∷ Read offsets.IER ier ∷ []) (refl, (refl, tt))))
    (waits_blocks s LSR.TRANSMITTER_EMPTY.0 empty) l t

-- nothing is written before the loopback, so what the driver takes the FIFO to be is of no account
begins_out : (s : State) (n : MachineState) (mcr ier : ℕ) (empty : Bool) (l : List Access) → IsSound (machine_of s) → IsPlain s →
    BeginsTest mcr ier empty (settings_of (fields (inner_of s))) l → Path MachineStep (machine_of s) l n →
    out n.chip.transmitter ≡ out (machine_of s).chip.transmitter
begins_out s n mcr ier empty l sound r t path =
    let m = machine_of s in
    let v = settings_of (fields (inner_of s)) in
    let x : Modes = record { lcr = m.chip.latches.lcr; mcr = m.chip.latches.mcr; fifo = m.chip.fifo; cut = cut_of m.chip } in
    let in_modes : IsIn x m.chip = record { lcr = refl; mcr = refl; fifo = refl; cut = refl } in
    let stands : Stands x m = record { sound = sound; modes = in_modes } in
    let opened : IsOpen x = record { dlab = r.dlab; loopback = r.loopback } in
    let p = (passed_silently x (most_in v) m n l [] opened stands (begins_blocks v mcr ier empty l t) path).passed in
    p.went.sends.grows ∙ append-nil (out m.chip.transmitter)

-- IER is read as it is
ier_read : (s : Settings) (mcr ier : ℕ) (empty : Bool) (l : List Access) (m n : MachineState) → is_dlab_set m.chip.latches ≡ false →
    BeginsTest mcr ier empty s l → Path MachineStep m l n → ier ≡ m.chip.latches.ier
ier_read s mcr ier empty l m n dlab t p =
    let a = then_parts (Only (Read offsets.MCR mcr ∷ Read offsets.IER ier ∷ [])) (WaitsFor LSR.TRANSMITTER_EMPTY.0 empty) s l m n t p in
    second a.between (path_as m a.between a.front (Read offsets.MCR mcr ∷ Read offsets.IER ier ∷ []) a.first.is a.before)
  where
    second : (o : MachineState) → Path MachineStep m (Read offsets.MCR mcr ∷ Read offsets.IER ier ∷ []) o → ier ≡ m.chip.latches.ier
    second o (m₁, s₁, (m₂, s₂, same)) =
        s₂.1
        ∙ (ap (λ (k : Kept). if is_dlab_set k.latches then k.latches.dlm else k.latches.ier)
        (kept_access m₁ ∙ kept_step (Read offsets.MCR mcr) m m₁ s₁)
        ∙ ap (λ (b : Bool). if b then m.chip.latches.dlm else m.chip.latches.ier) dlab)

-- ---- what is put back

-- what is kept is as before, but for the FIFO
put_back : (mcr ier : ℕ) (on again : Bool) (k : Kept) → mcr ≡ k.latches.mcr → ier ≡ k.latches.ier →
    IsWithin k.latches.mcr (mcr_bits_of k.auto_flow) → bit_and k.latches.ier ier_bits ≡ k.latches.ier →
    restored mcr ier (record (looped on k) { fifo = again }) ≡ record k { fifo = again }
put_back mcr ier on again k same_mcr same_ier within_mcr within_ier =
    let back : ℕ → ℕ → Kept = λ (i c : ℕ). record k { fifo = again; latches = record k.latches { ier = i; mcr = c } } in
    ap (λ (i : ℕ). back i (kept_mcr k.auto_flow mcr)) (ap (λ (v : ℕ). bit_and v ier_bits) same_ier ∙ within_ier)
    ∙ ap (back k.latches.ier) (ap (kept_mcr k.auto_flow) same_mcr ∙ kept_same k.auto_flow k.latches.mcr within_mcr)

-- the level that FIFOs are set to that are on
abbrev pub level_on : Fields → Option FifoTriggerLevel
level_on f = level_of true f.config.fifo_trigger_level

-- ---- all of it

-- the call came to its first wait alone, which reached the limit
pub record StallsFirst (found : Found) (s t : State) : Type 0 where
  pub stalled : found ≡ Err Stalled
  pub out : out (transmitter_of t) ≡ out (transmitter_of s)
  pub kept : kept_in (machine_of t).chip ≡ kept_in (machine_of s).chip
  pub knows : (fields (inner_of t)).fifo ≡ (fields (inner_of s)).fifo

-- the level of the configuration
abbrev pub level_in : State → FifoTriggerLevel
level_in s = unwrap_or (fields (inner_of s)).config.fifo_trigger_level One

-- The FIFO step is made twice. The first one decides how the chip is measured, and the second one how it is left.

-- the call measured the chip, in these modes, and left loopback
pub record Measured (found : Found) (s t : State) : Type 0 where
  pub lcr : ℕ
  pub mcr : ℕ
  pub ier : ℕ
  pub before : ℕ
  pub noted : ℕ
  pub on : Bool
  pub again : Bool
  pub between : MachineState
  pub out_of : MachineState
  pub f : Fields
  pub g : Fields
  pub front : List Access
  pub back : List Access
  pub is_on : on ≡ (true && has_fifo (machine_of s).chip.model)
  pub is_again : again ≡ (true && has_fifo (machine_of s).chip.model)
  pub looped : IsLooped (looped_modes lcr on (cut_of (machine_of s).chip))
  pub found_in : (answer : Found) → TellsAll on (size_in s) answer found →
      FoundIn (looped_modes lcr on (cut_of (machine_of s).chip)) (out (transmitter_of s)) answer found between
  pub model : between.chip.model ≡ (machine_of s).chip.model
  pub come : (machine_of s).chip.receiver.arrived ≤ between.chip.receiver.arrived
  pub switches : SwitchesFifo (Some (level_in s)) again f front g
  pub first : Path MachineStep between front out_of
  pub leaves : Leaves mcr ier before noted g back (fields (inner_of t))
  pub second : Path MachineStep out_of back (machine_of t)
  pub kept : kept_in (machine_of t).chip ≡ record (kept_in (machine_of s).chip) { fifo = again }
  pub knows : (fields (inner_of t)).fifo ≡ again

module _ (s t : State) (sound : IsSound (machine_of s)) (plain : IsPlain s) where
  -- from the empty transmitter on
  in_loop : (found : Found) (mcr ier : ℕ) (f : Fields) (l : List Access) (m : MachineState) →
      IsBegun (cut_of (machine_of s).chip) (out (transmitter_of s)) m → kept_in m.chip ≡ kept_in (machine_of s).chip →
      m.chip.transmitter.size ≡ size_in s → (machine_of s).chip.receiver.arrived ≤ m.chip.receiver.arrived →
      f.config ≡ (fields (inner_of s)).config → mcr ≡ m.chip.latches.mcr → ier ≡ m.chip.latches.ier →
      SizesInLoopback found mcr ier f l (fields (inner_of t)) → Path MachineStep m l (machine_of t) → Measured found s t
  in_loop found mcr ier f l m b kept size come config is_mcr is_ier (before, on, does) path =
      let after = fields (inner_of t) in
      let n = machine_of t in
      let gone = out (transmitter_of s) in
      let start = (machine_of s).chip.receiver.arrived in
      let cut = cut_of (machine_of s).chip in
      let x = looped_modes m.chip.latches.lcr on cut in
      let a = next_stages (EntersAt (level_on f) before on) (Next (Sizes (level_on f) found) (Leaves mcr ier before f.lsr)) f after l m n
      does path in
      let c = next_stages (Sizes (level_on f) found) (Leaves mcr ier before f.lsr) a.mid after a.parts.back a.parts.between n a.parts.second
      a.parts.after in
      let again = c.parts.first.0 in
      let d = next_stages (Saving (Measures found)) (SwitchesFifo (level_on f) again) a.mid c.mid c.parts.front a.parts.between
      c.parts.between c.parts.first.1 c.parts.before in
      let g = next_stages (Saving (SetsFifo (level_on f) again)) (Sets (with_fifo again)) d.mid c.mid d.parts.back d.parts.between
      c.parts.between d.parts.second d.parts.after in
      let e = entered (level_on f) before on f a.mid a.parts.front m a.parts.between b.sound b.dlab a.parts.first a.parts.before in
      let i = in_loopback cut gone (level_on f) before on f a.mid a.parts.front m a.parts.between b a.parts.first a.parts.before in
      let never = does_never offsets.LCR (enters_at (level_on f) before on) refl f a.parts.front a.mid a.parts.first in
      let held = size_left a.parts.front m a.parts.between (left_fixed m a.parts.front never (inr b.dlab)) a.parts.before in
      let sound_a = sound_path a.parts.front m a.parts.between b.sound a.parts.before in
      let sound_d = sound_path d.parts.front a.parts.between d.parts.between sound_a d.parts.before in
      let dlab_a : is_dlab_set a.parts.between.chip.latches ≡ false = ap (λ (k : Kept). is_dlab_set k.latches) e.kept ∙ b.dlab in
      let still = kept_still (measures found) refl (settings_of a.mid) d.parts.front a.parts.between d.parts.between dlab_a
      d.parts.first.0 d.parts.before in
      let model : d.parts.between.chip.model ≡ (machine_of s).chip.model =
      ap (λ (k : Kept). k.model) (still ∙ e.kept) ∙ ap (λ (k : Kept). k.model) kept in
      let come_a = come_path start a.parts.front m a.parts.between come a.parts.before in
      let set = sets_fifo (level_on f) again (settings_of d.mid) g.parts.front d.parts.between g.parts.between sound_d g.parts.first.0
      g.parts.before in
      let none = kept_list g.parts.back [] g.parts.between c.parts.between g.parts.second.0 g.parts.after in
      let out_of = left mcr ier before f.lsr c.mid after c.parts.back c.parts.between n c.parts.second c.parts.after in
      let looped_on : kept_in c.parts.between.chip ≡ record (looped on (kept_in m.chip)) { fifo = again } =
      none ∙ (set.kept ∙ ap (λ (k : Kept). record k { fifo = again }) (still ∙ e.kept)) in
      let latches = b.sound.chip.latches in
      let back = out_of.kept
      ∙ (ap (kept_after (leaving mcr ier c.parts.second.0)) looped_on
      ∙ (written_back mcr ier c.parts.second.0 (record (looped on (kept_in m.chip)) { fifo = again }) b.dlab
      ∙ (put_back mcr ier on again (kept_in m.chip) is_mcr is_ier latches.mcr latches.ier
      ∙ ap (λ (k : Kept). record k { fifo = again }) kept))) in
      let S : Config → Type 0 = λ config. SwitchesFifo (Some (unwrap_or config.fifo_trigger_level One)) again d.mid d.parts.back c.mid in
      record {
        lcr = m.chip.latches.lcr;
        mcr = mcr;
        ier = ier;
        before = before;
        noted = f.lsr;
        on = on;
        again = again;
        between = d.parts.between;
        out_of = c.parts.between;
        f = d.mid;
        g = c.mid;
        front = d.parts.back;
        back = c.parts.back;
        is_on = e.is_on ∙ ap (λ (k : Kept). true && has_fifo k.model) kept;
        is_again = set.is_on ∙ ap (λ (chip : Chip). true && has_fifo chip) model;
        looped = i.looped;
        found_in = λ answer tells.
            let T : FifoSize → Type 0 = λ one. TellsAll on one answer found in
            measured x gone (settings_of a.mid) answer found d.parts.front a.parts.between d.parts.between
            (subst T (sym (held ∙ size)) tells) sound_a i d.parts.first.0 d.parts.before;
        model = model;
        come = come_path start d.parts.front a.parts.between d.parts.between come_a d.parts.before;
        switches = subst S config d.parts.second;
        first = d.parts.after;
        leaves = c.parts.second;
        second = c.parts.after;
        kept = back;
        knows = out_of.knows ∙ ap (λ (v : Fields). v.fifo) g.parts.second.1;
      }

  pub found_by : (found : Found) (l : List Access) → (fields (inner_of s)).fifo ≡ true →
      FindsFifoSize found (fields (inner_of s)) l (fields (inner_of t)) → Path MachineStep (machine_of s) l (machine_of t) →
      StallsFirst found s t ⊎ Measured found s t
  found_by found l is_on (inl h) path = let other : true ≡ false = sym is_on ∙ h.1 in absurd (cc)
  found_by found l is_on (inr (_, (mcr, ier, inl (stalled, (begins, same))))) path =
      let v = settings_of (fields (inner_of s)) in
      let m = machine_of s in
      let n = machine_of t in
      inl (record {
        stalled = stalled;
        out = begins_out s n mcr ier false l sound plain begins path;
        kept = kept_still (begins_test mcr ier false) refl v l m n plain.dlab begins path;
        knows = ap (λ (g : Fields). g.fifo) same;
      })
  found_by found l is_on (inr (_, (mcr, ier, inr does))) path =
      let f = fields (inner_of s) in
      let v = settings_of f in
      let m = machine_of s in
      let n = machine_of t in
      let a = next_stages (Saving (BeginsTest mcr ier true)) (SizesInLoopback found mcr ier) f (fields (inner_of t)) l m n does path in
      let b = begun s a.parts.between mcr ier a.parts.front sound plain a.parts.first.0 a.parts.before in
      let kept = kept_still (begins_test mcr ier true) refl v a.parts.front m a.parts.between plain.dlab
      a.parts.first.0 a.parts.before in
      let begins = left_plain m (begins_test mcr ier true) refl v a.parts.front a.parts.first.0 in
      let held = size_left a.parts.front m a.parts.between begins a.parts.before in
      let is_mcr = mcr_read v mcr ier true a.parts.front m a.parts.between a.parts.first.0 a.parts.before in
      let is_ier = ier_read v mcr ier true a.parts.front m a.parts.between plain.dlab a.parts.first.0 a.parts.before in
      let come = come_path (machine_of s).chip.receiver.arrived a.parts.front m a.parts.between (omega arith) a.parts.before in
      inr (in_loop found mcr ier a.mid a.parts.back a.parts.between b kept held come (ap (λ (g : Fields). g.config) a.parts.first.1)
      (is_mcr ∙ sym (ap (λ (k : Kept). k.latches.mcr) kept)) (is_ier ∙ sym (ap (λ (k : Kept). k.latches.ier) kept)) a.parts.second
      a.parts.after)
