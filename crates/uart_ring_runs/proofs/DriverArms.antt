-- The driver's calls that leave the THR-empty interrupt: what they read is not ISR, and what they write is neither IER nor FCR; or they
-- write IER with the interrupt in it, or FCR without a reset.
use Rattle.uart_ring_runs.proofs.Names.{◌≡◌, ℕ, ◌||◌, ◌%◌, ◌/◌, true, false, List, [], ◌∷◌, ◌++◌, refl, sym, ◌∙◌, ap, Result, Ok, Err}
use Rattle.uart_ring_runs.proofs.Names.{bit_or, arith, common_steps, without, Path, has, has_any, Access, Read, Write, Config}
use Rattle.uart_ring_runs.proofs.Names.{FifosOffError, FifoTriggerLevel, Call, Answer, Chip, Uart16550A, Uart16450, Settings, Only, Fields}
use Rattle.uart_ring_runs.proofs.Names.{Sets, Saving, Next, fields, settings_of, frame_writes, with_frame, SetsFrame, frame_bits}
use Rattle.uart_ring_runs.proofs.Names.{SetsFrameWhenIdle, SetsTrigger, level_bits, Enables, Disables, retrigger_accesses, WaitsFor}
use Rattle.uart_ring_runs.proofs.Names.{inner_of, ChipState, control, is_dlab_set, MachineState, MachineStep, at_access, has_one, has_or}
use Rattle.uart_ring_runs.proofs.Names.{path_as, chip_lasts-before_mark, Ready, State, machine_of, CallStep, level_bits_keep, framed_by}
use Rattle.uart_ring_runs.proofs.Names.{Kept, kept_in, keep, kept_access, kept_step, next_stages, LeavesThrEmpty, ThrEmpty, KeepsIer}
use Rattle.uart_ring_runs.proofs.Names.{known_after_all}
use Rattle.uart_spec.specs.declared.errors.FrameError.{FrameError}
use Rattle.uart_spec.specs.declared.errors.FrameError.TheVariants.{InvalidBaudRate, Stalled}
use Rattle.uart_spec.specs.declared.errors.InvalidDivisorError.{InvalidDivisorError}
use Rattle.uart_spec.specs.declared.registers.interrupt_enable.TheConstants.IER
use Rattle.uart_spec.specs.declared.registers.line_control.TheConstants.LCR
use Rattle.uart_spec.specs.declared.registers.line_status.TheConstants.LSR
use Rattle.uart_spec.specs.declared.registers.offsets.TheConstants as offsets
use Rattle.uart_call.specs.declared.call.Call.TheVariants as driver
use Rattle.uart_16550.specs.Status.{Retriggers}
use Rattle.uart_chip.proofs.conservation.Effects.{IsLevel, levelled}
use Rattle.uart_ring_runs.proofs.ThrSpared.{IsToCome, IsThrArmed, to_come, comes, in_events, at_once, spared_step, spare}
use Rattle.uart_ring_runs.proofs.{ThrSpared.does_spare, ThrSpared.spared_list, RingBlocks.AllLeaveLcr, RingDue.Holds, RingDue.IsDlabOff}
use Rattle.uart_ring_runs.proofs.{RingDue.path_holds, CheckArms.checks_arm}
use Rattle.uart_run.proofs.built.Receive.{waits_for}
use Rattle.uart_run.proofs.built.Calls.{call_does}

-- ---- writes of IER with the interrupt in it

abbrev live : ThrEmpty
live = record { enabled = true; due = true }

live_path : (l made : List Access) (m n : MachineState) → l ≡ made → AllLeaveLcr made → IsDlabOff m → IsThrArmed m →
    Path MachineStep m l n → KeepsIer live made × Holds (known_after_all live made) n
live_path l made m n is leaves off h path =
    path_holds live made m n leaves off (λ e. h.0, λ e. h.1) (path_as m n l made is path)

joined : (ier bits : ℕ) → has ier IER.THR_EMPTY.0 ≡ true → has (bit_or ier bits) IER.THR_EMPTY.0 ≡ true
joined ier bits e =
    has_one 1 (bit_or ier bits) ∙ (has_or 1 ier bits ∙ ap (λ b. b || has_any bits IER.THR_EMPTY.0) (sym (has_one 1 ier) ∙ e))

enables_arm : (bits : ℕ) (f after : Fields) (l : List Access) (m n : MachineState) → Enables bits f l after → IsDlabOff m →
    Path MachineStep m l n → IsThrArmed m → IsThrArmed n
enables_arm bits f after l m n (ier, is, changed) off path h =
    let k = live_path l (Read offsets.IER ier ∷ Write offsets.IER (bit_or ier bits) ∷ []) m n is (tt, (refl, tt)) off h path in
    (k.1.0 (joined ier bits (k.0.0 refl refl)), k.1.1 refl)

disables_arm : (bits : ℕ) (f after : Fields) (l : List Access) (m n : MachineState) →
    ((ier : ℕ) → has ier IER.THR_EMPTY.0 ≡ true → has (without 8 ier bits) IER.THR_EMPTY.0 ≡ true) → Disables bits f l after →
    IsDlabOff m → Path MachineStep m l n → IsThrArmed m → IsThrArmed n
disables_arm bits f after l m n left (ier, is, changed) off path h =
    let k = live_path l (Read offsets.IER ier ∷ Write offsets.IER (without 8 ier bits) ∷ []) m n is (tt, (refl, tt)) off h path in
    (k.1.0 (left ier (k.0.0 refl refl)), k.1.1 refl)

retriggers_arm : (s : Settings) (l : List Access) (m n : MachineState) → Retriggers s l → IsDlabOff m → Path MachineStep m l n →
    IsThrArmed m → IsThrArmed n
retriggers_arm s l m n (ier, is) off path h =
    let k = live_path l (retrigger_accesses ier) m n is (tt, (refl, (refl, tt))) off h path in
    (k.1.0 (k.0.0 refl refl), k.1.1 refl)

-- ---- the trigger level

level_chip : (model : Chip) (value : ℕ) (c : ChipState) → c.fifo ≡ true → is_dlab_set c.latches ≡ false → IsLevel value → IsToCome c →
    IsToCome (control model value c)
level_chip Uart16450 value c on clear level h = h
level_chip Uart16550A value c on clear level h = rw (levelled c value on clear level) h

levels_arm : (level : FifoTriggerLevel) (result : Result (Unit {0}) FifosOffError) (s t : State) (l : List Access) → Ready s →
    SetsTrigger level result (fields (inner_of s)) l (fields (inner_of t)) → Path MachineStep (machine_of s) l (machine_of t) →
    IsThrArmed (machine_of s) → IsThrArmed (machine_of t)
levels_arm level (Ok u) s t l ready (on, d) path h =
    let m = machine_of s in
    let is : l ≡ Write offsets.FCR (level_bits level) ∷ [] = d.whole ∙ (ap (λ zs. zs ++ d.back) d.first.0 ∙ d.second.0.is) in
    let p = path_as m (machine_of t) l (Write offsets.FCR (level_bits level) ∷ []) is path in
    let c = (at_access m).chip in
    let fifo : c.fifo ≡ true = ap (λ (k : Kept). k.fifo) (kept_access m) ∙ (ready.fifo ∙ on) in
    let clear : is_dlab_set c.latches ≡ false = ap (λ (k : Kept). is_dlab_set k.latches) (kept_access m) ∙ ready.dlab in
    let after : IsToCome p.0.chip =
    rw p.1 (level_chip c.model (level_bits level) c fifo clear (level_bits_keep level) (at_once m (to_come m h))) in
    comes (machine_of t) (rw p.2 after)
levels_arm level (Err e) s t l ready (off, is, same) path h = spared_list l (machine_of s) (machine_of t) (rw is tt) path h

-- ---- the frame

-- the high byte of the divisor latch is at the place of IER, while DLAB is on
high_step : (value : ℕ) (m n : MachineState) → is_dlab_set m.chip.latches ≡ true → IsToCome m.chip →
    MachineStep m (Write offsets.DLM value) n → IsToCome n.chip
high_step value m n on h s =
    let there : is_dlab_set (at_access m).chip.latches ≡ true = ap (λ (k : Kept). is_dlab_set k.latches) (kept_access m) ∙ on in
    rw (s, there) (at_once m h)

low_kept : (value : ℕ) (k : Kept) → is_dlab_set k.latches ≡ true → is_dlab_set (keep (Write offsets.DLL value) k).latches ≡ true
low_kept value k on = rw on on

frame_arms : (divisor frame : ℕ) (l : List Access) (m n : MachineState) → l ≡ frame_writes divisor frame → Path MachineStep m l n →
    IsThrArmed m → IsThrArmed n
frame_arms divisor frame l m n is path h = go (path_as m n l (frame_writes divisor frame) is path)
  where
    go : Path MachineStep m (frame_writes divisor frame) n → IsThrArmed n
    go (m₁, s₁, (m₂, s₂, (m₃, s₃, (m₄, s₄, e)))) =
        let opened : is_dlab_set m₁.chip.latches ≡ true =
        ap (λ (k : Kept). is_dlab_set k.latches) (kept_step (Write offsets.LCR (bit_or frame LCR.DLAB.0)) m m₁ s₁)
        ∙ (has_or 7 frame 128 ∙ grind (arith, common_steps)) in
        let still : is_dlab_set m₂.chip.latches ≡ true =
        ap (λ (k : Kept). is_dlab_set k.latches) (kept_step (Write offsets.DLL (divisor % 256)) m₁ m₂ s₂)
        ∙ low_kept (divisor % 256) (kept_in m₁.chip) opened in
        let a = spared_step (Write offsets.LCR (bit_or frame LCR.DLAB.0)) m m₁ (refl, refl) (to_come m h) s₁ in
        let b = spared_step (Write offsets.DLL (divisor % 256)) m₁ m₂ (refl, refl) a s₂ in
        let c = high_step (divisor / 256) m₂ m₃ still b s₃ in
        let d = spared_step (Write offsets.LCR frame) m₃ m₄ (refl, refl) c s₄ in
        comes n (rw e d)

frames_arm : (config : Config) (result : Result (Unit {0}) InvalidDivisorError) (f after : Fields) (l : List Access)
    (m n : MachineState) → SetsFrame config result f l after → Path MachineStep m l n → IsThrArmed m → IsThrArmed n
frames_arm config (Ok u) f after l m n d path h =
    frame_arms d.0 (frame_bits config) l m n (framed_by d.0 config f after l d.2).is path h
frames_arm config (Err e) f after l m n d path h = spared_list l m n (rw d.1 tt) path h

frames_when_idle_arm : (config : Config) (result : Result (Unit {0}) FrameError) (f after : Fields) (l : List Access)
    (m n : MachineState) → SetsFrameWhenIdle config result f l after → Path MachineStep m l n → IsThrArmed m → IsThrArmed n
frames_when_idle_arm config (Ok u) f after l m n d path h =
    let frame = frame_writes d.0 (frame_bits config) in
    let a = next_stages (Saving (WaitsFor LSR.TRANSMITTER_EMPTY.0 true)) (Next (Sets (with_frame config)) (Saving (Only frame))) f
    after l m n d.2 path in
    let first = spared_list a.parts.front m a.parts.between
    (spare (waits_for LSR.TRANSMITTER_EMPTY.0 true) refl refl (settings_of f) a.parts.front a.parts.first.0) a.parts.before h in
    frame_arms d.0 (frame_bits config) a.parts.back a.parts.between n (framed_by d.0 config a.mid after a.parts.back a.parts.second).is
    a.parts.after first
frames_when_idle_arm config (Err (InvalidBaudRate e)) f after l m n d path h = spared_list l m n (rw d.1 tt) path h
frames_when_idle_arm config (Err Stalled) f after l m n d path h =
    spared_list l m n (spare (waits_for LSR.TRANSMITTER_EMPTY.0 false) refl refl (settings_of f) l d.2.0) path h

-- ---- each call

pub driver_arms : (s t : State) (c : Call) (a : Answer) → Ready s → LeavesThrEmpty c → CallStep s c a t → IsThrArmed (machine_of s) →
    IsThrArmed (machine_of t)
driver_arms s t driver.Next a ready k h armed =
    let lasts = chip_lasts-before_mark IsToCome in_events (machine_of s).ahead (machine_of s).chip (to_come (machine_of s) armed) in
    comes (machine_of t) (rw h.machine lasts)
driver_arms s t (driver.CheckConfigured outputs) a ready k h armed =
    checks_arm (fields (inner_of s)).config outputs.0 h.outcome (settings_of (fields (inner_of s))) h.did.list
    (machine_of s) (machine_of t) h.did.does.0 ready.dlab h.did.path armed
driver_arms s t (driver.Enable bits) a ready k h armed =
    enables_arm bits.0 (fields (inner_of s)) (fields (inner_of t)) h.did.list
    (machine_of s) (machine_of t) h.did.does ready.dlab h.did.path armed
driver_arms s t (driver.Disable bits) a ready k h armed =
    disables_arm bits.0 (fields (inner_of s)) (fields (inner_of t)) h.did.list
    (machine_of s) (machine_of t) k h.did.does ready.dlab h.did.path armed
driver_arms s t driver.RetriggerInterrupts a ready k h armed =
    retriggers_arm (settings_of (fields (inner_of s))) h.did.list
    (machine_of s) (machine_of t) h.did.does.0 ready.dlab h.did.path armed
driver_arms s t (driver.SetFrame config) a ready k h armed =
    frames_arm config h.outcome (fields (inner_of s)) (fields (inner_of t)) h.did.list
    (machine_of s) (machine_of t) h.did.does h.did.path armed
driver_arms s t (driver.SetFrameWhenIdle config) a ready k h armed =
    frames_when_idle_arm config h.outcome (fields (inner_of s)) (fields (inner_of t)) h.did.list
    (machine_of s) (machine_of t) h.did.does h.did.path armed
driver_arms s t (driver.SetTriggerLevel level) a ready k h armed =
    levels_arm level h.outcome s t h.did.list ready h.did.does h.did.path armed
driver_arms s t driver.Isr a ready k h armed = absurd k
driver_arms s t driver.Dump a ready k h armed = absurd k
driver_arms s t driver.Attach a ready k h armed = absurd k
driver_arms s t (driver.Quiesce outputs fifos) a ready k h armed = absurd k
driver_arms s t (driver.Restore dump) a ready k h armed = absurd k
driver_arms s t driver.TestLoopback a ready k h armed = absurd k
driver_arms s t (driver.Init config) a ready k h armed = absurd k
driver_arms s t (driver.InitWith config setup) a ready k h armed = absurd k
driver_arms s t other a ready k h armed =
    let f = fields (inner_of s) in
    spared_list h.did.list (machine_of s) (machine_of t)
    (does_spare (call_does other h.outcome) refl refl f h.did.list (fields (inner_of t)) h.did.does) h.did.path armed
