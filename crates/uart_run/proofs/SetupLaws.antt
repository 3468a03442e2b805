-- What a `set_frame_when_idle`, a `set_trigger_level`, a `quiesce` and a `restore` leave.
use Rattle.uart_run.proofs.Names.{◌≡◌, ℕ, Bool, true, false, ◌&&◌, List, [], ◌∷◌, ◌++◌, append-nil, Option, None, Result, Ok, Err, refl}
use Rattle.uart_run.proofs.Names.{sym, ◌∙◌, ap, subst, bit_and, ◌%◌, ◌/◌, if◌then◌else◌, div-add-mod, without, Path, has, has_any}
use Rattle.uart_run.proofs.Names.{divisor_of, Access, Write, Config, ConfigRegisterDump, FifosOffError, FrameError, FifoTriggerLevel, One}
use Rattle.uart_run.proofs.Names.{FifoAction, Keep, Reset, Disable, Only, Then, Fields, fields, settings_of, Saving, Sets, Next, with_fifo}
use Rattle.uart_run.proofs.Names.{with_interrupts, unlooped, frame_writes, with_frame, DivisorOf, frame_bits, line_writes, SetsFifo}
use Rattle.uart_run.proofs.Names.{level_bits, level_of, fifo_writes, stays_on, dumped_level, last_writes, SetsTrigger, SetsFrameWhenIdle}
use Rattle.uart_run.proofs.Names.{Quiesces, Restores, WaitsFor, inner_of, Answer, Chip, Uart16550A, frame_when_idle_answer, trigger_answer}
use Rattle.uart_run.proofs.Names.{ier_bits, kept_mcr, ChipState, is_dlab_set, divisor, interrupt, control, trigger_level, MachineState}
use Rattle.uart_run.proofs.Names.{MachineStep, at_access, IsSound, has_not, path_as, levelled, sound_path, sound_access, State, machine_of}
use Rattle.uart_run.proofs.Names.{CallStep, Ready, BurstsFit, latches_of, has_fifo, is_level, FramesWhenIdle, Levels, IsQuiet, IsRestored}
use Rattle.uart_spec.specs.declared.errors.FrameError.TheVariants.{InvalidBaudRate, Stalled}
use Rattle.uart_spec.specs.declared.registers.interrupt_status.TheConstants.ISR
use Rattle.uart_spec.specs.declared.registers.line_control.TheConstants.LCR
use Rattle.uart_spec.specs.declared.registers.line_status.TheConstants.LSR
use Rattle.uart_spec.specs.declared.registers.offsets.TheConstants as offsets
use Rattle.uart_call.specs.declared.call.Call.TheVariants as call
use Rattle.uart_run.proofs.Latches.{Kept, kept_in, keep, kept_after, kept_list, kept_path, kept_access}
use Rattle.uart_run.proofs.{Pieces.then_parts, Pieces.next_stages, SizeKept.fits_kept, CallLaws.level_bits_keep, FrameLaws.framed_by}
use Rattle.uart_run.proofs.{FrameLaws.framed_kept, FrameLaws.unlooped_off, initialising.FifoSteps.sets_fifo}
use Rattle.uart_run.proofs.{initialising.FifoSteps.controlled, initialising.Initialised.ready_by, initialising.Inits.frame-dlab}
use Rattle.uart_run.proofs.{initialising.SetUp.reads_waits}

-- ---- `set_frame_when_idle`

-- what is kept after the wait and the writes
record FramedAfter (d : ℕ) (config : Config) (s t : State) : Type 0 where
  pub kept : kept_in (machine_of t).chip ≡ record (kept_in (machine_of s).chip) {
    latches = record (latches_of s) { lcr = frame_bits config; dll = d % 256; dlm = d / 256 };
  }
  pub knows : (fields (inner_of t)).fifo ≡ (fields (inner_of s)).fifo

framed_after : (d : ℕ) (config : Config) (s t : State) (l : List Access) →
    Next (Saving (WaitsFor LSR.TRANSMITTER_EMPTY.0 true))
    (Next (Sets (with_frame config)) (Saving (Only (frame_writes d (frame_bits config))))) (fields (inner_of s)) l (fields (inner_of t)) →
    Path MachineStep (machine_of s) l (machine_of t) → FramedAfter d config s t
framed_after d config s t l does path =
    let f = fields (inner_of s) in
    let a = next_stages (Saving (WaitsFor LSR.TRANSMITTER_EMPTY.0 true))
    (Next (Sets (with_frame config)) (Saving (Only (frame_writes d (frame_bits config))))) f (fields (inner_of t)) l (machine_of s)
    (machine_of t) does path in
    let k = framed_by d config a.mid (fields (inner_of t)) a.parts.back a.parts.second in
    let still = kept_path a.parts.front (machine_of s) a.parts.between a.parts.before
    ∙ reads_waits (settings_of f) LSR.TRANSMITTER_EMPTY.0 true a.parts.front a.parts.first.0 (kept_in (machine_of s).chip) in
    record {
      kept = framed_kept d config a.parts.between (machine_of t) a.mid (fields (inner_of t)) a.parts.back k a.parts.after
          ∙ ap (λ (k : Kept). record k { latches = record k.latches { lcr = frame_bits config; dll = d % 256; dlm = d / 256 } }) still;
      knows = k.fifo ∙ ap (λ (g : Fields). g.fifo) a.parts.first.1;
    }

framed_when_idle : (s t : State) (config : Config) (a : Answer) (result : Result (Unit {0}) FrameError) (l : List Access) →
    a ≡ frame_when_idle_answer result → SetsFrameWhenIdle config result (fields (inner_of s)) l (fields (inner_of t)) →
    Path MachineStep (machine_of s) l (machine_of t) → FramesWhenIdle config s a t
framed_when_idle s t config a (Ok u) l e (d, of, does) path =
    let k = framed_after d config s t l does path in
    let latches = ap (λ (k : Kept). k.latches) k.kept in
    record {
      leaves = λ done. record {
        divisor_latch = subst (λ n. DivisorOf config (Ok n)) (sym (ap divisor latches ∙ div-add-mod d 256)) of;
        latches = latches ∙ sym (ap (λ k. record (latches_of s) { lcr = frame_bits config; dll = k.dll; dlm = k.dlm }) latches);
        fifo = ap (λ (k : Kept). k.fifo) k.kept;
      };
      refused = λ x refused. absurd (cc);
    }
framed_when_idle s t config a (Err (InvalidBaudRate x)) l e d path = record {
  leaves = λ done. absurd (cc);
  refused = λ y refused. path_as (machine_of s) (machine_of t) l [] d.1 path;
}
framed_when_idle s t config a (Err Stalled) l e d path = record {
  leaves = λ done. absurd (cc);
  refused = λ y refused. absurd (cc);
}

pub frames_when_idle : (s t : State) (config : Config) (a : Answer) → CallStep s (call.SetFrameWhenIdle config) a t →
    FramesWhenIdle config s a t
frames_when_idle s t config a h = framed_when_idle s t config a h.outcome h.did.list h.answered h.did.does h.did.path

ready_when_idle : (s t : State) (config : Config) (result : Result (Unit {0}) FrameError) (l : List Access) →
    SetsFrameWhenIdle config result (fields (inner_of s)) l (fields (inner_of t)) → Path MachineStep (machine_of s) l (machine_of t) →
    BurstsFit t → Ready s → Ready t
ready_when_idle s t config (Ok u) l (d, of, does) path fits ready =
    let k = framed_after d config s t l does path in
    ready_by t _ k.kept (frame-dlab config) ready.loopback (k.knows ∙ sym ready.fifo) fits
ready_when_idle s t config (Err (InvalidBaudRate x)) l d path fits ready =
    ready_by t (kept_in (machine_of s).chip) (kept_list l [] (machine_of s) (machine_of t) d.1 path) ready.dlab ready.loopback
    (ap (λ (g : Fields). g.fifo) d.2 ∙ sym ready.fifo) fits
ready_when_idle s t config (Err Stalled) l (d, of, (waits, saved)) path fits ready =
    ready_by t (kept_in (machine_of s).chip)
    (kept_path l (machine_of s) (machine_of t) path
    ∙ reads_waits (settings_of (fields (inner_of s))) LSR.TRANSMITTER_EMPTY.0 false l waits (kept_in (machine_of s).chip))
    ready.dlab ready.loopback (ap (λ (g : Fields). g.fifo) saved ∙ sym ready.fifo) fits

pub frame_when_idle_ready : (s t : State) (config : Config) (a : Answer) → CallStep s (call.SetFrameWhenIdle config) a t → Ready s → Ready t
frame_when_idle_ready s t config a h ready =
    ready_when_idle s t config h.outcome h.did.list h.did.does h.did.path
    (fits_kept s t (call.SetFrameWhenIdle config) a h tt ready.fits) ready

-- ---- `set_trigger_level`

written_level : (level : FifoTriggerLevel) → trigger_level (level_bits level) ≡ level
written_level One = refl
written_level _ = refl

level_set : (c : ChipState) (level : FifoTriggerLevel) → c.model ≡ Uart16550A → c.fifo ≡ true → is_dlab_set c.latches ≡ false →
    (control c.model (level_bits level) c).receiver.trigger ≡ level
level_set c level model on clear =
    ap (λ (d : ChipState). d.receiver.trigger)
    (ap (λ (chip : Chip). control chip (level_bits level) c) model ∙ levelled c (level_bits level) on clear (level_bits_keep level))
    ∙ written_level level

level_written : (m n : MachineState) (level : FifoTriggerLevel) → IsSound m → m.chip.fifo ≡ true → is_dlab_set m.chip.latches ≡ false →
    Path MachineStep m (Write offsets.FCR (level_bits level) ∷ []) n → n.chip.receiver.trigger ≡ level
level_written m n level w on clear (mid, step, same) =
    let c = (at_access m).chip in
    let fifo : c.fifo ≡ true = ap (λ (k : Kept). k.fifo) (kept_access m) ∙ on in
    let shut : is_dlab_set c.latches ≡ false = ap (λ (k : Kept). is_dlab_set k.latches) (kept_access m) ∙ clear in
    ap (λ (o : MachineState). o.chip.receiver.trigger) (same ∙ step) ∙
    level_set c level ((sound_access m w).chip.implemented fifo) fifo shut

levels_by : (s t : State) (level : FifoTriggerLevel) (a : Answer) (result : Result (Unit {0}) FifosOffError) (l : List Access) →
    IsSound (machine_of s) → a ≡ trigger_answer result → SetsTrigger level result (fields (inner_of s)) l (fields (inner_of t)) →
    Path MachineStep (machine_of s) l (machine_of t) → Levels level s a t
levels_by s t level a (Ok u) l w e (on, d) path =
    let is : l ≡ Write offsets.FCR (level_bits level) ∷ [] = d.whole ∙ (ap (λ zs. zs ++ d.back) d.first.0 ∙ d.second.0.is) in
    record {
      leaves = λ ready done. level_written (machine_of s) (machine_of t) level w (ready.fifo ∙ on) ready.dlab
          (path_as (machine_of s) (machine_of t) l (Write offsets.FCR (level_bits level) ∷ []) is path);
      refused = λ refused. absurd (cc);
    }
levels_by s t level a (Err x) l w e (off, is, same) path = record {
  leaves = λ ready done. absurd (cc);
  refused = λ refused. path_as (machine_of s) (machine_of t) l [] is path;
}

pub levels : (s t : State) (level : FifoTriggerLevel) (a : Answer) → IsSound (machine_of s) → CallStep s (call.SetTriggerLevel level) a t →
    Levels level s a t
levels s t level a w h = levels_by s t level a h.outcome h.did.list w h.answered h.did.does h.did.path

-- ---- `quiesce`

level_same : (on : Bool) (level : Option FifoTriggerLevel) → is_level (level_of on level) ≡ on
level_same true level = refl
level_same false level = refl

on_still : (on : Bool) (model : Chip) (level : Option FifoTriggerLevel) → (on ≡ true → model ≡ Uart16550A) →
    (is_level (level_of on level) && has_fifo model) ≡ on
on_still true model level implemented = ap has_fifo (implemented refl)
on_still false model level implemented = refl

-- what FCR leaves
fifo_kept : (action : FifoAction) (on : Bool) (level : Option FifoTriggerLevel) (k : Kept) → k.fifo ≡ on →
    (k.fifo ≡ true → k.model ≡ Uart16550A) → kept_after (fifo_writes action on level) k ≡ record k { fifo = stays_on action on }
fifo_kept Keep on level k e implemented = ap (λ (b : Bool). record k { fifo = b }) e
fifo_kept Reset on level k e implemented =
    controlled k.model (level_of on level) k implemented
    ∙ ap (λ (b : Bool). record k { fifo = b }) (on_still on k.model level (λ h. implemented (e ∙ h)))
fifo_kept Disable on level k e implemented = controlled k.model None k implemented

-- and all the writes
quiet_kept : (outputs : ℕ) (action : FifoAction) (on : Bool) (level : Option FifoTriggerLevel) (k : Kept) → is_dlab_set k.latches ≡ false →
    k.fifo ≡ on → (k.fifo ≡ true → k.model ≡ Uart16550A) →
    kept_after (Write offsets.IER 0 ∷ Write offsets.MCR (unlooped outputs) ∷ fifo_writes action on level) k ≡
    record k { latches = record k.latches { ier = 0; mcr = kept_mcr k.auto_flow (unlooped outputs) }; fifo = stays_on action on }
quiet_kept outputs action on level k dlab e implemented =
    let begun : Kept = record k { latches = record k.latches { ier = 0; mcr = kept_mcr k.auto_flow (unlooped outputs) } } in
    ap (λ (b : Bool). kept_after (fifo_writes action on level) (keep (Write offsets.MCR (unlooped outputs))
    (if b then record k { latches = record k.latches { dlm = 0 } } else record k { latches = record k.latches { ier = 0 } }))) dlab
    ∙ fifo_kept action on level begun e implemented

none_enabled : (c : ChipState) → c.latches.ier ≡ 0 → interrupt c ≡ None
none_enabled c e = rw e refl

quieted : (s t : State) (outputs : ℕ) (action : FifoAction) (l : List Access) → IsSound (machine_of s) → Ready s →
    Quiesces outputs action (fields (inner_of s)) l (fields (inner_of t)) → Path MachineStep (machine_of s) l (machine_of t) →
    kept_in (machine_of t).chip ≡ record (kept_in (machine_of s).chip) {
      latches = record (latches_of s) { ier = 0; mcr = kept_mcr (machine_of s).chip.auto_flow (unlooped outputs) };
      fifo = stays_on action (fields (inner_of s)).fifo;
    }
quieted s t outputs action l w ready does path =
    let f = fields (inner_of s) in
    let made : List Access = Write offsets.IER 0 ∷ Write offsets.MCR (unlooped outputs)
    ∷ fifo_writes action f.fifo f.config.fifo_trigger_level in
    let b = does.second in
    let is : l ≡ made = does.whole ∙ (ap (λ zs. zs ++ does.back) does.first.0 ∙ (b.whole ∙ (ap (λ zs. zs ++ b.back) b.first.0.is
    ∙ (ap (λ zs. made ++ zs) b.second.0 ∙ append-nil made)))) in
    kept_list l made (machine_of s) (machine_of t) is path
    ∙ quiet_kept outputs action f.fifo f.config.fifo_trigger_level (kept_in (machine_of s).chip) ready.dlab ready.fifo w.chip.implemented

pub quiets : (s t : State) (outputs : ℕ) (action : FifoAction) (l : List Access) → IsSound (machine_of s) →
    Quiesces outputs action (fields (inner_of s)) l (fields (inner_of t)) → Path MachineStep (machine_of s) l (machine_of t) →
    Ready s → IsQuiet outputs action s t
quiets s t outputs action l w does path ready =
    let kept = quieted s t outputs action l w ready does path in
    record {
      latches = ap (λ (k : Kept). k.latches) kept;
      fifo = ap (λ (k : Kept). k.fifo) kept ∙ sym (ap (stays_on action) ready.fifo);
      silent = none_enabled (machine_of t).chip (ap (λ (k : Kept). k.latches.ier) kept);
    }

pub quiesce_ready : (s t : State) (outputs : ℕ) (action : FifoAction) (l : List Access) → IsSound (machine_of s) →
    Quiesces outputs action (fields (inner_of s)) l (fields (inner_of t)) → Path MachineStep (machine_of s) l (machine_of t) →
    BurstsFit t → Ready s → Ready t
quiesce_ready s t outputs action l w does path fits ready =
    ready_by t _ (quieted s t outputs action l w ready does path) ready.dlab (unlooped_off (machine_of s).chip.auto_flow outputs)
    (ap (λ (g : Fields). g.fifo) does.second.second.1) fits

-- ---- `restore`

-- the registers after the writes
abbrev put_back : ConfigRegisterDump → Bool → Kept → Kept
put_back dump on k = record k {
  latches = record {
    ier = bit_and dump.ier.0 ier_bits;
    lcr = without 8 dump.lcr.0 LCR.DLAB.0;
    mcr = kept_mcr k.auto_flow (unlooped dump.mcr.0);
    scr = dump.spr;
    dll = divisor_of dump % 256;
    dlm = divisor_of dump / 256;
  };
  fifo = on;
}

no_dlab : (lcr : ℕ) → has_any (without 8 lcr LCR.DLAB.0) LCR.DLAB.0 ≡ false
no_dlab lcr = has_not 7 lcr 127 refl

put_back_last : (dump : ConfigRegisterDump) (on : Bool) (k : Kept) →
    kept_after (last_writes dump) (record (kept_after (line_writes (divisor_of dump) (without 8 dump.lcr.0 LCR.DLAB.0)) k) { fifo = on }) ≡
    put_back dump on k
put_back_last dump on k =
    let whole = put_back dump on k in
    ap (λ (b : Bool). if b then record whole { latches = record whole.latches { ier = 0; dlm = dump.ier.0 } } else whole)
    (no_dlab dump.lcr.0)

restored : (s t : State) (dump : ConfigRegisterDump) (on : Bool) (l : List Access) → IsSound (machine_of s) →
    Next (Sets (with_interrupts dump.ier.0))
    (Next (Saving (Then (Only (line_writes (divisor_of dump) (without 8 dump.lcr.0 LCR.DLAB.0)))
    (Then (SetsFifo (dumped_level dump (fields (inner_of s)).config) on) (Only (last_writes dump)))))
    (Sets (with_fifo on))) (fields (inner_of s)) l (fields (inner_of t)) →
    Path MachineStep (machine_of s) l (machine_of t) → IsRestored dump t
restored s t dump on l w does path =
    let f = fields (inner_of s) in
    let m = machine_of s in
    let n = machine_of t in
    let line : List Access = line_writes (divisor_of dump) (without 8 dump.lcr.0 LCR.DLAB.0) in
    let level = dumped_level dump f.config in
    let a = next_stages (Sets (with_interrupts dump.ier.0))
    (Next (Saving (Then (Only line) (Then (SetsFifo level on) (Only (last_writes dump))))) (Sets (with_fifo on))) f (fields (inner_of t)) l
    m n does path in
    let b = next_stages (Saving (Then (Only line) (Then (SetsFifo level on) (Only (last_writes dump))))) (Sets (with_fifo on)) a.mid
    (fields (inner_of t)) a.parts.back a.parts.between n a.parts.second a.parts.after in
    let v = settings_of a.mid in
    let c = then_parts (Only line) (Then (SetsFifo level on) (Only (last_writes dump))) v b.parts.front a.parts.between b.parts.between
    b.parts.first.0 b.parts.before in
    let e = then_parts (SetsFifo level on) (Only (last_writes dump)) v c.back c.between b.parts.between c.second c.after in
    let begins = path_as m a.parts.between a.parts.front [] a.parts.first.0 a.parts.before in
    let lined = path_as a.parts.between c.between c.front line c.first.is c.before in
    let first = kept_path line a.parts.between c.between lined in
    let sound = sound_path line a.parts.between c.between (sound_path [] m a.parts.between w begins) lined in
    let set = sets_fifo level on v e.front c.between e.between sound e.first e.before in
    let last = kept_list e.back (last_writes dump) e.between b.parts.between e.second.is e.after in
    let end = kept_list b.parts.back [] b.parts.between n b.parts.second.0 b.parts.after in
    by_kept (kept_in a.parts.between.chip)
    (end ∙ (last ∙ (ap (kept_after (last_writes dump)) (set.kept ∙ ap (λ (k : Kept). record k { fifo = on }) first)
    ∙ put_back_last dump on (kept_in a.parts.between.chip))))
    (set.is_on ∙ ap (λ (k : Kept). is_level level && has_fifo k.model) first) (ap (λ (g : Fields). g.fifo) b.parts.second.1)
  where
    by_kept : (k : Kept) → kept_in (machine_of t).chip ≡ put_back dump on k →
        on ≡ (is_level (dumped_level dump (fields (inner_of s)).config) && has_fifo k.model) → (fields (inner_of t)).fifo ≡ on →
        IsRestored dump t
    by_kept k kept is_on knows = record {
      ready = ready_by t (put_back dump on k) kept (no_dlab dump.lcr.0) (unlooped_off k.auto_flow dump.mcr.0) knows;
      divisor_latch = ap (λ (v : Kept). divisor v.latches) kept ∙ div-add-mod (divisor_of dump) 256;
      lcr = ap (λ (v : Kept). v.latches.lcr) kept;
      mcr = ap (λ (v : Kept). v.latches.mcr) kept
          ∙ ap (λ (f : Bool). kept_mcr f (unlooped dump.mcr.0)) (sym (ap (λ (v : Kept). v.auto_flow) kept));
      ier = ap (λ (v : Kept). v.latches.ier) kept;
      spr = ap (λ (v : Kept). v.latches.scr) kept;
      fifo = ap (λ (v : Kept). v.fifo) kept ∙ (is_on
          ∙ (ap (λ (b : Bool). b && has_fifo k.model)
          (level_same (has dump.isr.0 ISR.FIFOS_ENABLED.0) (fields (inner_of s)).config.fifo_trigger_level)
          ∙ sym (ap (λ (v : Kept). has dump.isr.0 ISR.FIFOS_ENABLED.0 && has_fifo v.model) kept)));
    }

pub restores : (s t : State) (dump : ConfigRegisterDump) (l : List Access) → IsSound (machine_of s) →
    Restores dump (fields (inner_of s)) l (fields (inner_of t)) → Path MachineStep (machine_of s) l (machine_of t) → IsRestored dump t
restores s t dump l w (on, does) path = restored s t dump on l w does path
