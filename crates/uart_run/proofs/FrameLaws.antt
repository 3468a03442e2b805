-- What a call does in a session that may change its modes: a `set_frame` writes LCR, a `set_modem_control` MCR.
use Rattle.uart_run.proofs.Names.{◌≡◌, ◌≢◌, ℕ, Bool, true, false, List, [], ◌∷◌, ◌++◌, ◌%◌, ◌/◌, map, refl, sym, ◌∙◌, ap, subst, bit_or}
use Rattle.uart_run.proofs.Names.{arith, append-nil, Result, Ok, Err, ◌<◌, ◌+◌, ◌*◌, false≢true, and_assoc, map-append, common_steps}
use Rattle.uart_run.proofs.Names.{div-add-mod, Path, saved_lsr, saved_msr, Access, Read, Write, has, has_any, Config, FrameError}
use Rattle.uart_run.proofs.Names.{InvalidDivisorError, Keep, Reset, Disable, Call, Answer, Latch, AttachRefused, Settings, Only, Asks, Did}
use Rattle.uart_run.proofs.Names.{Fields, fields, settings_of, saving, Sets, Saving, Next, with_fifo, DivisorOf, frame_bits, frame_writes}
use Rattle.uart_run.proofs.Names.{with_frame, SetsFrame, switched, unlooped, SetsBreak, SetsControl, SetsOutput, SetsFrameWhenIdle}
use Rattle.uart_run.proofs.Names.{Quiesces, WaitsFor, FindsLatch, FindsLoopback, FindsDivisor, FindsPort, Attaches, ReadsDivisor}
use Rattle.uart_run.proofs.Names.{divisor_accesses, AttachError, DivisorLatchOpen, Loopback, NoDivisor, kept_mcr, kept_bit, inner_of}
use Rattle.uart_run.proofs.Names.{frame_answer, attach_answer, Character, ChipState, answer, divisor, is_dlab_set, is_loopback, word_length}
use Rattle.uart_run.proofs.Names.{MachineState, MachineStep, at_access, has_or, has_and, has_not, has_one, Modes, fixed, Passed}
use Rattle.uart_run.proofs.Names.{passed-refl, passed-trans, IsOpen, PassedBlocks, nothing_taken, passed_frame, relined, path_as}
use Rattle.uart_run.proofs.Names.{stands-after, passed_quiet, is_quiet, State, machine_of, Link, CallStep, Ready, BurstsFit, Frames}
use Rattle.uart_run.proofs.Names.{IsAttached, TakesPort, latches_of, IsWithinSession, reported_by, received_by, IsWithinUncut, IsWired}
use Rattle.std.proofs.Math.Bool.{or-false}
use Rattle.uart_spec.specs.declared.errors.FrameError.TheVariants.{InvalidBaudRate, Stalled}
use Rattle.uart_spec.specs.declared.registers.line_control.TheConstants.LCR
use Rattle.uart_spec.specs.declared.registers.offsets.TheConstants as offsets
use Rattle.uart_call.specs.declared.call.Call.TheVariants as call
use Rattle.uart_spec.specs.declared.registers.interrupt_status.TheConstants.ISR
use Rattle.uart_spec.specs.declared.registers.line_status.TheConstants.LSR
use Rattle.uart_spec.specs.declared.registers.modem_control.TheConstants.MCR
use Rattle.uart_spec.specs.declared.registers.modem_status.TheConstants.MSR
use Rattle.uart_run.proofs.{Wired.wired_step, Wired.passed_mcr, Pieces.then_parts, Pieces.next_stages, initialising.FifoShown.fifo_shown}
use Rattle.uart_run.proofs.{NeverSwitched.stays as stays_so, SizeKept.left_ever, SizeKept.keeps_size, SizeKept.fits_after}
use Rattle.uart_run.proofs.{SizeKept.fits_kept, CallKeeps.reads_divisor_blocks, CallKeeps.saving_keeps, initialising.Inits.frame-dlab}
use Rattle.uart_run.proofs.{initialising.Inits.frame-unbroken, initialising.Initialised.ready_by}
use Rattle.uart_run.proofs.Latches.{Kept, kept_in, keep, kept_after, kept_step, kept_path, kept_list, kept_access}
use Rattle.uart_run.proofs.built.SettingUp as built
use Rattle.uart_run.proofs.CallBlocks.{Makes, most_in, makes_quiet, makes_then, passed_silently, waits_blocks}
use Rattle.uart_run.proofs.CallLaws.{Passes, InSession, session_closed, passes_call, passes_did, passes_quietly, saved_both}

-- ---- modes that may change

-- LCR has no break
abbrev pub IsUnbrokenLcr : ℕ → Type 0
IsUnbrokenLcr lcr = has_any lcr LCR.SET_BREAK.0 ≡ false

-- the same, in the modes that the call leaves, which cut alike
pub record Goes (x : Modes) (NoLsr NoMsr : Type 0) (s t : State) (written read : List ℕ) : Type 0 where
  pub modes : Modes
  pub same : fixed modes ≡ fixed x
  pub unbroken : IsUnbrokenLcr x.lcr → IsUnbrokenLcr modes.lcr
  pub open_modes : IsOpen modes
  pub passes : Passes modes NoLsr NoMsr s t written read

pub goes_still : (x : Modes) (N M : Type 0) (s t : State) (ws rs : List ℕ) → InSession x s → Passes x N M s t ws rs → Goes x N M s t ws rs
goes_still x N M s t ws rs w p = record { modes = x; same = refl; unbroken = λ u. u; open_modes = w.open_modes; passes = p }

pub same_fifo : (x y : Modes) → fixed y ≡ fixed x → y.fifo ≡ x.fifo
same_fifo x y same = ap (λ (p : Bool × (ℕ → ℕ)). p.0) same

pub same_cut : (x y : Modes) → fixed y ≡ fixed x → y.cut ≡ x.cut
same_cut x y same = ap (λ (p : Bool × (ℕ → ℕ)). p.1) same

-- the driver writes at once no more than there is room for
pub session_fits : (x : Modes) (s t : State) (c : Call) (a : Answer) → InSession x s → CallStep s c a t → BurstsFit t
session_fits x s t c a w h = fits_kept s t c a h (keeps_size s c (session_closed x s w)) w.fits

-- the state after it is one of the session
pub in_session-gone : (x : Modes) (N M : Type 0) (s t : State) (ws rs : List ℕ) → InSession x s → (g : Goes x N M s t ws rs) →
    BurstsFit t → InSession g.modes t
in_session-gone x N M s t ws rs w g fits = record {
  open_modes = g.open_modes;
  stands = stands-after g.modes (machine_of s) (machine_of t) _ _ _ g.passes.passed.passed;
  fifo = g.passes.fifo ∙ (w.fifo ∙ sym (same_fifo x g.modes g.same));
  fits = fits;
}

pub passed_onwards : (x y : Modes) (m n o : MachineState) (xs ys : List Access) (ws vs rs qs : List ℕ) → fixed y ≡ fixed x →
    PassedBlocks x m n xs ws rs → PassedBlocks y n o ys vs qs → PassedBlocks y m o (xs ++ ys) (ws ++ vs) (rs ++ qs)
passed_onwards x y m n o xs ys ws vs rs qs same a b =
    let byte : Character → ℕ = λ character. character.byte in
    record {
      takes = a.takes ++ b.takes;
      bytes = map-append byte a.takes b.takes ∙ (ap (λ zs. zs ++ map byte b.takes) a.bytes ∙ ap (λ zs. rs ++ zs) b.bytes);
      passed = passed-trans x y m n o xs ys ws vs a.takes b.takes same a.passed b.passed;
    }

-- ---- `set_frame`

-- the list that it made, and the driver's fields, which have nothing more saved
pub record Framed (d : ℕ) (config : Config) (f : Fields) (l : List Access) (after : Fields) : Type 0 where
  pub is : l ≡ frame_writes d (frame_bits config)
  pub fifo : after.fifo ≡ f.fifo
  pub lsr : after.lsr ≡ bit_or f.lsr (saved_lsr (frame_writes d (frame_bits config)))
  pub msr : after.msr ≡ bit_or f.msr (saved_msr (frame_writes d (frame_bits config)))

pub framed_by : (d : ℕ) (config : Config) (f after : Fields) (l : List Access) →
    Next (Sets (with_frame config)) (Saving (Only (frame_writes d (frame_bits config)))) f l after → Framed d config f l after
framed_by d config f after l t = record {
  is = t.whole ∙ (ap (λ zs. zs ++ t.back) t.first.0 ∙ t.second.0.is);
  fifo = ap (λ (g : Fields). g.fifo) t.second.1 ∙ ap (λ (g : Fields). g.fifo) t.first.1;
  lsr = ap (λ (g : Fields). g.lsr) t.second.1 ∙ (ap (λ (g : Fields). bit_or g.lsr (saved_lsr t.back)) t.first.1
      ∙ ap (λ zs. bit_or f.lsr (saved_lsr zs)) t.second.0.is);
  msr = ap (λ (g : Fields). g.msr) t.second.1 ∙ (ap (λ (g : Fields). bit_or g.msr (saved_msr t.back)) t.first.1
      ∙ ap (λ zs. bit_or f.msr (saved_msr zs)) t.second.0.is);
}

-- ---- `set_frame_when_idle`

-- the wait, whatever it ends with
pub waited : (x : Modes) (s : State) (empty : Bool) (l : List Access) (n : MachineState) → InSession x s →
    WaitsFor LSR.TRANSMITTER_EMPTY.0 empty (settings_of (fields (inner_of s))) l → Path MachineStep (machine_of s) l n →
    PassedBlocks x (machine_of s) n l [] []
waited x s empty l n w h path =
    passed_silently x (most_in (settings_of (fields (inner_of s)))) (machine_of s) n l [] w.open_modes w.stands
    (waits_blocks (settings_of (fields (inner_of s))) LSR.TRANSMITTER_EMPTY.0 empty l h) path

goes_framed_when_idle : (x : Modes) (N M : Type 0) (s t : State) (config : Config) (result : Result (Unit {0}) FrameError)
    (l : List Access) → InSession x s → x.cut ≡ (λ (byte : ℕ). byte) →
    SetsFrameWhenIdle config result (fields (inner_of s)) l (fields (inner_of t)) →
    Path MachineStep (machine_of s) l (machine_of t) → Goes x N M s t [] []
goes_framed_when_idle x N M s t config (Ok u) l w whole d path =
    let f = fields (inner_of s) in
    let frame = frame_writes d.0 (frame_bits config) in
    let z : Modes = record x { lcr = frame_bits config } in
    let a = next_stages (Saving (WaitsFor LSR.TRANSMITTER_EMPTY.0 true)) (Next (Sets (with_frame config)) (Saving (Only frame))) f
    (fields (inner_of t)) l (machine_of s) (machine_of t) d.2 path in
    let n = a.parts.between in
    let first = waited x s true a.parts.front n w a.parts.first.0 a.parts.before in
    let k = framed_by d.0 config a.mid (fields (inner_of t)) a.parts.back a.parts.second in
    let p = passed_frame x n (machine_of t) (d.0 % 256) (d.0 / 256) (frame_bits config) w.open_modes
    (stands-after x (machine_of s) n _ _ _ first.passed) whole (path_as n (machine_of t) a.parts.back frame k.is a.parts.after) in
    record {
      modes = z;
      same = refl;
      unbroken = λ u. frame-unbroken config;
      open_modes = record { dlab = frame-dlab config; loopback = w.open_modes.loopback };
      passes = record {
        made = a.parts.front ++ frame;
        passed = passed_onwards x z (machine_of s) n (machine_of t) a.parts.front frame [] [] [] [] refl first
            (nothing_taken z n (machine_of t) _ [] p);
        fifo = k.fifo ∙ ap (λ (g : Fields). g.fifo) a.parts.first.1;
        lsr = λ no. k.lsr ∙ (ap (λ (g : Fields). bit_or g.lsr (saved_lsr frame)) a.parts.first.1
            ∙ saved_both offsets.LSR LSR.LINE_ERRORS.0 f.lsr a.parts.front frame);
        msr = λ no. k.msr ∙ (ap (λ (g : Fields). bit_or g.msr (saved_msr frame)) a.parts.first.1
            ∙ saved_both offsets.MSR MSR.CHANGES.0 f.msr a.parts.front frame);
      };
    }
goes_framed_when_idle x N M s t config (Err (InvalidBaudRate e)) l w whole d path =
    let still : machine_of t ≡ machine_of s = path_as (machine_of s) (machine_of t) l [] d.1 path in
    goes_still x N M s t [] [] w
    (passes_quietly x N M s t
    (record { takes = []; bytes = refl; passed = rw still (passed-refl x (machine_of s) w.stands.sound w.stands.modes) }) d.2)
goes_framed_when_idle x N M s t config (Err Stalled) l w whole d path =
    goes_still x N M s t [] [] w (record {
      made = l;
      passed = waited x s false l (machine_of t) w d.2.0 path;
      fifo = ap (λ (g : Fields). g.fifo) d.2.1;
      lsr = λ no. ap (λ (g : Fields). g.lsr) d.2.1;
      msr = λ no. ap (λ (g : Fields). g.msr) d.2.1;
    })

-- ---- `set_break`

break_word : (lcr : ℕ) → word_length (switched false LCR.SET_BREAK.0 lcr) ≡ word_length lcr
break_word lcr = ap (λ (more : ℕ). 5 + more) (and_assoc LCR.WORD_LENGTH.0 lcr 191)

break_dlab : (on : Bool) (lcr : ℕ) → has_any (switched on LCR.SET_BREAK.0 lcr) LCR.DLAB.0 ≡ has_any lcr LCR.DLAB.0
break_dlab true lcr = has_or 7 lcr LCR.SET_BREAK.0 ∙ or-false (has_any lcr LCR.DLAB.0)
break_dlab false lcr = has_and 7 lcr 191 refl

-- a break that is cleared
goes_break : (x : Modes) (N M : Type 0) (s t : State) (l : List Access) → InSession x s →
    Saving (SetsBreak false) (fields (inner_of s)) l (fields (inner_of t)) → Path MachineStep (machine_of s) l (machine_of t) →
    Goes x N M s t [] []
goes_break x N M s t l w ((lcr, is), saved) path =
    let value = switched false LCR.SET_BREAK.0 lcr in
    let made : List Access = Read offsets.LCR lcr ∷ Write offsets.LCR value ∷ [] in
    let z : Modes = record x { lcr = value } in
    let r = relined x (machine_of s) (machine_of t) lcr value w.open_modes w.stands (break_word lcr)
    (path_as (machine_of s) (machine_of t) l made is path) in
    let dlab : has_any value LCR.DLAB.0 ≡ false =
    break_dlab false lcr ∙ (ap (λ (v : ℕ). has_any v LCR.DLAB.0) r.same ∙ w.open_modes.dlab) in
    record {
      modes = z;
      same = refl;
      unbroken = λ u. has_not 6 lcr 191 refl;
      open_modes = record { dlab = dlab; loopback = w.open_modes.loopback };
      passes = record {
        made = made;
        passed = nothing_taken z (machine_of s) (machine_of t) made [] r.passed;
        fifo = ap (λ (g : Fields). g.fifo) saved;
        lsr = λ n. ap (λ (g : Fields). g.lsr) saved ∙ ap (λ zs. bit_or (fields (inner_of s)).lsr (saved_lsr zs)) is;
        msr = λ n. ap (λ (g : Fields). g.msr) saved ∙ ap (λ zs. bit_or (fields (inner_of s)).msr (saved_msr zs)) is;
      };
    }

-- ---- writes of MCR, on a wired machine

pub unlooped_off : (f : Bool) (bits : ℕ) → has_any (kept_mcr f (unlooped bits)) MCR.LOOP_BACK.0 ≡ false
unlooped_off f bits = kept_bit f 4 (unlooped bits) refl refl ∙ has_not 4 bits 239 refl

goes_control : (x : Modes) (N M : Type 0) (s t : State) (bits : ℕ) (l : List Access) → InSession x s → IsWired s →
    Saving (SetsControl bits) (fields (inner_of s)) l (fields (inner_of t)) → Path MachineStep (machine_of s) l (machine_of t) →
    Goes x N M s t [] []
goes_control x N M s t bits l w wired (done, saved) path =
    let value = unlooped bits in
    let made : List Access = Write offsets.MCR value ∷ [] in
    let f = (at_access (machine_of s)).chip.auto_flow in
    let z : Modes = record x { mcr = kept_mcr f value } in
    let p = path_as (machine_of s) (machine_of t) l made done.is path in
    let passed = passed_mcr x (machine_of s) p.0 value w.open_modes (unlooped_off f bits) w.stands wired p.1 in
    record {
      modes = z;
      same = refl;
      unbroken = λ u. u;
      open_modes = record { dlab = w.open_modes.dlab; loopback = unlooped_off f bits };
      passes = record {
        made = made;
        passed = nothing_taken z (machine_of s) (machine_of t) made [] (rw p.2 passed);
        fifo = ap (λ (g : Fields). g.fifo) saved;
        lsr = λ n. ap (λ (g : Fields). g.lsr) saved ∙ ap (λ zs. bit_or (fields (inner_of s)).lsr (saved_lsr zs)) done.is;
        msr = λ n. ap (λ (g : Fields). g.msr) saved ∙ ap (λ zs. bit_or (fields (inner_of s)).msr (saved_msr zs)) done.is;
      };
    }

-- the same after another access, which changes no mode
goes_steered : (x : Modes) (N M : Type 0) (s t : State) (access : Access) (bits : ℕ) (l : List Access) → is_quiet access ≡ true →
    InSession x s → IsWired s → l ≡ access ∷ Write offsets.MCR (unlooped bits) ∷ [] → Path MachineStep (machine_of s) l (machine_of t) →
    (fields (inner_of t)).fifo ≡ (fields (inner_of s)).fifo →
    (fields (inner_of t)).lsr ≡ bit_or (fields (inner_of s)).lsr (saved_lsr (access ∷ Write offsets.MCR (unlooped bits) ∷ [])) →
    (fields (inner_of t)).msr ≡ bit_or (fields (inner_of s)).msr (saved_msr (access ∷ Write offsets.MCR (unlooped bits) ∷ [])) →
    Goes x N M s t [] []
goes_steered x N M s t access bits l quiet w wired is path fifo lsr msr =
    let value = unlooped bits in
    let made : List Access = access ∷ Write offsets.MCR value ∷ [] in
    let p = path_as (machine_of s) (machine_of t) l made is path in
    let q = p.2 in
    let f = (at_access p.0).chip.auto_flow in
    let z : Modes = record x { mcr = kept_mcr f value } in
    let off = unlooped_off f bits in
    let first = passed_quiet x (machine_of s) p.0 access w.open_modes w.stands quiet p.1 in
    let written = passed_mcr x p.0 q.0 value w.open_modes off (stands-after x (machine_of s) p.0 (access ∷ []) [] [] first)
    (wired_step access (machine_of s) p.0 p.1 wired) q.1 in
    let both = passed-trans x z (machine_of s) p.0 q.0 (access ∷ []) (Write offsets.MCR value ∷ []) [] [] [] [] refl first written in
    record {
      modes = z;
      same = refl;
      unbroken = λ u. u;
      open_modes = record { dlab = w.open_modes.dlab; loopback = off };
      passes = record {
        made = made;
        passed = nothing_taken z (machine_of s) (machine_of t) made []
            (subst (λ (n : MachineState). Passed z (machine_of s) n made [] []) (sym q.2) both);
        fifo = fifo;
        lsr = λ n. lsr;
        msr = λ n. msr;
      };
    }

goes_output : (x : Modes) (N M : Type 0) (s t : State) (output : ℕ) (on : Bool) (l : List Access) → InSession x s → IsWired s →
    Saving (SetsOutput output on) (fields (inner_of s)) l (fields (inner_of t)) → Path MachineStep (machine_of s) l (machine_of t) →
    Goes x N M s t [] []
goes_output x N M s t output on l w wired ((mcr, is), saved) path =
    goes_steered x N M s t (Read offsets.MCR mcr) (switched on output mcr) l refl w wired is path
    (ap (λ (g : Fields). g.fifo) saved)
    (ap (λ (g : Fields). g.lsr) saved ∙ ap (λ zs. bit_or (fields (inner_of s)).lsr (saved_lsr zs)) is)
    (ap (λ (g : Fields). g.msr) saved ∙ ap (λ zs. bit_or (fields (inner_of s)).msr (saved_msr zs)) is)

-- ---- whatever the machine is

-- what is kept after it
kept_low : (low : ℕ) (k : Kept) → is_dlab_set k.latches ≡ true →
    keep (Write offsets.DLL low) k ≡ record k { latches = record k.latches { dll = low } }
kept_low low k on = rw on refl

kept_high : (high : ℕ) (k : Kept) → is_dlab_set k.latches ≡ true →
    keep (Write offsets.DLM high) k ≡ record k { latches = record k.latches { dlm = high } }
kept_high high k on = rw on refl

kept_framed : (d : ℕ) (frame : ℕ) (k : Kept) →
    kept_after (frame_writes d frame) k ≡ record k { latches = record k.latches { lcr = frame; dll = d % 256; dlm = d / 256 } }
kept_framed d frame k =
    let on : has_any (bit_or frame LCR.DLAB.0) LCR.DLAB.0 ≡ true = has_or 7 frame 128 ∙ grind (arith, common_steps) in
    let shown : Kept = record k { latches = record k.latches { lcr = bit_or frame LCR.DLAB.0 } } in
    let half : Kept = record shown { latches = record shown.latches { dll = d % 256 } } in
    ap (kept_after (Write offsets.DLM (d / 256) ∷ Write offsets.LCR frame ∷ [])) (kept_low (d % 256) shown on)
    ∙ ap (kept_after (Write offsets.LCR frame ∷ [])) (kept_high (d / 256) half on)

pub framed_kept : (d : ℕ) (config : Config) (m n : MachineState) (f after : Fields) (l : List Access) → Framed d config f l after →
    Path MachineStep m l n →
    kept_in n.chip ≡ record (kept_in m.chip) {
      latches = record m.chip.latches { lcr = frame_bits config; dll = d % 256; dlm = d / 256 };
    }
framed_kept d config m n f after l k path =
    kept_path (frame_writes d (frame_bits config)) m n (path_as m n l (frame_writes d (frame_bits config)) k.is path)
    ∙ kept_framed d (frame_bits config) (kept_in m.chip)

ready_framed : (s t : State) (config : Config) (result : Result (Unit {0}) InvalidDivisorError) (l : List Access) →
    SetsFrame config result (fields (inner_of s)) l (fields (inner_of t)) → Path MachineStep (machine_of s) l (machine_of t) →
    BurstsFit t → Ready s → Ready t
ready_framed s t config (Ok u) l d path fits ready =
    let f = framed_by d.0 config (fields (inner_of s)) (fields (inner_of t)) l d.2 in
    ready_by t _ (framed_kept d.0 config (machine_of s) (machine_of t) _ _ l f path) (frame-dlab config) ready.loopback
    (f.fifo ∙ sym ready.fifo) fits
ready_framed s t config (Err e) l d path fits ready =
    let still : machine_of t ≡ machine_of s = path_as (machine_of s) (machine_of t) l [] d.1 path in
    ready_by t (kept_in (machine_of s).chip) (ap (λ (m : MachineState). kept_in m.chip) still) ready.dlab ready.loopback
    (ap (λ (g : Fields). g.fifo) d.2 ∙ sym ready.fifo) fits

pub set_frame_ready : (s t : State) (config : Config) (a : Answer) → CallStep s (call.SetFrame config) a t → Ready s → Ready t
set_frame_ready s t config a h ready =
    ready_framed s t config h.outcome h.did.list h.did.does h.did.path (fits_kept s t (call.SetFrame config) a h tt ready.fits) ready

frames_by : (s t : State) (config : Config) (a : Answer) (result : Result (Unit {0}) InvalidDivisorError) (l : List Access) →
    a ≡ frame_answer result → SetsFrame config result (fields (inner_of s)) l (fields (inner_of t)) →
    Path MachineStep (machine_of s) l (machine_of t) → Frames config s a t
frames_by s t config a (Ok u) l e d path =
    let f = framed_by d.0 config (fields (inner_of s)) (fields (inner_of t)) l d.2 in
    let kept = framed_kept d.0 config (machine_of s) (machine_of t) _ _ l f path in
    let latches = ap (λ (k : Kept). k.latches) kept in
    record {
      leaves = λ done. record {
        divisor_latch = subst (λ n. DivisorOf config (Ok n)) (sym (ap divisor latches ∙ div-add-mod d.0 256)) d.1;
        latches = latches ∙ sym (ap (λ k. record (latches_of s) { lcr = frame_bits config; dll = k.dll; dlm = k.dlm }) latches);
        fifo = ap (λ (k : Kept). k.fifo) kept;
      };
      refused = λ x refused. absurd (cc);
    }
frames_by s t config a (Err x) l e d path = record {
  leaves = λ done. absurd (cc);
  refused = λ y refused. path_as (machine_of s) (machine_of t) l [] d.1 path;
}

pub frames : (s t : State) (config : Config) (a : Answer) → CallStep s (call.SetFrame config) a t → Frames config s a t
frames s t config a h = frames_by s t config a h.outcome h.did.list h.answered h.did.does h.did.path

-- ---- `set_break` leaves a ready state

lcr_read : (m n : MachineState) (value : ℕ) → MachineStep m (Read offsets.LCR value) n → value ≡ m.chip.latches.lcr
lcr_read m n value s = s.1 ∙ ap (λ (k : Kept). k.latches.lcr) (kept_access m)

pub set_break_ready : (s t : State) (on : Bool) (l : List Access) → Saving (SetsBreak on) (fields (inner_of s)) l (fields (inner_of t)) →
    Path MachineStep (machine_of s) l (machine_of t) → BurstsFit t → Ready s → Ready t
set_break_ready s t on l ((lcr, is), saved) path fits ready =
    let made : List Access = Read offsets.LCR lcr ∷ Write offsets.LCR (switched on LCR.SET_BREAK.0 lcr) ∷ [] in
    let p = path_as (machine_of s) (machine_of t) l made is path in
    ready_by t _ (kept_list l made (machine_of s) (machine_of t) is path)
    (break_dlab on lcr ∙ (ap (λ (v : ℕ). has_any v LCR.DLAB.0) (lcr_read (machine_of s) p.0 lcr p.1) ∙ ready.dlab)) ready.loopback
    (ap (λ (g : Fields). g.fifo) saved ∙ sym ready.fifo) fits

-- ---- calls that write MCR

control_ready : (s t : State) (bits : ℕ) (l made : List Access) → l ≡ made → ((k : Kept) →
    kept_after made k ≡ record k { latches = record k.latches { mcr = kept_mcr k.auto_flow (unlooped bits) } }) →
    (fields (inner_of t)).fifo ≡ (fields (inner_of s)).fifo → Path MachineStep (machine_of s) l (machine_of t) → BurstsFit t → Ready s →
    Ready t
control_ready s t bits l made is kept fifo path fits ready =
    ready_by t _ (kept_list l made (machine_of s) (machine_of t) is path ∙ kept (kept_in (machine_of s).chip)) ready.dlab
    (unlooped_off (machine_of s).chip.auto_flow bits) (fifo ∙ sym ready.fifo) fits

pub set_control_ready : (s t : State) (bits : ℕ) (l : List Access) →
    Saving (SetsControl bits) (fields (inner_of s)) l (fields (inner_of t)) →
    Path MachineStep (machine_of s) l (machine_of t) → BurstsFit t → Ready s → Ready t
set_control_ready s t bits l d path fits ready =
    control_ready s t bits l (Write offsets.MCR (unlooped bits) ∷ []) d.0.is (λ k. refl) (ap (λ (g : Fields). g.fifo) d.1) path fits ready

pub set_output_ready : (s t : State) (output : ℕ) (on : Bool) (l : List Access) →
    Saving (SetsOutput output on) (fields (inner_of s)) l (fields (inner_of t)) →
    Path MachineStep (machine_of s) l (machine_of t) → BurstsFit t → Ready s → Ready t
set_output_ready s t output on l ((mcr, is), saved) path fits ready =
    control_ready s t (switched on output mcr) l (Read offsets.MCR mcr ∷ Write offsets.MCR (unlooped (switched on output mcr)) ∷ []) is
    (λ k. refl) (ap (λ (g : Fields). g.fifo) saved) path fits ready

-- ---- `attach`

pub mcr_read : (m n : MachineState) (value : ℕ) → MachineStep m (Read offsets.MCR value) n → value ≡ m.chip.latches.mcr
mcr_read m n value s = s.1 ∙ ap (λ (k : Kept). k.latches.mcr) (kept_access m)

-- a list of the first reads: nothing changes, and DLAB and loopback are off
record Found (m n : MachineState) : Type 0 where
  pub still : kept_in n.chip ≡ kept_in m.chip
  pub dlab : is_dlab_set m.chip.latches ≡ false
  pub loopback : is_loopback m.chip.latches ≡ false

latch_found : (m n : MachineState) (value : ℕ) → has value LCR.DLAB.0 ≡ false → Path MachineStep m (Read offsets.LCR value ∷ []) n →
    is_dlab_set m.chip.latches ≡ false
latch_found m n value shows p =
    ap (λ (v : ℕ). has_any v LCR.DLAB.0) (sym (lcr_read m p.0 value p.1)) ∙ (sym (has_one 7 value) ∙ shows)

loop_found : (m n : MachineState) (value : ℕ) → has value MCR.LOOP_BACK.0 ≡ false → Path MachineStep m (Read offsets.MCR value ∷ []) n →
    is_loopback m.chip.latches ≡ false
loop_found m n value shows p =
    ap (λ (v : ℕ). has_any v MCR.LOOP_BACK.0) (sym (mcr_read m p.0 value p.1)) ∙ (sym (has_one 4 value) ∙ shows)

found : (v : Settings) (l : List Access) (m n : MachineState) → FindsLoopback false v l → Path MachineStep m l n → Found m n
found v l m n t path =
    let a = then_parts (FindsLatch false) (Asks offsets.MCR MCR.LOOP_BACK.0 false) v l m n t path in
    let first = kept_list a.front (Read offsets.LCR a.first.answer ∷ []) m a.between a.first.is a.before in
    let second = kept_list a.back (Read offsets.MCR a.second.answer ∷ []) a.between n a.second.is a.after in
    record {
      still = second ∙ first;
      dlab = latch_found m a.between a.first.answer a.first.shows
          (path_as m a.between a.front (Read offsets.LCR a.first.answer ∷ []) a.first.is a.before);
      loopback = sym (ap (λ (k : Kept). is_loopback k.latches) first) ∙ loop_found a.between n a.second.answer a.second.shows
          (path_as a.between n a.back (Read offsets.MCR a.second.answer ∷ []) a.second.is a.after);
    }

-- the latch is shown, read and hidden again
latch_kept : (m n : MachineState) (l : List Access) (low high : ℕ) (v : Settings) → ReadsDivisor low high v l → Path MachineStep m l n →
    kept_in n.chip ≡ kept_in m.chip
latch_kept m n l low high v (lcr, is) path =
    let p = path_as m n l (divisor_accesses lcr low high) is path in
    kept_path (divisor_accesses lcr low high) m n p
    ∙ ap (λ (x : ℕ). record (kept_in m.chip) { latches = record m.chip.latches { lcr = x } }) (lcr_read m p.0 lcr p.1)

-- and what is read is what it has
pub answer_low : (c : ChipState) → is_dlab_set c.latches ≡ true → answer offsets.DLL c ≡ c.latches.dll
answer_low c on = rw on refl

pub answer_high : (c : ChipState) → is_dlab_set c.latches ≡ true → answer offsets.DLM c ≡ c.latches.dlm
answer_high c on = rw on refl

latch_read : (m n : MachineState) (lcr low high : ℕ) → Path MachineStep m (divisor_accesses lcr low high) n →
    divisor m.chip.latches ≡ 256 * high + low
latch_read m n lcr low high (m₁, s₁, (m₂, s₂, (m₃, s₃, (m₄, s₄, more)))) =
    let on : has_any (bit_or lcr LCR.DLAB.0) LCR.DLAB.0 ≡ true = has_or 7 lcr 128 ∙ grind (arith, common_steps) in
    let shown : kept_in m₂.chip ≡ record (kept_in m.chip) { latches = record m.chip.latches { lcr = bit_or lcr LCR.DLAB.0 } } =
    kept_step (Write offsets.LCR (bit_or lcr LCR.DLAB.0)) m₁ m₂ s₂
    ∙ ap (keep (Write offsets.LCR (bit_or lcr LCR.DLAB.0))) (kept_step (Read offsets.LCR lcr) m m₁ s₁) in
    let first = kept_access m₂ ∙ shown in
    let second = kept_access m₃ ∙ (kept_step (Read offsets.DLL low) m₂ m₃ s₃ ∙ shown) in
    let dlab : Kept → Bool = λ k. is_dlab_set k.latches in
    let is_low : low ≡ m.chip.latches.dll = s₃.1 ∙ (answer_low (at_access m₂).chip (ap dlab first ∙ on) ∙ ap (λ k. k.latches.dll) first) in
    let is_high : high ≡ m.chip.latches.dlm =
    s₄.1 ∙ (answer_high (at_access m₃).chip (ap dlab second ∙ on) ∙ ap (λ k. k.latches.dlm) second) in
    omega (arith, is_low, is_high)

latch_told : (m n : MachineState) (l : List Access) (low high : ℕ) (v : Settings) → ReadsDivisor low high v l → Path MachineStep m l n →
    divisor m.chip.latches ≡ 256 * high + low
latch_told m n l low high v (lcr, is) path = latch_read m n lcr low high (path_as m n l (divisor_accesses lcr low high) is path)

-- DLAB and loopback are off, and the latch was read: nothing changes
record Looked (low high : ℕ) (m n : MachineState) : Type 0 where
  pub still : kept_in n.chip ≡ kept_in m.chip
  pub dlab : is_dlab_set m.chip.latches ≡ false
  pub loopback : is_loopback m.chip.latches ≡ false
  pub told : divisor m.chip.latches ≡ 256 * high + low

looked : (v : Settings) (low high : ℕ) (l : List Access) (m n : MachineState) → FindsDivisor low high v l → Path MachineStep m l n →
    Looked low high m n
looked v low high l m n t path =
    let a = then_parts (FindsLoopback false) (ReadsDivisor low high) v l m n t path in
    let first = found v a.front m a.between a.first a.before in
    record {
      still = latch_kept a.between n a.back low high v a.second a.after ∙ first.still;
      dlab = first.dlab;
      loopback = first.loopback;
      told = sym (ap (λ (k : Kept). divisor k.latches) first.still) ∙ latch_told a.between n a.back low high v a.second a.after;
    }

attached : (s t : State) (on : Bool) (low high : ℕ) (l : List Access) → 0 < 256 * high + low →
    Next (Saving (FindsPort on low high)) (Sets (with_fifo on)) (fields (inner_of s)) l (fields (inner_of t)) →
    Path MachineStep (machine_of s) l (machine_of t) → IsAttached low high s t
attached s t on low high l some d path =
    let f = fields (inner_of s) in
    let v = settings_of f in
    let a = next_stages (Saving (FindsPort on low high)) (Sets (with_fifo on)) f (fields (inner_of t)) l (machine_of s) (machine_of t)
    d path in
    let b = then_parts (FindsDivisor low high) (Asks offsets.ISR ISR.FIFOS_ENABLED.0 on) v a.parts.front (machine_of s) a.parts.between
    a.parts.first.0 a.parts.before in
    let first = looked v low high b.front (machine_of s) b.between b.first b.before in
    let asked = path_as b.between a.parts.between b.back (Read offsets.ISR b.second.answer ∷ []) b.second.is b.after in
    let is_on : on ≡ b.between.chip.fifo = sym b.second.shows ∙ fifo_shown b.between asked.0 b.second.answer asked.1 in
    let second = kept_path (Read offsets.ISR b.second.answer ∷ []) b.between a.parts.between asked in
    let last = kept_list a.parts.back [] a.parts.between (machine_of t) a.parts.second.0 a.parts.after in
    let same : kept_in (machine_of t).chip ≡ kept_in (machine_of s).chip = last ∙ (second ∙ first.still) in
    record {
      ready = ready_by t (kept_in (machine_of s).chip) same first.dlab first.loopback
          (ap (λ (g : Fields). g.fifo) a.parts.second.1 ∙ (is_on ∙ ap (λ (k : Kept). k.fifo) first.still));
      latches = ap (λ (k : Kept). k.latches) same;
      divisor_latch = ap (λ (k : Kept). divisor k.latches) same ∙ first.told;
      is_set_up = some;
    }

-- a refusal leaves the registers
refused_ready : (s t : State) (l : List Access) → kept_in (machine_of t).chip ≡ kept_in (machine_of s).chip →
    fields (inner_of t) ≡ saving (fields (inner_of s)) l → BurstsFit t → Ready s → Ready t
refused_ready s t l still saved fits ready =
    ready_by t (kept_in (machine_of s).chip) still ready.dlab ready.loopback (ap (λ (g : Fields). g.fifo) saved ∙ sym ready.fifo) fits

attaches_ready : (s t : State) (result : Result (ℕ × ℕ) AttachError) (l : List Access) →
    Attaches result (fields (inner_of s)) l (fields (inner_of t)) → Path MachineStep (machine_of s) l (machine_of t) → BurstsFit t →
    Ready s → Ready t
attaches_ready s t (Ok latch) l d path fits ready = (attached s t d.1 latch.0 latch.1 l d.0 d.2 path).ready fits
attaches_ready s t (Err DivisorLatchOpen) l d path fits ready =
    refused_ready s t l (kept_list l (Read offsets.LCR d.0.answer ∷ []) (machine_of s) (machine_of t) d.0.is path) d.1 fits ready
attaches_ready s t (Err Loopback) l d path fits ready =
    let a = then_parts (FindsLatch false) (Asks offsets.MCR MCR.LOOP_BACK.0 true) (settings_of (fields (inner_of s))) l (machine_of s)
    (machine_of t) d.0 path in
    refused_ready s t l
    (kept_list a.back (Read offsets.MCR a.second.answer ∷ []) a.between (machine_of t) a.second.is a.after
    ∙ kept_list a.front (Read offsets.LCR a.first.answer ∷ []) (machine_of s) a.between a.first.is a.before) d.1 fits ready
attaches_ready s t (Err NoDivisor) l d path fits ready =
    refused_ready s t l (looked (settings_of (fields (inner_of s))) 0 0 l (machine_of s) (machine_of t) d.0 path).still d.1 fits ready

pub attach_ready : (s t : State) (a : Answer) → CallStep s call.Attach a t → Ready s → Ready t
attach_ready s t a h ready =
    attaches_ready s t h.outcome h.did.list h.did.does h.did.path (fits_kept s t call.Attach a h tt ready.fits) ready

-- one that succeeds leaves a ready state, whatever the machine was before
taken_ready : (s t : State) (a : Answer) (result : Result (ℕ × ℕ) AttachError) (l : List Access) → a ≡ attach_answer result →
    Attaches result (fields (inner_of s)) l (fields (inner_of t)) → Path MachineStep (machine_of s) l (machine_of t) →
    (low high : ℕ) → a ≡ Latch low high → IsAttached low high s t
taken_ready s t a (Ok latch) l e d path low high is =
    let both : Latch latch.0 latch.1 ≡ Latch low high = sym e ∙ is in
    let low_same : latch.0 ≡ low = cc in
    let high_same : latch.1 ≡ high = cc in
    let taken = attached s t d.1 latch.0 latch.1 l d.0 d.2 path in
    let some = d.0 in
    record {
      ready = taken.ready;
      latches = taken.latches;
      divisor_latch = taken.divisor_latch ∙ omega (arith, low_same, high_same);
      is_set_up = omega (arith, low_same, high_same, some);
    }
taken_ready s t a (Err x) l e d path low high is = absurd (cc)

-- one that finds no divisor leaves the latches, and they have none
refused_bare : (s t : State) (a : Answer) (result : Result (ℕ × ℕ) AttachError) (l : List Access) → a ≡ attach_answer result →
    Attaches result (fields (inner_of s)) l (fields (inner_of t)) → Path MachineStep (machine_of s) l (machine_of t) →
    a ≡ AttachRefused NoDivisor → (divisor (latches_of s) ≡ 0) × (latches_of t ≡ latches_of s)
refused_bare s t a (Err NoDivisor) l e d path is =
    let look = looked (settings_of (fields (inner_of s))) 0 0 l (machine_of s) (machine_of t) d.0 path in
    (look.told, ap (λ (k : Kept). k.latches) look.still)
refused_bare s t a _ l e d path is = absurd (cc)

-- one in a ready state finds DLAB and loopback off
shut : (s t : State) (l : List Access) → FindsLatch true (settings_of (fields (inner_of s))) l →
    Path MachineStep (machine_of s) l (machine_of t) → Ready s → ⊥
shut s t l d path ready =
    let shown = d.answer in
    let p = path_as (machine_of s) (machine_of t) l (Read offsets.LCR shown ∷ []) d.is path in
    false≢true (sym ready.dlab ∙ (sym (ap (λ (v : ℕ). has_any v LCR.DLAB.0) (lcr_read (machine_of s) p.0 shown p.1))
    ∙ (sym (has_one 7 shown) ∙ d.shows)))

straight : (s t : State) (l : List Access) → FindsLoopback true (settings_of (fields (inner_of s))) l →
    Path MachineStep (machine_of s) l (machine_of t) → Ready s → ⊥
straight s t l d path ready =
    let b = then_parts (FindsLatch false) (Asks offsets.MCR MCR.LOOP_BACK.0 true) (settings_of (fields (inner_of s))) l (machine_of s)
    (machine_of t) d path in
    let shown = b.second.answer in
    let p = path_as b.between (machine_of t) b.back (Read offsets.MCR shown ∷ []) b.second.is b.after in
    let first = kept_list b.front (Read offsets.LCR b.first.answer ∷ []) (machine_of s) b.between b.first.is b.before in
    false≢true (sym (ap (λ (k : Kept). is_loopback k.latches) first ∙ ready.loopback)
    ∙ (sym (ap (λ (v : ℕ). has_any v MCR.LOOP_BACK.0) (mcr_read b.between p.0 shown p.1)) ∙ (sym (has_one 4 shown) ∙ b.second.shows)))

-- so it takes the port, if there is a divisor
finds_port : (s t : State) (a : Answer) (result : Result (ℕ × ℕ) AttachError) (l : List Access) → a ≡ attach_answer result →
    Attaches result (fields (inner_of s)) l (fields (inner_of t)) → Path MachineStep (machine_of s) l (machine_of t) → Ready s →
    0 < divisor (latches_of s) → (low high : ℕ) × (a ≡ Latch low high)
finds_port s t a (Ok latch) l e d path ready some = (latch.0, latch.1, e)
finds_port s t a (Err DivisorLatchOpen) l e d path ready some = absurd (shut s t l d.0 path ready)
finds_port s t a (Err Loopback) l e d path ready some = absurd (straight s t l d.0 path ready)
finds_port s t a (Err NoDivisor) l e d path ready some =
    let look = looked (settings_of (fields (inner_of s))) 0 0 l (machine_of s) (machine_of t) d.0 path in
    let none : divisor (latches_of s) ≡ 0 = look.told in
    absurd (omega (arith, some, none))

pub attach_finds : (s t : State) (a : Answer) → CallStep s call.Attach a t → Ready s → 0 < divisor (latches_of s) →
    (low high : ℕ) × (a ≡ Latch low high)
attach_finds s t a h ready some = finds_port s t a h.outcome h.did.list h.answered h.did.does h.did.path ready some

-- and otherwise it says that there is none
finds_none : (s t : State) (a : Answer) (result : Result (ℕ × ℕ) AttachError) (l : List Access) → a ≡ attach_answer result →
    Attaches result (fields (inner_of s)) l (fields (inner_of t)) → Path MachineStep (machine_of s) l (machine_of t) → Ready s →
    divisor (latches_of s) ≡ 0 → a ≡ AttachRefused NoDivisor
finds_none s t a (Ok latch) l e d path ready none =
    let taken = attached s t d.1 latch.0 latch.1 l d.0 d.2 path in
    let some = d.0 in
    let told : 256 * latch.1 + latch.0 ≡ 0 = sym taken.divisor_latch ∙ (ap divisor taken.latches ∙ none) in
    absurd (omega (arith, some, told))
finds_none s t a (Err DivisorLatchOpen) l e d path ready none = absurd (shut s t l d.0 path ready)
finds_none s t a (Err Loopback) l e d path ready none = absurd (straight s t l d.0 path ready)
finds_none s t a (Err NoDivisor) l e d path ready none = e

pub attach_takes : (s t : State) (a : Answer) → CallStep s call.Attach a t → TakesPort s a t
attach_takes s t a h = record {
  leaves = taken_ready s t a h.outcome h.did.list h.answered h.did.does h.did.path;
  refused = refused_bare s t a h.outcome h.did.list h.answered h.did.does h.did.path;
  refuses = finds_none s t a h.outcome h.did.list h.answered h.did.does h.did.path;
}

-- ---- an `attach` within a session: it reads, and opens and closes the divisor latch

finds_latch_blocks : (v : Settings) (shows : Bool) → Makes v (FindsLatch shows) [] []
finds_latch_blocks v shows = makes_quiet v offsets.LCR LCR.DLAB.0 shows refl

finds_loopback_blocks : (v : Settings) (looped : Bool) → Makes v (FindsLoopback looped) [] []
finds_loopback_blocks v looped l t =
    makes_then v (FindsLatch false) (Asks offsets.MCR MCR.LOOP_BACK.0 looped) [] [] [] [] (finds_latch_blocks v false)
    (makes_quiet v offsets.MCR MCR.LOOP_BACK.0 looped refl) l t

finds_divisor_blocks : (v : Settings) (low high : ℕ) → Makes v (FindsDivisor low high) [] []
finds_divisor_blocks v low high l t =
    makes_then v (FindsLoopback false) (ReadsDivisor low high) [] [] [] [] (finds_loopback_blocks v false)
    (reads_divisor_blocks v low high) l t

finds_port_blocks : (v : Settings) (on : Bool) (low high : ℕ) → Makes v (FindsPort on low high) [] []
finds_port_blocks v on low high l t =
    makes_then v (FindsDivisor low high) (Asks offsets.ISR ISR.FIFOS_ENABLED.0 on) [] [] [] [] (finds_divisor_blocks v low high)
    (makes_quiet v offsets.ISR ISR.FIFOS_ENABLED.0 on refl) l t

-- the FIFO is taken to be as it was, since the machine's is as it was
takes_port : (x : Modes) (N M : Type 0) (s t : State) (on : Bool) (low high : ℕ) (l : List Access) → InSession x s →
    0 < 256 * high + low → Next (Saving (FindsPort on low high)) (Sets (with_fifo on)) (fields (inner_of s)) l (fields (inner_of t)) →
    Path MachineStep (machine_of s) l (machine_of t) → Passes x N M s t [] []
takes_port x N M s t on low high l w some d path =
    let f = fields (inner_of s) in
    let is : l ≡ d.front = d.whole ∙ (ap (λ zs. d.front ++ zs) d.second.0 ∙ append-nil d.front) in
    let passed = passed_silently x (most_in (settings_of f)) (machine_of s) (machine_of t) d.front [] w.open_modes w.stands
    (finds_port_blocks (settings_of f) on low high d.front d.first.0) (path_as (machine_of s) (machine_of t) l d.front is path) in
    let size = ap (λ (g : Fields). g.size) d.second.1 ∙ ap (λ (g : Fields). g.size) d.first.1 in
    let stays = stays_so (built.attaches (Ok (low, high))) refl f l (fields (inner_of t)) (some, on, d) in
    let fits = fits_after s t l size (left_ever (machine_of s) l stays) path w.fits in
    let ready = (attached s t on low high l some d path).ready fits in
    record {
      made = d.front;
      passed = passed;
      fifo = sym ready.fifo ∙ (passed.passed.went.modes.fifo ∙ sym w.fifo);
      lsr = λ no. ap (λ (g : Fields). g.lsr) d.second.1 ∙ ap (λ (g : Fields). g.lsr) d.first.1;
      msr = λ no. ap (λ (g : Fields). g.msr) d.second.1 ∙ ap (λ (g : Fields). g.msr) d.first.1;
    }

attaches : (x : Modes) (N M : Type 0) (s t : State) (result : Result (ℕ × ℕ) AttachError) → InSession x s →
    (did : Did MachineStep (Attaches result) (inner_of s) (inner_of t)) → Passes x N M s t [] []
attaches x N M s t (Ok latch) w did = takes_port x N M s t did.does.1 latch.0 latch.1 did.list w did.does.0 did.does.2 did.path
attaches x N M s t (Err DivisorLatchOpen) w did =
    let f = fields (inner_of s) in
    passes_did x N M (Saving (FindsLatch true)) [] [] s t w did
    (saving_keeps (FindsLatch true) f (fields (inner_of t)) did.list [] [] (finds_latch_blocks (settings_of f) true) did.does)
attaches x N M s t (Err Loopback) w did =
    let f = fields (inner_of s) in
    passes_did x N M (Saving (FindsLoopback true)) [] [] s t w did
    (saving_keeps (FindsLoopback true) f (fields (inner_of t)) did.list [] [] (finds_loopback_blocks (settings_of f) true) did.does)
attaches x N M s t (Err NoDivisor) w did =
    let f = fields (inner_of s) in
    passes_did x N M (Saving (FindsDivisor 0 0)) [] [] s t w did
    (saving_keeps (FindsDivisor 0 0) f (fields (inner_of t)) did.list [] [] (finds_divisor_blocks (settings_of f) 0 0) did.does)

-- ---- a `quiesce` within a session, which keeps the FIFOs: it writes IER and MCR

goes_quiet : (x : Modes) (N M : Type 0) (s t : State) (outputs : ℕ) (l : List Access) → InSession x s → IsWired s →
    Quiesces outputs Keep (fields (inner_of s)) l (fields (inner_of t)) → Path MachineStep (machine_of s) l (machine_of t) →
    Goes x N M s t [] []
goes_quiet x N M s t outputs l w wired does path =
    let f = fields (inner_of s) in
    let made : List Access = Write offsets.IER 0 ∷ Write offsets.MCR (unlooped outputs) ∷ [] in
    let b = does.second in
    let is : l ≡ made = does.whole ∙ (ap (λ zs. zs ++ does.back) does.first.0 ∙ (b.whole ∙ (ap (λ zs. zs ++ b.back) b.first.0.is
    ∙ (ap (λ zs. made ++ zs) b.second.0 ∙ append-nil made)))) in
    goes_steered x N M s t (Write offsets.IER 0) outputs l refl w wired is path
    (ap (λ (g : Fields). g.fifo) b.second.1)
    (ap (λ (g : Fields). g.lsr) b.second.1 ∙ (ap (λ (g : Fields). g.lsr) b.first.1
    ∙ (ap (λ (g : Fields). bit_or g.lsr (saved_lsr b.front)) does.first.1 ∙ ap (λ zs. bit_or f.lsr (saved_lsr zs)) b.first.0.is)))
    (ap (λ (g : Fields). g.msr) b.second.1 ∙ (ap (λ (g : Fields). g.msr) b.first.1
    ∙ (ap (λ (g : Fields). bit_or g.msr (saved_msr b.front)) does.first.1 ∙ ap (λ zs. bit_or f.msr (saved_msr zs)) b.first.0.is)))

-- ---- calls within a session

-- what each call of these does, where characters are cut so
pub record GoOn (Within : State → Call → Type 0) (cut : ℕ → ℕ) : Type 0 where
  pub go : (x : Modes) (s t : State) (c : Call) (a : Answer) → x.cut ≡ cut → InSession x s → Within s c → CallStep s c a t →
      Goes x (c ≢ call.Lsr) (c ≢ call.Msr) s t (reported_by c a) (received_by c a)

-- each call is made in a state in which it may be
abbrev pub AllAt : (State → Call → Type 0) → List Link → Type 0
AllAt Within [] = Unit {0}
AllAt Within (link ∷ links) = Within link.before link.call × AllAt Within links

go_call : (cut : ℕ → ℕ) (x : Modes) (s t : State) (c : Call) (a : Answer) → x.cut ≡ cut → InSession x s → IsWithinSession s c →
    CallStep s c a t → Goes x (c ≢ call.Lsr) (c ≢ call.Msr) s t (reported_by c a) (received_by c a)
go_call cut x s t (call.Init config) a same w i h = absurd i
go_call cut x s t (call.InitWith config setup) a same w i h = absurd i
go_call cut x s t (call.SetFrame config) a same w i h = absurd i
go_call cut x s t (call.SetFrameWhenIdle config) a same w i h = absurd i
go_call cut x s t call.Attach a same w i h = goes_still x _ _ s t [] [] w (attaches x _ _ s t h.outcome w h.did)
go_call cut x s t (call.SetModemControl outputs) a same w i h = goes_control x _ _ s t outputs.0 h.did.list w i h.did.does h.did.path
go_call cut x s t (call.SetRts on) a same w i h = goes_output x _ _ s t MCR.RTS.0 on h.did.list w i h.did.does h.did.path
go_call cut x s t (call.SetDtr on) a same w i h = goes_output x _ _ s t MCR.DTR.0 on h.did.list w i h.did.does h.did.path
go_call cut x s t (call.Quiesce outputs Keep) a same w i h = goes_quiet x _ _ s t outputs.0 h.did.list w i.0 h.did.does h.did.path
go_call cut x s t (call.Quiesce outputs Reset) a same w i h = absurd (let e = i.1 in cc)
go_call cut x s t (call.Quiesce outputs Disable) a same w i h = absurd (let e = i.1 in cc)
go_call cut x s t (call.Restore dump) a same w i h = absurd i
go_call cut x s t call.TestLoopback a same w i h = absurd i
go_call cut x s t (call.SetBreak true) a same w i h = absurd (cc)
go_call cut x s t (call.SetBreak false) a same w i h = goes_break x _ _ s t h.did.list w h.did.does h.did.path
go_call cut x s t other a same w i h = goes_still x _ _ s t _ _ w (passes_call x s t other a w tt h)

pub go_within : (cut : ℕ → ℕ) → GoOn IsWithinSession cut
go_within cut = record { go = go_call cut }

go_uncut : (x : Modes) (s t : State) (c : Call) (a : Answer) → x.cut ≡ (λ (byte : ℕ). byte) → InSession x s → IsWithinUncut s c →
    CallStep s c a t → Goes x (c ≢ call.Lsr) (c ≢ call.Msr) s t (reported_by c a) (received_by c a)
go_uncut x s t (call.Init config) a whole w i h = absurd i
go_uncut x s t (call.InitWith config setup) a whole w i h = absurd i
go_uncut x s t (call.Restore dump) a whole w i h = absurd i
go_uncut x s t call.TestLoopback a whole w i h = absurd i
go_uncut x s t (call.SetFrame config) a whole w i h = absurd i
go_uncut x s t (call.SetFrameWhenIdle config) a whole w i h =
    goes_framed_when_idle x _ _ s t config h.outcome h.did.list w whole h.did.does h.did.path
go_uncut x s t other a whole w i h = go_call (λ (byte : ℕ). byte) x s t other a whole w i h

pub go_within_uncut : GoOn IsWithinUncut (λ (byte : ℕ). byte)
go_within_uncut = record { go = go_uncut }
