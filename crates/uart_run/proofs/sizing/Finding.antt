-- A `find_fifo_size` over a chip that has FIFOs: it finds the size or stalls, and puts everything back.
use Rattle.uart_run.proofs.Names.{◌≡◌, ◌⊎◌, ◌&&◌, ℕ, Bool, true, false, inl, inr, List, [], ◌∷◌, ◌++◌, append-nil, Ok, Err, Some, ◌≢◌, ◌≤◌}
use Rattle.uart_run.proofs.Names.{◌==◌, arith, refl, sym, ◌∙◌, ap, subst, common_steps, FifoSize, Stalled, FifoTriggerLevel, Path, Access}
use Rattle.uart_run.proofs.Names.{Write, Settings, Only, Asks, Fields, Saving, Sets, fields, settings_of, with_fifo, fifo_bits, SetsFifo}
use Rattle.uart_run.proofs.Names.{test_byte, Leaves, SwitchesFifo, FindsFifoSize, inner_of, Chip, Uart16550A, TransmitterState, out, room}
use Rattle.uart_run.proofs.Names.{shift_bytes, ChipState, cut_of, MachineState, MachineStep, at_access, IsSound, Modes, path_as, IsLooped}
use Rattle.uart_run.proofs.Names.{State, machine_of, Ready, BurstsFit, has_fifo, transmitter_of, size_in, MayFind, receiver_of, IsMeasured}
use Rattle.uart_run.proofs.Names.{SendsAtMostOne, FindsSize, FindsOff, AllSendNothing}
use Rattle.uart_spec.specs.declared.registers.interrupt_status.TheConstants.ISR
use Rattle.uart_spec.specs.declared.registers.offsets.TheConstants as offsets
use Rattle.uart_run.proofs.{EmptyTransmitter.IsSent, EmptyTransmitter.sent_path, EmptyTransmitter.shown_sent, Latches.Kept, Latches.kept_in}
use Rattle.uart_run.proofs.{Latches.kept_access, NeverSwitched.does_never, SizeKept.leaves_size, SizeKept.left_fixed, SizeKept.fits_after}
use Rattle.uart_run.proofs.{Pieces.then_parts, Pieces.next_stages, SilentLists.silent, SilentLists.does_silently, built.Words.asks}
use Rattle.uart_run.proofs.{built.Init.stepping, built.Loopback.leaves, initialising.Initialised.ready_by, loopback.LoopTests.looped_modes}
use Rattle.uart_run.proofs.{loopback.TestedReady.leaving, loopback.TestedReady.leaves_list, sizing.Counting.Found, sizing.Counting.told}
use Rattle.uart_run.proofs.{sizing.Filling.AllAre, sizing.Flooding.IsFlooded, sizing.Flooding.flooded_access, sizing.Walking.level_in}
use Rattle.uart_run.proofs.{sizing.Walking.StallsFirst, sizing.Walking.Measured, sizing.Walking.found_by, sizing.Measuring.FoundIn}
use Rattle.uart_run.proofs.{sizing.Measuring.TellsAll, built.Sizing.finds_fifo_size, built.Sizing.switches_fifo, sizing.Remaining.IsReset}
use Rattle.uart_run.proofs.{sizing.Remaining.AllCalm, sizing.Remaining.reset_at, sizing.Remaining.reset_path}
use Rattle.uart_run.proofs.sizing.Staying.{SendsLast, last_path, last_out, emptied, reset_written}

-- ---- the FIFO step and the way out of loopback

-- the reset of FCR empties the queue
reset_step : (level : FifoTriggerLevel) (x : Modes) (gone : List ℕ) (i : IsLooped x) (m n : MachineState) → IsFlooded x gone 0 m.chip →
    m.chip.model ≡ Uart16550A → MachineStep m (Write offsets.FCR (fifo_bits (Some level))) n →
    SendsLast gone (x.cut test_byte) n.chip.transmitter
reset_step level x gone i m n w model step =
    let c = (at_access m).chip in
    let v = flooded_access x gone i 0 m w in
    let same : c.model ≡ Uart16550A = ap (λ (k : Kept). k.model) (kept_access m) ∙ model in
    let e = reset_written level c.model c same in
    let byte : cut_of c test_byte ≡ x.cut test_byte = ap (λ (cut : ℕ → ℕ). cut test_byte) v.modes.cut in
    let place = subst (λ (b : ℕ). AllAre b (shift_bytes c.transmitter.shift_register)) byte v.fills.place in
    let last : SendsLast gone (x.cut test_byte) (emptied e.0 c.transmitter) = record { queue = refl; rest = inl (v.fills.wire, place) } in
    let P : TransmitterState → Type 0 = SendsLast gone (x.cut test_byte) in
    subst P (sym (ap (λ (o : MachineState). o.chip.transmitter) step ∙ e.1)) last

reset_sends : (level : FifoTriggerLevel) (on : Bool) (s : Settings) (x : Modes) (gone : List ℕ) (i : IsLooped x) (l : List Access)
    (m n : MachineState) → IsFlooded x gone 0 m.chip → m.chip.model ≡ Uart16550A → SetsFifo (Some level) on s l → Path MachineStep m l n →
    SendsLast gone (x.cut test_byte) n.chip.transmitter
reset_sends level on s x gone i l m n w model t path =
    let write = Write offsets.FCR (fifo_bits (Some level)) ∷ [] in
    let a = then_parts (Only write) (Asks offsets.ISR ISR.FIFOS_ENABLED.0 on) s l m n t path in
    let first = reset a.between (path_as m a.between a.front write a.first.is a.before) in
    last_path gone (x.cut test_byte) a.back a.between n (silent {kinds = stepping} (asks refl) refl s a.back a.second) first a.after
  where
    reset : (o : MachineState) → Path MachineStep m (Write offsets.FCR (fifo_bits (Some level)) ∷ []) o →
        SendsLast gone (x.cut test_byte) o.chip.transmitter
    reset o (mid, step, same) = rw same (reset_step level x gone i m mid w model step)

-- ---- what is sent in the end

sent_out : (gone : List ℕ) (t : TransmitterState) → IsSent gone t → out t ≡ gone
sent_out gone t w = rw (w.place, w.queue, w.wire) (append-nil gone)

-- the size was found, and so this remains; or there was a stall, and this has been sent and is still to be sent
abbrev Ended : (level : FifoTriggerLevel) (start : ℕ) (gone : List ℕ) (byte : ℕ) → FifoSize → Found → ChipState → Type 0
Ended level start gone byte size found c =
    ((found ≡ Ok size) × IsReset level start gone c)
    ⊎ ((found ≡ Err Stalled) × ((out c.transmitter ≡ gone) ⊎ (out c.transmitter ≡ gone ++ byte ∷ [])))

-- the FIFO step resets the FIFOs
reset_remains : (level : FifoTriggerLevel) (on : Bool) (start : ℕ) (gone : List ℕ) (s : Settings) (l : List Access) (m n : MachineState) →
    m.chip.model ≡ Uart16550A → IsSent gone m.chip.transmitter → start ≤ m.chip.receiver.arrived → SetsFifo (Some level) on s l →
    Path MachineStep m l n → IsReset level start gone n.chip
reset_remains level on start gone s l m n model sent come t path =
    let write = Write offsets.FCR (fifo_bits (Some level)) ∷ [] in
    let a = then_parts (Only write) (Asks offsets.ISR ISR.FIFOS_ENABLED.0 on) s l m n t path in
    let first = reset a.between (path_as m a.between a.front write a.first.is a.before) in
    reset_path level start gone a.back a.between n (rw a.second.is (tt, tt)) first a.after
  where
    reset : (o : MachineState) → Path MachineStep m (Write offsets.FCR (fifo_bits (Some level)) ∷ []) o → IsReset level start gone o.chip
    reset o (mid, step, same) = rw same (reset_at level start gone m mid model sent come step)

-- the way out of loopback resets none
calm_leaving : (level : FifoTriggerLevel) (start : ℕ) (gone : List ℕ) (mcr ier now : ℕ) → AllCalm level start gone (leaving mcr ier now)
calm_leaving level start gone mcr ier now = (other refl refl, (tt, (other refl refl, (other refl refl, tt))))
  where
    unequal : (a b : ℕ) → (a == b) ≡ false → a ≢ b
    unequal a b e same = grind (arith, common_steps)

    other : {offset : ℕ} → (offset == offsets.DATA) ≡ false → (offset == offsets.FCR) ≡ false →
        (offset ≢ offsets.DATA) × (offset ≢ offsets.FCR)
    other {offset} a b = (unequal offset offsets.DATA a, unequal offset offsets.FCR b)

-- from the measure on
ended : (level : FifoTriggerLevel) (on : Bool) (start : ℕ) (x : Modes) (gone : List ℕ) (i : IsLooped x) (size : FifoSize) (found : Found)
    (mcr ier before noted : ℕ) (f g after : Fields) (front back : List Access) (m o n : MachineState) → m.chip.model ≡ Uart16550A →
    start ≤ m.chip.receiver.arrived → FoundIn x gone (Ok size) found m → SwitchesFifo (Some level) on f front g →
    Path MachineStep m front o → Leaves mcr ier before noted g back after → Path MachineStep o back n →
    Ended level start gone (x.cut test_byte) size found n.chip
ended level on start x gone i size found mcr ier before noted f g after front back m o n model come w t p u q = go w
  where
    silent_back : AllSendNothing back
    silent_back = does_silently (leaves mcr ier before noted) refl g back after u

    sent : IsSent gone m.chip.transmitter → IsSent gone n.chip.transmitter
    sent v =
        sent_path gone back o n silent_back
        (sent_path gone front m o (does_silently (switches_fifo (Some level) on) refl f front g t) v p) q

    remains : IsSent gone m.chip.transmitter → IsReset level start gone n.chip
    remains v =
        let a = next_stages (Saving (SetsFifo (Some level) on)) (Sets (with_fifo on)) f g front m o t p in
        let b = reset_remains level on start gone (settings_of f) a.parts.front m a.parts.between model v come a.parts.first.0
        a.parts.before in
        let c = reset_path level start gone a.parts.back a.parts.between o (rw a.parts.second.0 tt) b a.parts.after in
        let calm = calm_leaving level start gone mcr ier u.0 in
        reset_path level start gone back o n (rw (leaves_list mcr ier before noted g after back u) calm) c q

    last : IsFlooded x gone 0 m.chip → SendsLast gone (x.cut test_byte) n.chip.transmitter
    last v =
        let a = next_stages (Saving (SetsFifo (Some level) on)) (Sets (with_fifo on)) f g front m o t p in
        let b = reset_sends level on (settings_of f) x gone i a.parts.front m a.parts.between v model a.parts.first.0 a.parts.before in
        let none : AllSendNothing a.parts.back = rw a.parts.second.0 tt in
        let c = last_path gone (x.cut test_byte) a.parts.back a.parts.between o none b a.parts.after in
        last_path gone (x.cut test_byte) back o n silent_back c q

    go : FoundIn x gone (Ok size) found m → Ended level start gone (x.cut test_byte) size found n.chip
    go (inl v) = inl (v.0, remains v.1)
    go (inr (stalled, inl v)) = inr (stalled, inl (sent_out gone n.chip.transmitter (sent v)))
    go (inr (stalled, inr v)) = inr (stalled, last_out gone (x.cut test_byte) n.chip.transmitter (last v))

-- ---- the whole call

module _ (s t : State) (sound : IsSound (machine_of s)) (may : MayFind s) (is_on : (fields (inner_of s)).fifo ≡ true) where
  abbrev gone : List ℕ
  gone = out (transmitter_of s)

  -- a FIFO that is set is on
  set_on : (on : Bool) → on ≡ (true && has_fifo (machine_of s).chip.model) → on ≡ true
  set_on on e = e ∙ ap (λ (chip : Chip). true && has_fifo chip) may.model

  abbrev EndsIn : Found → Type 0
  EndsIn found =
      Ended (level_in s) (receiver_of s).arrived gone (cut_of (machine_of s).chip test_byte) (size_in s) found (machine_of t).chip

  ended_out : (found : Found) → EndsIn found → SendsAtMostOne s t
  ended_out found (inl v) = inl (sent_out gone (transmitter_of t) v.1.0)
  ended_out found (inr v) = v.1

  ended_answer : (found : Found) → EndsIn found → (found ≡ Ok (size_in s)) ⊎ (found ≡ Err Stalled)
  ended_answer found (inl v) = inl v.0
  ended_answer found (inr v) = inr v.0

  is_stall : (found : Found) → found ≡ Err Stalled → found ≡ Ok (size_in s) → ⊥
  is_stall found a b = let other : Err Stalled ≡ Ok (size_in s) = sym a ∙ b in absurd (cc)

  ended_measured : (found : Found) → EndsIn found → (BurstsFit t → Ready t) → found ≡ Ok (size_in s) → IsMeasured s t
  ended_measured found (inl v) ready e =
      let sent : IsSent gone (transmitter_of t) = v.1.0 in
      let remains = v.1.1 in
      record {
        ready = ready;
        flushed = record { is_empty = shown_sent gone (transmitter_of t) sent; wire = sent.wire };
        waits = remains.waits;
        level = remains.trigger;
      }
  ended_measured found (inr v) ready e = absurd (is_stall found v.0 e)

  finds : (found : Found) → (BurstsFit s → BurstsFit t) → StallsFirst found s t ⊎ Measured found s t → FindsSize s found t
  finds found fits (inl w) = record {
    answers = inr w.stalled;
    measured = λ e. absurd (is_stall found w.stalled e);
    sends = inl w.out;
    latches = ap (λ (k : Kept). k.latches) w.kept;
    ready = λ before. ready_by t (kept_in (machine_of s).chip) w.kept before.dlab before.loopback (w.knows ∙ sym before.fifo)
        (fits before.fits);
    fifo = λ before. ap (λ (k : Kept). k.fifo) w.kept;
  }
  finds found fits (inr w) =
      let x = looped_modes w.lcr w.on (cut_of (machine_of s).chip) in
      let tells : TellsAll w.on (size_in s) (Ok (size_in s)) found =
      λ count e t. told (size_in s) count found (e ∙ ap (λ (fifo : Bool). room fifo (size_in s)) (set_on w.on w.is_on)) t in
      let by : EndsIn found = ended (level_in s) w.again (receiver_of s).arrived x gone w.looped (size_in s) found w.mcr w.ier w.before
      w.noted w.f w.g (fields (inner_of t)) w.front w.back w.between w.out_of (machine_of t) (w.model ∙ may.model) w.come
      (w.found_in (Ok (size_in s)) tells) w.switches w.first w.leaves w.second in
      let ready : BurstsFit t → Ready t =
      ready_by t (record (kept_in (machine_of s).chip) { fifo = w.again }) w.kept may.plain.dlab may.plain.loopback w.knows in
      record {
        answers = ended_answer found by;
        measured = ended_measured found by ready;
        sends = ended_out found by;
        latches = ap (λ (k : Kept). k.latches) w.kept;
        ready = λ before. ready (fits before.fits);
        fifo = λ before. ap (λ (k : Kept). k.fifo) w.kept ∙ (set_on w.again w.is_again ∙ sym (before.fifo ∙ is_on));
      }

  pub finds_size : (found : Found) (l : List Access) → FindsFifoSize found (fields (inner_of s)) l (fields (inner_of t)) →
      Path MachineStep (machine_of s) l (machine_of t) → FindsSize s found t
  finds_size found l does path =
      let leaves = left_fixed (machine_of s) l (does_never offsets.LCR (finds_fifo_size found) refl _ l _ does) (inr may.plain.dlab) in
      finds found (fits_after s t l (leaves_size (finds_fifo_size found) _ l _ does) leaves path)
      (found_by s t sound may.plain found l is_on does path)

-- with the FIFOs off nothing is done
pub finds_off : (s t : State) (found : Found) (l : List Access) → (fields (inner_of s)).fifo ≡ false →
    FindsFifoSize found (fields (inner_of s)) l (fields (inner_of t)) → Path MachineStep (machine_of s) l (machine_of t) →
    FindsOff s found t
finds_off s t found l off (inl h) path = record {
  answers = h.0;
  machine = path_as (machine_of s) (machine_of t) l [] h.2 path;
  driver = h.3;
}
finds_off s t found l off (inr h) path = let other : false ≡ true = sym off ∙ h.0 in absurd (cc)

-- in a ready state with FIFOs that are on the size may be found
pub may_find : (s : State) → IsSound (machine_of s) → Ready s → (fields (inner_of s)).fifo ≡ true → MayFind s
may_find s sound ready on = record {
  plain = record { dlab = ready.dlab; loopback = ready.loopback };
  model = sound.chip.implemented (ready.fifo ∙ on);
}
