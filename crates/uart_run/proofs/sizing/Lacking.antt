-- A `find_fifo_size` over a chip that has no FIFOs, by a driver that takes them to be on.
use Rattle.uart_run.proofs.Names.{refl, ◌≡◌, ◌⊎◌, ◌&&◌, ℕ, Bool, true, false, inl, inr, List, Err, Some, sym, ◌∙◌, ap, TooFew, Stalled}
use Rattle.uart_run.proofs.Names.{Path, Access, fields, FindsFifoSize, inner_of, Chip, Uart16450, out, room, cut_of, MachineStep, IsSound}
use Rattle.uart_run.proofs.Names.{State, machine_of, Ready, BurstsFit, latches_of, has_fifo, transmitter_of, IsFlushed, size_in, IsPlain}
use Rattle.uart_run.proofs.Names.{FindsNone}
use Rattle.uart_run.proofs.{EmptyTransmitter.IsSent, EmptyTransmitter.sent_path, EmptyTransmitter.shown_sent, Latches.Kept, Latches.kept_in}
use Rattle.uart_run.proofs.{initialising.Initialised.ready_by, loopback.LoopTests.looped_modes, SilentLists.does_silently}
use Rattle.uart_run.proofs.{built.Loopback.leaves, sizing.Counting.Found, sizing.Counting.told_none, built.Sizing.switches_fifo}
use Rattle.uart_run.proofs.{sizing.Measuring.FoundIn, sizing.Measuring.TellsAll, sizing.Walking.level_in, sizing.Walking.StallsFirst}
use Rattle.uart_run.proofs.{sizing.Walking.Measured, sizing.Walking.found_by}

module _ (s t : State) (sound : IsSound (machine_of s)) (plain : IsPlain s) (model : (machine_of s).chip.model ≡ Uart16450) where
  abbrev gone : List ℕ
  gone = out (transmitter_of s)

  is_stall : (found : Found) → found ≡ Err Stalled → found ≡ Err (TooFew 1) → ⊥
  is_stall found a b = let other : Err Stalled ≡ Err (TooFew 1) = sym a ∙ b in absurd (cc)

  -- the transmitter stays empty
  flushed : (found : Found) (w : Measured found s t) → IsSent gone w.between.chip.transmitter → IsFlushed s t
  flushed found w v =
      let silent_front = does_silently (switches_fifo (Some (level_in s)) w.again) refl w.f w.front w.g w.switches in
      let silent_back = does_silently (leaves w.mcr w.ier w.before w.noted) refl w.g w.back (fields (inner_of t)) w.leaves in
      let sent = sent_path gone w.back w.out_of (machine_of t) silent_back
      (sent_path gone w.front w.between w.out_of silent_front v w.first) w.second in
      record { is_empty = shown_sent gone (transmitter_of t) sent; wire = sent.wire }

  none : (found : Found) → StallsFirst found s t ⊎ Measured found s t → FindsNone s found t
  none found (inl w) = record {
    answers = inr w.stalled;
    flushed = λ e. absurd (is_stall found w.stalled e);
    ready = λ e. absurd (is_stall found w.stalled e);
    latches = ap (λ (k : Kept). k.latches) w.kept;
  }
  none found (inr w) =
      let x = looped_modes w.lcr w.on (cut_of (machine_of s).chip) in
      let off : w.on ≡ false = w.is_on ∙ ap (λ (chip : Chip). true && has_fifo chip) model in
      let tells : TellsAll w.on (size_in s) (Err (TooFew 1)) found =
      λ count e t. told_none count found (e ∙ ap (λ (fifo : Bool). room fifo (size_in s)) off) t in
      let ready : BurstsFit t → Ready t =
      ready_by t (record (kept_in (machine_of s).chip) { fifo = w.again }) w.kept plain.dlab plain.loopback w.knows in
      let latches = ap (λ (k : Kept). k.latches) w.kept in
      go ready latches (w.found_in (Err (TooFew 1)) tells)
    where
      go : (BurstsFit t → Ready t) → latches_of t ≡ latches_of s →
          FoundIn (looped_modes w.lcr w.on (cut_of (machine_of s).chip)) gone (Err (TooFew 1)) found w.between → FindsNone s found t
      go ready latches (inl v) =
          record { answers = inl v.0; flushed = λ e. flushed found w v.1; ready = λ e. ready; latches = latches }
      go ready latches (inr v) = record {
        answers = inr v.0;
        flushed = λ e. absurd (is_stall found v.0 e);
        ready = λ e. ready;
        latches = latches;
      }

  pub finds_none : (found : Found) (l : List Access) → (fields (inner_of s)).fifo ≡ true →
      FindsFifoSize found (fields (inner_of s)) l (fields (inner_of t)) → Path MachineStep (machine_of s) l (machine_of t) →
      FindsNone s found t
  finds_none found l is_on does path = none found (found_by s t sound plain found l is_on does path)
