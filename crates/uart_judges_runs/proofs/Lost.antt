-- Each finding that says that a byte is lost names an access that loses it.
use Rattle.std.proofs.Common.{◌≡◌, ◌≤◌, ◌<◌, ℕ, ◌+◌, ◌-◌, ◌^◌, Bool, true, false, not, ◌&&◌, ◌||◌, ◌==◌, List, [], ◌∷◌, length, min, nat_lt}
use Rattle.std.proofs.Common.{◌++◌, ◌⊎◌, inl, inr, Option, Some, None, refl, sym, ◌∙◌, ap, subst, arith, if◌then◌else◌}
use Rattle.std.specs.Prelude.{nat_le}
use Rattle.std.proofs.lemmas.Grind.{common_steps}
use Rattle.std.proofs.lemmas.Bool.{and_parts, leb-true}
use Rattle.uart_spec.specs.declared.access.Access.{Access as RegisterAccess}
use Rattle.uart_spec.specs.declared.access.Access.TheVariants.{Read, Write}
use Rattle.uart_spec.specs.declared.registers.fifo_control.FCR.{FCR}
use Rattle.uart_spec.specs.declared.registers.fifo_control.TheConstants.FCR as fcr_bits
use Rattle.uart_spec.specs.declared.registers.offsets.TheConstants as offsets
use Rattle.uart_events.specs.declared.event.Chip.{Chip}
use Rattle.uart_events.specs.declared.event.Chip.TheVariants.{Uart16550A, Uart16450}
use Rattle.uart_spec.specs.declared.registers.line_status.LSR.{LSR}
use Rattle.uart_spec.specs.declared.registers.modem_control.MCR.{MCR}
use Rattle.uart_spec.specs.declared.registers.interrupt_type.InterruptType.{InterruptType}
use Rattle.uart_spec.specs.declared.registers.interrupt_type.InterruptType.TheVariants.{ReceptionTimeout}
use Rattle.uart_chip.specs.Chip.{ChipState, cut_of, is_dlab_set, is_loopback, is_switching}
use Rattle.uart_chip.specs.Machine.{MachineState, MachineStep, at_access}
use Rattle.uart_chip.specs.Switching.{SameSizes, lcr_after, may_switch, NeverSwitches}
use Rattle.uart_chip.specs.Sound.{IsSound}
use Rattle.uart_spec.specs.FifoSize.{characters}
use Rattle.uart_spec.specs.declared.baud.TheConstants.{FIFO_SIZE}
use Rattle.uart_spec.specs.declared.setup.FifoSize.{FifoSize}
use Rattle.uart_spec.specs.declared.setup.FifoSize.TheVariants.{Sixteen}
use Rattle.uart_chip.specs.Transmitter.{TransmitterState, load, room as room_of}
use Rattle.uart_chip.proofs.Switching.{closed-keeps, lacking-keeps}
use Rattle.uart_chip.proofs.Sizes.{at_most_256, some_room}
use Rattle.uart_chip.proofs.lasting.FifoSizes.{same_size, same_size-access, same_size-lacking, switch-step}
use Rattle.uart_chip.proofs.lasting.Lasting.{LastsInEvents, chip_lasts-before}
use Rattle.uart_chip.proofs.soundness.Sounds.{sound_access, sound_step}
use Rattle.uart_run.proofs.Latches.{Kept, kept_in, keep, keep_control, kept_access, kept_step}
use Rattle.uart_judges.specs.Setups.{next_is_open}
use Rattle.uart_judges.specs.Actions.{action, read_action, write_action}
use Rattle.uart_judges.specs.Findings.{all_found, change, changed, closed, closes, cuts, discard, findings_at, from_nothing}
use Rattle.uart_judges.specs.Findings.{given, has_low_alone, is_at_rest, is_for_ier, is_in_break, is_other, is_other_frame, is_zero, latch}
use Rattle.uart_judges.specs.Findings.{latched, loops_again, output, put_out}
use Rattle.uart_judges.specs.Findings.{room, sent_before, taken, taken_from, taken_from_nothing, when}
use Rattle.uart_judges.specs.History.{known, step_from}
use Rattle.uart_judges.specs.Shows.{looks_at_line, receives, sends}
use Rattle.uart_judges.specs.Steps.{action_empties, depth, loops_back, shows_room}
use Rattle.uart_judges.specs.Unread.{front}
use Rattle.uart_judges.specs.declared.audit.action.Action.{Action}
use Rattle.uart_judges.specs.declared.audit.action.Action.TheVariants.{Sends, ReadsDivisor, SetsDivisorLow, SetsDivisorHigh, ControlsFifo}
use Rattle.uart_judges.specs.declared.audit.action.Action.TheVariants.{ReadsLine, SetsLine, LooksAtLine, Arrives, ChangesLines, Other}
use Rattle.uart_judges.specs.declared.audit.auditor.Auditor.{Auditor}
use Rattle.uart_judges.specs.declared.audit.finding.Finding.{Finding}
use Rattle.uart_judges.specs.declared.audit.finding.Finding.TheVariants as found
use Rattle.uart_judges.specs.declared.audit.setup.Setup.{Setup}
use Rattle.uart_judges.specs.declared.audit.step.Step.{Step}
use Rattle.uart_judges.specs.declared.audit.unread.Arrived.{Arrived}
use Rattle.uart_judges.specs.declared.recording.entry.Entry.{Entry}
use Rattle.uart_judges.specs.declared.recording.entry.Happening.{Happening}
use Rattle.uart_judges.specs.declared.recording.entry.Happening.TheVariants.{Access, Arrive, Interrupt, Lines}
use Rattle.uart_judges_runs.specs.Lost.{AllLose, Follows, IsDropped, IsNextArrival, IsRight, IsSo, KnowsDlab, KnowsWhatIs, Loses, LosesIf}
use Rattle.uart_judges_runs.specs.Lost.{LeaveSize, left_after, left_at}
use Rattle.uart_judges_runs.specs.Recorded.{access_in, accesses_in, is_of_calls, some_such, told}
use Rattle.uart_judges_runs.proofs.Arrived.{after_arrival, lasts_events, sound_arrival}
use Rattle.uart_judges_runs.proofs.Does.{Does, alike_refl, by_offset, does_read, does_write, no_write_looks, off_at_look}
use Rattle.uart_judges_runs.proofs.Knows.{IsLooping, IsOffAtLook, IsSent, after_all, after_dlab, is_cleared}
use Rattle.uart_judges_runs.proofs.Spared.{OthersSpared, Spared, all_others}
use Rattle.uart_judges_runs.proofs.Waits.{at_the_access}
use Rattle.uart_judges_runs.proofs.Wire.{stays_inside}

module _ (a : Auditor) (left : ℕ) (c : ChipState) (n : MachineState) where
  -- the finding loses what it says
  record Lost (o : Option Finding) : Type 0 where
    pub is : LosesIf o a left c n

  none_lost : Lost None
  none_lost = record { is = tt }

  -- a finding that says of no byte that it is lost
  -- a judge that was told 16 tells of each byte beyond the room
  told_each : (other fits : Bool) (sent x y : ℕ) →
      some_such is_of_calls
      (if other then Some (found.SentBeyondRoom sent x) else if false && fits then None else Some (found.SentBeyondRoom sent y)) ≡ false → ⊥
  told_each true fits sent x y e = absurd (cc)
  told_each false fits sent x y e = absurd (cc)

  free : (f : Finding) → told 16 is_of_calls f ≡ false → LosesIf (Some f) a left c n
  free (found.SentBeyondRoom sent space) e = absurd (told_each (not (space == FIFO_SIZE)) (nat_le sent 16) sent space _ e)
  free (found.SentIntoLatch byte) e = absurd (cc)
  free (found.SentInLoopback byte) e = absurd (cc)
  free found.ResetWhileSending e = absurd (cc)
  free found.WaitingDiscarded e = absurd (cc)
  free _ e = tt

  free_if : (o : Option Finding) → Spared Sixteen o → Lost o
  free_if None s = none_lost
  free_if (Some f) s = record { is = free f s.is }

  lost_if : (b : Bool) (x y : Option Finding) → (b ≡ true → Lost x) → (b ≡ false → Lost y) → Lost (if b then x else y)
  lost_if true x y p q = p refl
  lost_if false x y p q = q refl

  lost_when : (b : Bool) (f : Finding) → (b ≡ true → LosesIf (Some f) a left c n) → Lost (when b f)
  lost_when true f p = record { is = p refl }
  lost_when false f p = none_lost

-- bytes wait, and the driver is not at rest
abbrev has_to_lose : Auditor → Step → Bool
has_to_lose a s = nat_lt 0 a.waiting && not (is_at_rest a s.setup)

positive : (n : ℕ) → nat_lt 0 n ≡ true → 1 ≤ n
positive n e = let h : 0 < n = grind (arith, common_steps) in omega (arith, h)

-- ---- a byte beyond the room

some_depth : (o : Option Bool) → 1 ≤ depth o
some_depth (Some true) = omega arith
some_depth _ = omega arith

-- as many were sent as the FIFO has room for, where the judge tells of it: without FIFOs
enough_without : (o : Option Bool) (on : Bool) (size : FifoSize) (sent : ℕ) → IsSo o (λ b. on ≡ b) → not (depth o == FIFO_SIZE) ≡ true →
    depth o ≤ sent → room_of on size ≤ sent
enough_without None on size sent so e most = absurd (cc)
enough_without (Some true) on size sent so e most = absurd (cc)
enough_without (Some false) true size sent so e most = absurd (cc)
enough_without (Some false) false size sent so e most = most

either_off : (a b : Bool) → (a && b) ≡ false → (a ≡ false) ⊎ (b ≡ false)
either_off true b e = inr e
either_off false b e = inl refl

-- and with FIFOs, of which the judge was told this size
more_than_told : (space sent : ℕ) → 16 ≤ sent → space ≤ 256 →
    (nat_lt 16 space ≡ false) ⊎ (nat_le (min (sent + 1) (2 ^ 64 - 1)) space ≡ false) → space ≤ sent
more_than_told space sent most small (inl e) = let h = no_more 16 space e in omega (arith, h, most)
  where
    no_more : (a b : ℕ) → nat_lt a b ≡ false → b ≤ a
    no_more a b e = grind (arith, common_steps)
more_than_told space sent most small (inr e) = let h = more (min (sent + 1) (2 ^ 64 - 1)) space e in omega (arith, h)
  where
    more : (a b : ℕ) → nat_le a b ≡ false → b < a
    more a b e = grind (arith, common_steps)

enough_with : (o : Option Bool) (on : Bool) (size : FifoSize) (sent : ℕ) → IsSo o (λ b. on ≡ b) →
    (nat_lt FIFO_SIZE (characters size) && nat_le (min (sent + 1) (2 ^ 64 - 1)) (characters size)) ≡ false →
    depth o ≤ sent → room_of on size ≤ sent
enough_with None true size sent so e most = more_than_told (characters size) sent most (at_most_256 size) (either_off _ _ e)
enough_with (Some true) true size sent so e most = more_than_told (characters size) sent most (at_most_256 size) (either_off _ _ e)
enough_with (Some false) true size sent so e most = absurd (cc)
enough_with o false size sent so e most = let one = some_depth o in omega (arith, one, most)

is_full : (space before sent queued left : ℕ) → space ≤ before → before ≤ sent → min sent space ≤ queued + left → space ≤ queued + left
is_full space before sent queued left p q h = omega (arith, p, q, h)

counts : (rested : Bool) (sent : ℕ) → (if rested then 0 else sent) ≤ sent
counts true sent = omega arith
counts false sent = omega arith

same_length : (fifo : Bool) (size : FifoSize) (byte : ℕ) (queue : List ℕ) → room_of fifo size ≤ length queue →
    length queue ≤ room_of fifo size → length (if fifo then queue else byte ∷ []) ≡ length queue
same_length true size byte queue p q = refl
same_length false size byte queue p q = one (length queue) p q
  where
    one : (n : ℕ) → 1 ≤ n → n ≤ 1 → 1 ≡ n
    one n p q = omega (arith, p, q)

same_queue : (fifo : Bool) (byte : ℕ) (queue : List ℕ) → fifo ≡ true → (if fifo then queue else byte ∷ []) ≡ queue
same_queue true byte queue e = refl
same_queue false byte queue e = absurd (cc)

not_less : (n m : ℕ) → m ≤ n → nat_lt n m ≡ false
not_less n m h = grind (arith, common_steps)

-- what the queue holds fits into it
abbrev pub Fits : ChipState → Type 0
Fits c = length c.transmitter.queue ≤ room_of c.fifo c.transmitter.size

dropped : (c : ChipState) (byte : ℕ) → Fits c → room_of c.fifo c.transmitter.size ≤ length c.transmitter.queue →
    IsDropped c (record c { transmitter = load c.fifo byte c.transmitter })
dropped c byte fits full =
    rw (not_less (length c.transmitter.queue) (room_of c.fifo c.transmitter.size) full) (record {
      counted = refl;
      no_more = same_length c.fifo c.transmitter.size byte c.transmitter.queue full fits;
      with_fifo = λ on. same_queue c.fifo byte c.transmitter.queue on;
    })

no_bytes_left : (space queued left : ℕ) → space ≤ queued + left → left ≡ 0 → space ≤ queued
no_bytes_left space queued left h e = omega (arith, h, e)

module _ (a : Auditor) (left : ℕ) (c : ChipState) (n : MachineState) (s : Step) (same : s.setup ≡ a.setup) (k : KnowsWhatIs a left c)
    (fits : Fits c) where
  fifos : IsSo s.setup.has_fifo (λ on. c.fifo ≡ on)
  fifos = subst (λ (setup : Setup). IsSo setup.has_fifo (λ on. c.fifo ≡ on)) (sym same) k.fifos

  full_then_dropped : (byte : ℕ) → Does (Sends byte) c n.chip → room_of c.fifo c.transmitter.size ≤ sent_before a s →
      (room_of c.fifo c.transmitter.size ≤ length c.transmitter.queue + left) × (left ≡ 0 → IsDropped c n.chip)
  full_then_dropped byte h enough =
      let full : room_of c.fifo c.transmitter.size ≤ length c.transmitter.queue + left =
      is_full (room_of c.fifo c.transmitter.size) (sent_before a s) a.sent _ left enough (counts s.has_rested a.sent) k.sent in (
        full,
        λ none. subst (λ (d : ChipState). IsDropped c d) (sym h)
            (dropped c (cut_of c byte) fits
            (no_bytes_left (room_of c.fifo c.transmitter.size) (length c.transmitter.queue) left full none)),
      )

  -- where it is told of, by what was compared
  told_or_fits : (P : Finding → Type 0) (other fits : Bool) (x y : Finding) → (other ≡ true → P x) → (fits ≡ false → P y) →
      IsSo (if other then Some x else if fits then None else Some y) P
  told_or_fits P true fits x y p q = p refl
  told_or_fits P false true x y p q = tt
  told_or_fits P false false x y p q = q refl

  beyond : (byte : ℕ) → Does (Sends byte) c n.chip → nat_le (depth s.setup.has_fifo) (sent_before a s) ≡ true →
      LosesIf (Some (found.SentBeyondRoom (min (sent_before a s + 1) (2 ^ 64 - 1)) (depth s.setup.has_fifo))) a left c n
  beyond byte h e =
      let most : depth s.setup.has_fifo ≤ sent_before a s = leb-true _ (sent_before a s) e in
      told_or_fits (λ f. Loses f a left c n) (not (depth s.setup.has_fifo == FIFO_SIZE)) _ _ _
      (λ other. full_then_dropped byte h (enough_without s.setup.has_fifo c.fifo c.transmitter.size (sent_before a s) fifos other most))
      (λ more. full_then_dropped byte h (enough_with s.setup.has_fifo c.fifo c.transmitter.size (sent_before a s) fifos more most))

  room_lost : (x : Action) → Does x c n.chip → Lost a left c n
      (if not (sends x) then None
      else when (nat_le (depth s.setup.has_fifo) (sent_before a s))
      (found.SentBeyondRoom (min (sent_before a s + 1) (2 ^ 64 - 1)) (depth s.setup.has_fifo)))
  room_lost (Sends byte) h =
      lost_when a left c n (nat_le (depth s.setup.has_fifo) (sent_before a s)) _ (λ e. beyond byte h e)
  room_lost _ h = none_lost a left c n

  -- ---- a byte in loopback

  is_looping : (o : Option MCR) → IsSo o (IsLooping c) → loops_back o ≡ true → is_loopback c.latches ≡ true
  is_looping None so e = absurd (cc)
  is_looping (Some mcr) so e = so ∙ e

  loopback : IsSo s.setup.modem (IsLooping c)
  loopback = subst (λ (setup : Setup). IsSo setup.modem (IsLooping c)) (sym same) k.loopback

  wire_load : (b : Bool) (t u v : TransmitterState) → u.wire ≡ t.wire → v.wire ≡ t.wire → (if b then u else v).wire ≡ t.wire
  wire_load true t u v p q = p
  wire_load false t u v p q = q

  in_loopback : (byte : ℕ) → Does (Sends byte) c n.chip → loops_again a s.setup ≡ true → Loses (found.SentInLoopback byte) a left c n
  in_loopback byte h e =
      let on : is_loopback c.latches ≡ true = is_looping s.setup.modem loopback (and_parts _ _ e).0 in
      stays_inside c.transmitter.wire n (ap (λ (c : ChipState). is_loopback c.latches) h ∙ on)
      (ap (λ (c : ChipState). c.transmitter.wire) h
      ∙ wire_load (nat_lt (length c.transmitter.queue) (room_of c.fifo c.transmitter.size)) c.transmitter _ _ refl refl)

  given_lost : (byte : ℕ) → Does (Sends byte) c n.chip → Lost a left c n (given a s.setup byte)
  given_lost byte h =
      lost_if a left c n (is_in_break s.setup.line) _ _ (λ _. record { is = tt })
      (λ _. lost_if a left c n (loops_again a s.setup) _ _ (λ e. record { is = in_loopback byte h e })
      (λ _. lost_when a left c n (cuts s.setup.line byte) (found.WordTooShort byte) (λ _. tt)))

  output_lost : (x : Action) → Does x c n.chip → Lost a left c n (put_out a s.setup x)
  output_lost (Sends byte) h = given_lost byte h
  output_lost _ h = none_lost a left c n

  -- ---- a byte for the divisor

  latched_lost : (x : Action) → Does x c n.chip → Lost a left c n (latched a s x)
  latched_lost (SetsDivisorLow byte) h =
      lost_when a left c n (a.latch.has_looked || a.latch.is_low_new) (found.SentIntoLatch byte) (λ _. h.1)
  latched_lost (SetsDivisorHigh value) h = lost_when a left c n (is_for_ier a s value) (found.InterruptsIntoLatch value) (λ _. tt)
  latched_lost ReadsDivisor h = lost_when a left c n a.latch.has_looked found.ReceivedFromLatch (λ _. tt)
  latched_lost (SetsLine lcr) h =
      lost_if a left c n (closes s.setup.is_open lcr) (closed a s) None
      (λ _. lost_if a left c n (is_zero s.setup.divisor.low && is_zero s.setup.divisor.high) _ _ (λ _. record { is = tt })
      (λ _. lost_when a left c n (has_low_alone a.latch) found.HighByteNotSet (λ _. tt)))
      (λ _. none_lost a left c n)
  latched_lost _ h = none_lost a left c n

  -- ---- a queue that FCR empties

  queue_gone : {A : Type 0} (queue after : List A) (b : Bool) → b ≡ true → after ≡ (if b then [] else queue) → after ≡ []
  queue_gone queue after true e f = f
  queue_gone queue after false e f = absurd (cc)

  reset : (fcr : FCR) → Does (ControlsFifo fcr) c n.chip →
      (nat_lt 0 a.sent && action_empties fcr_bits.TX_FIFO_RESET.0 s.setup.has_fifo (ControlsFifo fcr)) ≡ true →
      Loses found.ResetWhileSending a left c n
  reset fcr h e = (
    one (length c.transmitter.queue) (room_of c.fifo c.transmitter.size) a.sent (positive a.sent (and_parts _ _ e).0)
        (some_room c.fifo c.transmitter.size) k.sent,
    queue_gone c.transmitter.queue n.chip.transmitter.queue _ (is_cleared 2 s.setup.has_fifo fcr c fifos (and_parts _ _ e).1) h.queued,
  )
    where
      one : (queued space sent : ℕ) → 1 ≤ sent → 1 ≤ space → min sent space ≤ queued + left → 1 ≤ queued + left
      one queued space sent p q h = omega (arith, p, q, h)

  changed_lost : (x : Action) → s.action ≡ x → Does x c n.chip → Lost a left c n (changed a s x)
  changed_lost (SetsLine lcr) is h = lost_when a left c n (is_other_frame s.setup.line lcr) found.FrameChangedWhileSending (λ _. tt)
  changed_lost (SetsDivisorLow value) is h =
      lost_when a left c n (is_other s.setup.divisor.low value) found.DivisorChangedWhileSending (λ _. tt)
  changed_lost (SetsDivisorHigh value) is h =
      lost_when a left c n (is_other s.setup.divisor.high value) found.DivisorChangedWhileSending (λ _. tt)
  changed_lost (ControlsFifo fcr) is h =
      lost_when a left c n _ found.ResetWhileSending
      (λ e. reset fcr h (ap (λ (x : Action). nat_lt 0 a.sent && action_empties fcr_bits.TX_FIFO_RESET.0 s.setup.has_fifo x) (sym is) ∙ e))
  changed_lost _ is h = none_lost a left c n

  discarded : (fcr : FCR) → Does (ControlsFifo fcr) c n.chip →
      (has_to_lose a s && action_empties fcr_bits.RX_FIFO_RESET.0 s.setup.has_fifo (ControlsFifo fcr)) ≡ true →
      Loses found.WaitingDiscarded a left c n
  discarded fcr h e = (
    positive a.waiting (and_parts _ _ (and_parts _ _ e).0).0,
    k.waiting,
    queue_gone c.receiver.queue n.chip.receiver.queue _ (is_cleared 1 s.setup.has_fifo fcr c fifos (and_parts _ _ e).1) h.waiting,
  )

  discard_lost : (x : Action) → Does x c n.chip → Lost a left c n
      (when (has_to_lose a s && action_empties fcr_bits.RX_FIFO_RESET.0 s.setup.has_fifo x) found.WaitingDiscarded)
  discard_lost (ControlsFifo fcr) h = lost_when a left c n _ found.WaitingDiscarded (λ e. discarded fcr h e)
  discard_lost _ h = lost_when a left c n _ found.WaitingDiscarded (λ e. absurd (let f : false ≡ true = (and_parts _ _ e).1 in cc))

-- ---- a read of DATA, which loses nothing

module _ (a : Auditor) (left : ℕ) (c : ChipState) (n : MachineState) where
  nothing_lost : (again : Bool) (ready : Option Bool) (interrupt : Option InterruptType) →
      Lost a left c n (from_nothing again ready interrupt)
  nothing_lost again ready (Some ReceptionTimeout) = none_lost a left c n
  nothing_lost again (Some false) None = record { is = tt }
  nothing_lost again (Some false) (Some _) = record { is = tt }
  nothing_lost again (Some true) None = lost_when a left c n again found.ReceivedWithoutLook (λ _. tt)
  nothing_lost again (Some true) (Some _) = lost_when a left c n again found.ReceivedWithoutLook (λ _. tt)
  nothing_lost again None None = lost_when a left c n again found.ReceivedWithoutLook (λ _. tt)
  nothing_lost again None (Some _) = lost_when a left c n again found.ReceivedWithoutLook (λ _. tt)

  from_lost : (oldest : Option Arrived) → Lost a left c n (taken_from oldest a)
  from_lost (Some oldest) = none_lost a left c n
  from_lost None =
      lost_if a left c n (a.waiting == 0) (taken_from_nothing a) (when a.has_taken found.ErrorsNotRead)
      (λ _. lost_if a left c n a.is_at_work (from_nothing a.has_taken a.ready a.data_interrupt) None
      (λ _. nothing_lost a.has_taken a.ready a.data_interrupt) (λ _. none_lost a left c n))
      (λ _. lost_when a left c n a.has_taken found.ErrorsNotRead (λ _. tt))

  taken_lost : (s : Step) → Lost a left c n (taken a s)
  taken_lost s =
      lost_if a left c n (not (receives s.action)) None (taken_from (front a.unread) a)
      (λ _. none_lost a left c n) (λ _. from_lost (front a.unread))

  -- the five that need more than their kind
  record FiveLost (s : Step) : Type 0 where
    pub room : Lost a left c n (room a s)
    pub output : Lost a left c n (output a s)
    pub latch : Lost a left c n (latch a s)
    pub change : Lost a left c n (change a s)
    pub discard : Lost a left c n (discard a s)

  all_lost : (s : Step) → FiveLost s → AllLose (all_found a s) a left c n
  all_lost s five =
      let others : OthersSpared Sixteen a s = all_others a s in
      let is : (o : Option Finding) → Spared Sixteen o → LosesIf o a left c n = λ o p. (free_if a left c n o p).is in (
        is _ others.note,
        (
          five.room.is,
          (
            five.output.is,
            (
              is _ others.flow,
              (
                is _ others.gate,
                (
                  (taken_lost s).is,
                  (
                    is _ others.arrival,
                    (
                      is _ others.overrun,
                      (
                        is _ others.empty,
                        (
                          five.latch.is,
                          (
                            five.change.is,
                            (
                              five.discard.is,
                              (
                                is _ others.service,
                                (
                                  is _ others.chip,
                                  (
                                    is _ others.level,
                                    (
                                      is _ others.line_up,
                                      tt,
                                    ),
                                  ),
                                ),
                              ),
                            ),
                          ),
                        ),
                      ),
                    ),
                  ),
                ),
              ),
            ),
          ),
        ),
      )

-- ---- an access

lost_at : (a : Auditor) (left : ℕ) (c : ChipState) (n : MachineState) (s : Step) (x : Action) → s.action ≡ x → s.setup ≡ a.setup →
    KnowsWhatIs a left c → Fits c → Does x c n.chip → AllLose (all_found a s) a left c n
lost_at a left c n s x is same k fits h =
    all_lost a left c n s (record {
      room =
          subst (λ (x : Action). Lost a left c n
          (if not (sends x) then None
          else when (nat_le (depth s.setup.has_fifo) (sent_before a s))
          (found.SentBeyondRoom (min (sent_before a s + 1) (2 ^ 64 - 1)) (depth s.setup.has_fifo))))
          (sym is) (room_lost a left c n s same k fits x h);
      output = subst (λ (x : Action). Lost a left c n (put_out a s.setup x)) (sym is) (output_lost a left c n s same k fits x h);
      latch = subst (λ (x : Action). Lost a left c n (latched a s x)) (sym is) (latched_lost a left c n s same k fits x h);
      change =
          lost_if a left c n (s.has_rested || (a.going_out == 0)) None (changed a s s.action) (λ _. none_lost a left c n)
          (λ _. subst (λ (x : Action). Lost a left c n (changed a s x)) (sym is) (changed_lost a left c n s same k fits x is h));
      discard =
          subst
          (λ (x : Action). Lost a left c n
          (when (has_to_lose a s && action_empties fcr_bits.RX_FIFO_RESET.0 s.setup.has_fifo x) found.WaitingDiscarded))
          (sym is) (discard_lost a left c n s same k fits x h);
    })

-- ---- another entry

-- it touches no register
abbrev IsNoAccess : Action → Type 0
IsNoAccess Other = Unit {0}
IsNoAccess (ChangesLines inputs) = Unit {0}
IsNoAccess (Arrives byte errors) = Unit {0}
IsNoAccess _ = ⊥

quiet_lost : (a : Auditor) (left : ℕ) (c : ChipState) (n : MachineState) (s : Step) (x : Action) → s.action ≡ x → IsNoAccess x →
    AllLose (all_found a s) a left c n
quiet_lost a left c n s x is quiet =
    all_lost a left c n s (record {
      room =
          subst (λ (x : Action). Lost a left c n
          (if not (sends x) then None
          else when (nat_le (depth s.setup.has_fifo) (sent_before a s))
          (found.SentBeyondRoom (min (sent_before a s + 1) (2 ^ 64 - 1)) (depth s.setup.has_fifo))))
          (sym is) (room_none x quiet);
      output = subst (λ (x : Action). Lost a left c n (put_out a s.setup x)) (sym is) (output_none x quiet);
      latch = subst (λ (x : Action). Lost a left c n (latched a s x)) (sym is) (latched_none x quiet);
      change =
          lost_if a left c n (s.has_rested || (a.going_out == 0)) None (changed a s s.action) (λ _. none_lost a left c n)
          (λ _. subst (λ (x : Action). Lost a left c n (changed a s x)) (sym is) (changed_none x quiet));
      discard =
          subst
          (λ (x : Action). Lost a left c n
          (when (has_to_lose a s && action_empties fcr_bits.RX_FIFO_RESET.0 s.setup.has_fifo x) found.WaitingDiscarded))
          (sym is) (discard_none x quiet);
    })
  where
    room_none : (x : Action) → IsNoAccess x → Lost a left c n
        (if not (sends x) then None
        else when (nat_le (depth s.setup.has_fifo) (sent_before a s))
        (found.SentBeyondRoom (min (sent_before a s + 1) (2 ^ 64 - 1)) (depth s.setup.has_fifo)))
    room_none Other q = none_lost a left c n
    room_none (ChangesLines inputs) q = none_lost a left c n
    room_none (Arrives byte errors) q = none_lost a left c n
    room_none _ q = absurd q

    output_none : (x : Action) → IsNoAccess x → Lost a left c n (put_out a s.setup x)
    output_none Other q = none_lost a left c n
    output_none (ChangesLines inputs) q = none_lost a left c n
    output_none (Arrives byte errors) q = none_lost a left c n
    output_none _ q = absurd q

    latched_none : (x : Action) → IsNoAccess x → Lost a left c n (latched a s x)
    latched_none Other q = none_lost a left c n
    latched_none (ChangesLines inputs) q = none_lost a left c n
    latched_none (Arrives byte errors) q = none_lost a left c n
    latched_none _ q = absurd q

    changed_none : (x : Action) → IsNoAccess x → Lost a left c n (changed a s x)
    changed_none Other q = none_lost a left c n
    changed_none (ChangesLines inputs) q = none_lost a left c n
    changed_none (Arrives byte errors) q = none_lost a left c n
    changed_none _ q = absurd q

    discard_none : (x : Action) → IsNoAccess x → Lost a left c n
        (when (has_to_lose a s && action_empties fcr_bits.RX_FIFO_RESET.0 s.setup.has_fifo x) found.WaitingDiscarded)
    discard_none Other q = lost_when a left c n _ found.WaitingDiscarded (λ e. absurd (let f : false ≡ true = (and_parts _ _ e).1 in cc))
    discard_none (ChangesLines inputs) q =
        lost_when a left c n _ found.WaitingDiscarded (λ e. absurd (let f : false ≡ true = (and_parts _ _ e).1 in cc))
    discard_none (Arrives byte errors) q =
        lost_when a left c n _ found.WaitingDiscarded (λ e. absurd (let f : false ≡ true = (and_parts _ _ e).1 in cc))
    discard_none _ q = absurd q

-- ---- a recording

-- the size stays
step_size : (m n : MachineState) (access : RegisterAccess) (rest : List RegisterAccess) → LeaveSize m (access ∷ rest) →
    MachineStep m access n → SameSizes m.chip n.chip
step_size m n access rest (inl lacks) step = same_size-lacking (access ∷ []) m n lacks (n, step, refl)
step_size m n access rest (inr never) step = same_size (access ∷ []) m n (never.0, tt) (n, step, refl)

-- also between the access and what it finds
size_at_access : (m n : MachineState) → SameSizes m.chip n.chip → n.chip.transmitter.size ≡ (at_access m).chip.transmitter.size
size_at_access m n same = same.transmitter ∙ sym (same_size-access m).transmitter

-- ---- the size stays at the entries to come

-- LCR after an access
lcr_kept : (access : RegisterAccess) (k : Kept) → (keep access k).latches.lcr ≡ lcr_after access k.latches.lcr
lcr_kept (Read offset answer) k = refl
lcr_kept (Write offset value) k =
    by_offset (λ n. (keep (Write n value) k).latches.lcr ≡ lcr_after (Write n value) k.latches.lcr)
    (either (is_dlab_set k.latches) _ _ refl refl)
    (either (is_dlab_set k.latches) _ _ refl refl) (controlled_lcr k.model) refl refl refl refl
    (λ n b. rw (b.not_data, b.not_ier, b.not_isr, b.not_lcr, b.not_mcr) (either (n == offsets.SPR) _ _ refl refl)) offset
  where
    either : (b : Bool) (x y : Kept) → x.latches.lcr ≡ k.latches.lcr → y.latches.lcr ≡ k.latches.lcr →
        (if b then x else y).latches.lcr ≡ k.latches.lcr
    either true x y p q = p
    either false x y p q = q

    controlled_lcr : (model : Chip) → (keep_control model value k).latches.lcr ≡ k.latches.lcr
    controlled_lcr Uart16450 = refl
    controlled_lcr Uart16550A = refl

leave_step : (m n : MachineState) (access : RegisterAccess) (rest : List RegisterAccess) → LeaveSize m (access ∷ rest) →
    MachineStep m access n → LeaveSize n rest
leave_step m n access rest (inl lacks) step = inl (switch-step m n access step ∙ lacks)
leave_step m n access rest (inr never) step =
    let same = ap (λ (k : Kept). k.latches.lcr) (kept_step access m n step) ∙ lcr_kept access (kept_in m.chip) in
    inr (subst (λ (lcr : ℕ). NeverSwitches lcr rest) (sym same) never.1)

-- what no event changes
abbrev LcrAnd : (lcr : ℕ) → (has_switch : Bool) → ChipState → Type 0
LcrAnd lcr has_switch c = (c.latches.lcr ≡ lcr) × (c.has_size_switch ≡ has_switch)

lcr_lasts : (lcr : ℕ) (has_switch : Bool) → LastsInEvents (LcrAnd lcr has_switch)
lcr_lasts lcr has_switch = record { in_tick = λ c e. e; in_arrival = λ byte errors c e. e; in_lines = λ inputs c e. e }

leave_arrival : (byte errors : ℕ) (m n : MachineState) (rest : List RegisterAccess) → IsNextArrival byte errors m n → LeaveSize m rest →
    LeaveSize n rest
leave_arrival byte errors m n rest a leave = go leave
  where
    same : LcrAnd m.chip.latches.lcr m.chip.has_size_switch n.chip
    same =
        let S : ChipState → Type 0 = LcrAnd m.chip.latches.lcr m.chip.has_size_switch in
        subst S (sym a.chip) (lasts_events S (lcr_lasts m.chip.latches.lcr m.chip.has_size_switch) a.before m.chip (refl, refl))

    go : LeaveSize m rest → LeaveSize n rest
    go (inl lacks) = inl (same.1 ∙ lacks)
    go (inr never) = inr (subst (λ (lcr : ℕ). NeverSwitches lcr rest) (sym same.0) never)

-- a write of FCR switches nothing
none_switched : (m : MachineState) (offset value : ℕ) (rest : List RegisterAccess) → LeaveSize m (Write offset value ∷ rest) →
    offset ≡ offsets.FCR → is_switching value (at_access m).chip ≡ false
none_switched m offset value rest (inl lacks) e =
    let same = (chip_lasts-before (LcrAnd m.chip.latches.lcr m.chip.has_size_switch)
    (lcr_lasts m.chip.latches.lcr m.chip.has_size_switch) m.ahead m.chip (refl, refl)).1 in
    lacking-keeps value (at_access m).chip (same ∙ lacks)
none_switched m offset value rest (inr never) e =
    let closed : may_switch m.chip.latches.lcr (Write offsets.FCR value) ≡ false = rw e at never.0 in
    closed-keeps value (at_access m).chip (ap (λ (k : Kept). is_dlab_set k.latches) (kept_access m) ∙ closed)

-- what an entry shows: what it says is lost is, and what the judge knows after it is so
record Shown (past : List Entry) (left : ℕ) (m : MachineState) (e : Entry) (n : MachineState) (rest : List RegisterAccess) :
    Type 0 where
  pub lost : AllLose (findings_at e past) (known past) (left_at e.happening left m n) (at_access m).chip n
  pub sound : IsSound n
  pub leave : LeaveSize n rest
  pub knows : KnowsWhatIs (known (e ∷ past)) (left_after past e left m n) n.chip

fits_in : (m : MachineState) → IsSound m → Fits (at_access m).chip
fits_in m sound = let w = (sound_access m sound).chip in w.transmitter.in_room

made : (past : List Entry) (left : ℕ) (m : MachineState) (e : Entry) (n : MachineState) (rest : List RegisterAccess)
    (access : RegisterAccess) (x : Action) → e.happening ≡ Access access → IsSound m → LeaveSize m (access ∷ rest) →
    KnowsWhatIs (known past) left m.chip → MachineStep m access n →
    (step_from (known past) e).action ≡ x → Does x (at_access m).chip n.chip →
    IsOffAtLook (known past).setup.is_open x (at_access m).chip → Shown past left m e n rest
made past left m e n rest access x is sound leave k step does h off =
    let a = known past in
    let s = step_from a e in
    let now = left + (length m.chip.transmitter.queue - length (at_access m).chip.transmitter.queue) in
    let here = at_the_access a left m sound k in
    let same : left_at e.happening left m n ≡ now = ap (λ (h : Happening). left_at h left m n) is in
    record {
      lost =
          subst (λ (left : ℕ). AllLose (findings_at e past) (known past) left (at_access m).chip n) (sym same)
          (lost_at a now (at_access m).chip n s x does refl here (fits_in m sound) h);
      sound = sound_step m n access sound step;
      leave = leave_step m n access rest leave step;
      knows =
          subst (λ (now : ℕ). KnowsWhatIs (known (e ∷ past)) (if shows_room s then 0 else now) n.chip) (sym same)
          (after_all a now (at_access m).chip n.chip s x (size_at_access m n (step_size m n access rest leave step)) does refl h off here);
    }

same_dlab : (m : MachineState) → is_dlab_set (at_access m).chip.latches ≡ is_dlab_set m.chip.latches
same_dlab m = ap (λ (k : Kept). is_dlab_set k.latches) (kept_access m)

not_looking : (x : Action) → IsNoAccess x → looks_at_line x ≡ true → ⊥
not_looking Other q e = absurd (cc)
not_looking (ChangesLines inputs) q e = absurd (cc)
not_looking (Arrives byte errors) q e = absurd (cc)
not_looking _ q e = absurd q

passed : (past : List Entry) (left : ℕ) (m : MachineState) (e : Entry) (n : MachineState) (rest : List RegisterAccess) (x : Action)
    (h : Happening) → e.happening ≡ h → IsSound m → LeaveSize m rest → KnowsWhatIs (known past) left m.chip → n ≡ m →
    (step_from (known past) e).action ≡ x → IsNoAccess x →
    left_at h left m m ≡ left →
    Does x m.chip m.chip → Shown past left m e n rest
passed past left m e n rest x h is sound leave k step does quiet still none =
    let a = known past in
    let s = step_from a e in
    let same : left_at e.happening left m m ≡ left = ap (λ (h : Happening). left_at h left m m) is ∙ still in
    record {
      lost = quiet_lost a (left_at e.happening left m n) (at_access m).chip n s x does quiet;
      sound = subst IsSound (sym step) sound;
      leave = subst (λ (n : MachineState). LeaveSize n rest) (sym step) leave;
      knows =
          subst (λ (n : MachineState). KnowsWhatIs (known (e ∷ past)) (left_after past e left m n) n.chip) (sym step)
          (subst (λ (now : ℕ). KnowsWhatIs (known (e ∷ past)) (if shows_room s then 0 else now) m.chip) (sym same)
          (after_all a left m.chip m.chip s x refl does refl none (λ o looks. absurd (not_looking x quiet looks)) k));
    }

arrived : (past : List Entry) (left : ℕ) (m : MachineState) (e : Entry) (n : MachineState) (rest : List RegisterAccess) (byte : ℕ)
    (errors : LSR) → e.happening ≡ Arrive byte errors → IsSound m → LeaveSize m rest →
    KnowsWhatIs (known past) left m.chip →
    IsNextArrival byte errors.0 m n →
    Shown past left m e n rest
arrived past left m e n rest byte errors is sound leave k next_one =
    let a = known past in
    let s = step_from a e in
    let does : s.action ≡ Arrives byte errors = ap (action a.setup.is_open) is in
    let now = left + (length m.chip.transmitter.queue - length n.chip.transmitter.queue) in
    let same : left_at e.happening left m n ≡ now = ap (λ (h : Happening). left_at h left m n) is in
    record {
      lost = quiet_lost a (left_at e.happening left m n) (at_access m).chip n s (Arrives byte errors) does tt;
      sound = sound_arrival byte errors.0 m n next_one sound;
      leave = leave_arrival byte errors.0 m n rest next_one leave;
      knows =
          subst (λ (now : ℕ). KnowsWhatIs (known (e ∷ past)) (if shows_room s then 0 else now) n.chip) (sym same)
          (after_arrival a left m n s byte errors does refl sound k next_one);
    }

entry : (past : List Entry) (left : ℕ) (m : MachineState) (e : Entry) (n : MachineState) (rest : List RegisterAccess) (h : Happening) →
    e.happening ≡ h → IsSound m → LeaveSize m (access_in h ++ rest) → KnowsWhatIs (known past) left m.chip →
    Follows (known past) h m n → Shown past left m e n rest
entry past left m e n rest (Access (Read offset value)) is sound leave k made_so =
    let o = (known past).setup.is_open in
    made past left m e n rest (Read offset value) (read_action o offset value) is sound leave k made_so.step (ap (action o) is)
    (subst (λ (d : ChipState). Does (read_action o offset value) (at_access m).chip d)
    (ap (λ (m : MachineState). m.chip) (sym made_so.step.0))
    (does_read (at_access m).chip offset value o (at_the_access (known past) left m sound k).dlab made_so.step.1))
    (λ none looks. same_dlab m ∙ off_at_look o offset value m.chip made_so.off none looks)
entry past left m e n rest (Access (Write offset value)) is sound leave k made_so =
    let o = (known past).setup.is_open in
    made past left m e n rest (Write offset value) (write_action o offset value) is sound leave k made_so.step (ap (action o) is)
    (subst (λ (d : ChipState). Does (write_action o offset value) (at_access m).chip d)
    (ap (λ (m : MachineState). m.chip) (sym made_so.step))
    (does_write (at_access m).chip offset value o (at_the_access (known past) left m sound k).dlab
    (at_the_access (known past) left m sound k).model (none_switched m offset value rest leave)))
    (λ none looks. absurd (let e : false ≡ true = sym (no_write_looks o offset value) ∙ looks in cc))
entry past left m e n rest (Arrive byte errors) is sound leave k step =
    arrived past left m e n rest byte errors is sound leave k step
entry past left m e n rest (Interrupt is_raised) is sound leave k step =
    passed past left m e n rest Other (Interrupt is_raised) is sound leave k step (ap (action (known past).setup.is_open) is) tt refl
    (alike_refl m.chip, tt)
entry past left m e n rest (Lines inputs) is sound leave k step =
    passed past left m e n rest (ChangesLines inputs) (Lines inputs) is sound leave k step
    (ap (action (known past).setup.is_open) is) tt refl
    (alike_refl m.chip, tt)

pub right : (past entries : List Entry) (left : ℕ) (m : MachineState) → IsSound m →
    LeaveSize m (accesses_in entries) → KnowsWhatIs (known past) left m.chip → IsRight past left m entries
right past [] left m sound leave k = tt
right past (e ∷ entries) left m sound leave k = λ n follows.
    let shown = entry past left m e n (accesses_in entries) e.happening refl sound leave k follows in
    (shown.lost, right (e ∷ past) entries (left_after past e left m n) n shown.sound shown.leave shown.knows)

-- ---- the first entry

none_left : (r : Bool) (c : ChipState) (n : ℕ) → IsSent n (if r then 0 else 0) c → IsSent n 0 c
none_left true c n h = h
none_left false c n h = h

-- nothing is known at the beginning
pub nothing_known : (c : ChipState) → c.model ≡ Uart16550A → KnowsWhatIs (known []) 0 c
nothing_known c model = record {
  model = model;
  dlab = tt;
  loopback = tt;
  fifos = tt;
  trigger = tt;
  waiting = none (length c.receiver.queue);
  sent = no_bytes (room_of c.fifo c.transmitter.size) (length c.transmitter.queue);
}
  where
    none : (n : ℕ) → 0 ≤ n
    none n = omega arith

    no_bytes : (space queued : ℕ) → min 0 space ≤ queued + 0
    no_bytes space queued = omega arith

-- nothing is known before, and the access shows DLAB
begun : (m : MachineState) (e : Entry) (d : ChipState) (x : Action) → m.chip.model ≡ Uart16550A →
    d.transmitter.size ≡ (at_access m).chip.transmitter.size → (step_from (known []) e).action ≡ x →
    Does x (at_access m).chip d → IsOffAtLook None x (at_access m).chip → next_is_open None x ≡ Some (is_dlab_set d.latches) →
    KnowsDlab (known (e ∷ [])) 0 d
begun m e d x model size does h off dlab =
    let s = step_from (known []) e in
    let c = (at_access m).chip in
    let k = after_all (known []) 0 c d s x size does refl h off
    (nothing_known c (ap (λ (k : Kept). k.model) (kept_access m) ∙ model)) in
    record {
      knows = record {
        model = k.model;
        dlab = k.dlab;
        loopback = k.loopback;
        fifos = k.fifos;
        trigger = k.trigger;
        waiting = k.waiting;
        sent = none_left (shows_room s) d (known (e ∷ [])).sent k.sent;
      };
      dlab = ap (next_is_open None) does ∙ dlab;
    }

pub begins_read : (m n : MachineState) (e : Entry) (value : ℕ) → m.chip.model ≡ Uart16550A →
    e.happening ≡ Access (Read offsets.LCR value) → MachineStep m (Read offsets.LCR value) n → KnowsDlab (known (e ∷ [])) 0 n.chip
begins_read m n e value model is step =
    let c = (at_access m).chip in
    let x : Action = ReadsLine (record { 0 = value }) in
    let h : Does x c n.chip = subst (λ (n : MachineState). Does x c n.chip) (sym step.0) (does_read c offsets.LCR value None tt step.1) in
    let off : IsOffAtLook None x c = λ o looks. absurd (cc) in
    begun m e n.chip x model (size_at_access m n (same_size (Read offsets.LCR value ∷ []) m n (refl, tt) (n, step, refl)))
    (ap (action None) is) h off (ap Some (sym (after_dlab c n.chip x None h off tt)))

pub begins_written : (m n : MachineState) (e : Entry) (value : ℕ) → m.chip.model ≡ Uart16550A →
    e.happening ≡ Access (Write offsets.LCR value) → MachineStep m (Write offsets.LCR value) n → KnowsDlab (known (e ∷ [])) 0 n.chip
begins_written m n e value model is step =
    let c = (at_access m).chip in
    let x : Action = SetsLine (record { 0 = value }) in
    let h : Does x c n.chip = subst (λ (n : MachineState). Does x c n.chip) (sym step)
    (does_write c offsets.LCR value None tt (ap (λ (k : Kept). k.model) (kept_access m) ∙ model) (λ e. absurd (cc))) in
    let off : IsOffAtLook None x c = λ o looks. absurd (cc) in
    begun m e n.chip x model (size_at_access m n (same_size (Write offsets.LCR value ∷ []) m n (refl, tt) (n, step, refl)))
    (ap (action None) is) h off (ap Some (sym (after_dlab c n.chip x None h off tt)))

pub begins_looked : (m n : MachineState) (e : Entry) (value : ℕ) → m.chip.model ≡ Uart16550A → is_dlab_set m.chip.latches ≡ false →
    e.happening ≡ Access (Read offsets.LSR value) → MachineStep m (Read offsets.LSR value) n → KnowsDlab (known (e ∷ [])) 0 n.chip
begins_looked m n e value model closed is step =
    let c = (at_access m).chip in
    let x : Action = LooksAtLine (record { 0 = value }) in
    let h : Does x c n.chip = subst (λ (n : MachineState). Does x c n.chip) (sym step.0) (does_read c offsets.LSR value None tt step.1) in
    let off : IsOffAtLook None x c = λ o looks. same_dlab m ∙ closed in
    begun m e n.chip x model (size_at_access m n (same_size (Read offsets.LSR value ∷ []) m n (refl, tt) (n, step, refl)))
    (ap (action None) is) h off (ap Some (sym (after_dlab c n.chip x None h off tt)))
