-- What the judge knows of the software chip stays so where an arrival is recorded.
use Rattle.std.proofs.Common.{◌≡◌, ◌≤◌, ℕ, zero, suc, ◌+◌, ◌-◌, Bool, true, false, List, [], ◌∷◌, ◌++◌, length, length-append, min}
use Rattle.std.proofs.Common.{nat_lt, not, Option, Some, None, refl, sym, ◌∙◌, ap, subst, arith, if◌then◌else◌}
use Rattle.std.specs.Option.{option_or}
use Rattle.std.proofs.lemmas.Grind.{common_steps}
use Rattle.uart_spec.specs.declared.registers.fifo_trigger_level.FifoTriggerLevel.{FifoTriggerLevel}
use Rattle.uart_spec.specs.declared.registers.line_status.LSR.{LSR}
use Rattle.uart_spec.specs.Bits.{has}
use Rattle.uart_spec.specs.declared.registers.modem_control.MCR.{MCR}
use Rattle.uart_spec.specs.declared.registers.modem_control.TheConstants.MCR as mcr_bits
use Rattle.uart_events.specs.declared.event.Event.{Event as ScheduleEvent}
use Rattle.uart_events.specs.declared.event.Event.TheVariants.{Ticks, Lines}
use Rattle.uart_events.specs.declared.event.Event.TheVariants as event
use Rattle.uart_chip.specs.declared.receiver.Character.{Character}
use Rattle.uart_chip.specs.declared.receiver.Origin.TheVariants.{Arrived}
use Rattle.uart_chip.specs.Chip.{ChipState, cut_of, is_dlab_set, is_held_off, is_loopback, ticks}
use Rattle.uart_chip.specs.Machine.{MachineState, perform}
use Rattle.uart_chip.specs.Receiver.{ReceiverState, enter, replace}
use Rattle.uart_chip.specs.Receiver as receiver
use Rattle.uart_chip.specs.Sound.{IsSound}
use Rattle.uart_spec.specs.declared.setup.FifoSize.{FifoSize}
use Rattle.uart_spec.specs.declared.setup.FifoSize.TheVariants.{Sixteen}
use Rattle.uart_spec.specs.FifoSize.{characters}
use Rattle.uart_chip.specs.Transmitter.{room}
use Rattle.uart_chip.proofs.Sizes.{room_least}
use Rattle.uart_chip.proofs.lasting.Lasting.{LastsInEvents}
use Rattle.uart_chip.proofs.soundness.Sounds.{size-tick, sound_perform}
use Rattle.uart_run.proofs.Latches.{Kept, kept_in}
use Rattle.uart_judges.specs.History.{next, next_count, waiting_after}
use Rattle.uart_judges.specs.Setups.{next_is_open}
use Rattle.uart_judges.specs.Shows.{fifo_of, modem_of, sends, trigger_of}
use Rattle.uart_judges.specs.Steps.{is_on_line, least_depth, shows_room}
use Rattle.uart_judges.specs.declared.audit.action.Action.{Action}
use Rattle.uart_judges.specs.declared.audit.action.Action.TheVariants.{Arrives}
use Rattle.uart_judges.specs.declared.audit.auditor.Auditor.{Auditor}
use Rattle.uart_judges.specs.declared.audit.setup.Setup.{Setup}
use Rattle.uart_judges.specs.declared.audit.step.Step.{Step}
use Rattle.uart_judges_runs.specs.Lost.{IsNextArrival, IsSo, KnowsWhatIs, after_events}
use Rattle.uart_judges_runs.proofs.Knows.{IsLooping, IsSent, dlab_as, fifos_as, looping_as, none_sent, trigger_as}
use Rattle.uart_judges_runs.proofs.Waits.{Waits, left_grows, waits_last}

-- ---- events

module _ (P : ChipState → Type 0) (w : LastsInEvents P) where
  lasts_ticks : (n : ℕ) (c : ChipState) → P c → P (ticks n c)
  lasts_ticks zero c p = p
  lasts_ticks (suc n) c p = w.in_tick (ticks n c) (lasts_ticks n c p)

  lasts_perform : (e : ScheduleEvent) (c : ChipState) → P c → P (perform e c)
  lasts_perform (Ticks n) c p = lasts_ticks n c p
  lasts_perform (event.Arrive byte errors) c p = w.in_arrival byte errors c p
  lasts_perform (Lines inputs) c p = w.in_lines inputs c p
  lasts_perform _ c p = p

  pub lasts_events : (events : List ScheduleEvent) (c : ChipState) → P c → P (after_events events c)
  lasts_events [] c p = p
  lasts_events (e ∷ events) c p = lasts_events events (perform e c) (lasts_perform e c p)

sound_events : (events rest : List ScheduleEvent) (c : ChipState) → IsSound (record { chip = c; ahead = events ++ rest }) →
    IsSound (record { chip = after_events events c; ahead = rest })
sound_events [] rest c s = s
sound_events (e ∷ events) rest c s = sound_events events rest (perform e c) (sound_perform e (events ++ rest) c s)

pub sound_arrival : (byte errors : ℕ) (m n : MachineState) → IsNextArrival byte errors m n → IsSound m → IsSound n
sound_arrival byte errors m n a s =
    let before = sound_events a.before (event.Arrive byte errors ∷ n.ahead) m.chip
    (subst (λ (ahead : List ScheduleEvent). IsSound (record { chip = m.chip; ahead = ahead })) a.ahead s) in
    subst (λ (c : ChipState). IsSound (record { chip = c; ahead = n.ahead })) (sym a.chip)
    (sound_perform (event.Arrive byte errors) n.ahead (after_events a.before m.chip) before)

-- ---- what waits

-- modes are kept, and as many characters wait, at least
record Goes (k : Kept) (n : ℕ) (level : FifoTriggerLevel) (c : ChipState) : Type 0 where
  pub kept : kept_in c ≡ k
  pub waits : Waits n level c.fifo c.receiver

goes_on : (k : Kept) (n : ℕ) (level : FifoTriggerLevel) → LastsInEvents (Goes k n level)
goes_on k n level = record {
  in_tick = λ c g. record { kept = g.kept; waits = (waits_last n level).in_tick c g.waits };
  in_arrival = λ byte errors c g. record { kept = g.kept; waits = (waits_last n level).in_arrival byte errors c g.waits };
  in_lines = λ inputs c g. record { kept = g.kept; waits = g.waits };
}

more_in : (n space : ℕ) (queue : List Character) (new : Character) → n ≤ length queue → min (n + 1) space ≤ length (queue ++ new ∷ [])
more_in n space queue new h = rw (length-append queue (new ∷ [])) (omega (arith, h))

replaced : (n : ℕ) (queue : List Character) (new : Character) (r : ReceiverState) → r.queue ≡ queue → 1 ≤ length queue →
    min (n + 1) 1 ≤ length (replace queue new r).queue
replaced n [] new r e h = absurd (omega (arith, h))
replaced n (x ∷ xs) new r e h = omega arith

one_arrives : (n : ℕ) (fifo : Bool) (new : Character) (r : ReceiverState) → n ≤ length r.queue →
    min (n + 1) (room fifo r.size) ≤ length (enter fifo new r).queue
one_arrives n fifo new r h = go (nat_lt (length r.queue) (room fifo r.size)) refl
  where
    at_least : (q space : ℕ) → nat_lt q space ≡ false → space ≤ q
    at_least q space e = grind (arith, common_steps)

    least : (space q : ℕ) → space ≤ q → min (n + 1) space ≤ q
    least space q h = omega (arith, h)

    full : (fifo : Bool) → nat_lt (length r.queue) (room fifo r.size) ≡ false →
        min (n + 1) (room fifo r.size) ≤ length (if fifo then r.queue else (replace r.queue new r).queue)
    full true e = least (characters r.size) (length r.queue) (at_least (length r.queue) (characters r.size) e)
    full false e = replaced n r.queue new r refl (at_least (length r.queue) 1 e)

    in_full : (b : Bool) (x y : ReceiverState) (k : ℕ) → k ≤ length (if b then x.queue else y.queue) → k ≤ length (if b then x else y).queue
    in_full true x y k h = h
    in_full false x y k h = h

    go : (b : Bool) → nat_lt (length r.queue) (room fifo r.size) ≡ b → min (n + 1) (room fifo r.size) ≤ length (enter fifo new r).queue
    go true e = rw e (more_in n (room fifo r.size) r.queue new h)
    go false e = rw e (in_full fifo _ _ (min (n + 1) (room fifo r.size)) (full fifo e))

least_fits : (o : Option Bool) (on : Bool) → IsSo o (λ b. on ≡ b) → least_depth o ≤ room on Sixteen
least_fits (Some true) true so = omega arith
least_fits (Some true) false so = absurd (cc)
least_fits _ true so = omega arith
least_fits _ false so = omega arith

smaller : (n a b k : ℕ) → a ≤ b → min n b ≤ k → min n a ≤ k
smaller n a b k p q = omega (arith, p, q)

-- the judge counts the arrival where it knows that loopback is off, up to what fits
counted : (n : ℕ) (modem : Option MCR) (has_fifo : Option Bool) (loopback fifo : Bool) (byte errors : ℕ) (r : ReceiverState) →
    IsSo modem (λ mcr. loopback ≡ has mcr.0 mcr_bits.LOOP_BACK.0) → IsSo has_fifo (λ on. fifo ≡ on) → n ≤ length r.queue →
    n ≤ length (receiver.arrive loopback fifo byte errors r).queue →
    (if is_on_line modem then min (n + 1) (least_depth has_fifo) else n) ≤ length (receiver.arrive loopback fifo byte errors r).queue
counted n None has_fifo loopback fifo byte errors r e f h still = still
counted n (Some mcr) has_fifo loopback fifo byte errors r e f h still = go (has mcr.0 mcr_bits.LOOP_BACK.0) e
  where
    go : (b : Bool) → loopback ≡ b →
        (if not b then min (n + 1) (least_depth has_fifo) else n) ≤ length (receiver.arrive loopback fifo byte errors r).queue
    go true e = still
    go false e =
        subst (λ (b : Bool). min (n + 1) (least_depth has_fifo) ≤ length (receiver.arrive b fifo byte errors r).queue) (sym e)
        (smaller (n + 1) (least_depth has_fifo) (room fifo r.size) _
        (let least = least_fits has_fifo fifo f in let any = room_least fifo r.size in omega (arith, least, any))
        (one_arrives n fifo (record { byte = byte; errors = errors; origin = Arrived r.arrived }) (record r { arrived = r.arrived + 1 }) h))

still_left : (n left : ℕ) (rests : Bool) (before queued : ℕ) (fifo on : Bool) (size after : FifoSize) → on ≡ fifo → after ≡ size →
    min n (room fifo size) ≤ before + left → min (next_count n rests false) (room on after) ≤ queued + (if rests then 0 else left +
    (before - queued))
still_left n left true before queued fifo on size after e z h = none_sent (room on after) (queued + 0)
still_left n left false before queued fifo on size after e z h = rw (e, z) (left_grows n (room fifo size) queued left before h)

-- the FIFO of the transmitter has this size
abbrev Holds : FifoSize → ChipState → Type 0
Holds size c = c.transmitter.size ≡ size

holds_last : (size : FifoSize) → LastsInEvents (Holds size)
holds_last size = record {
  in_tick = λ c e. size-tick (is_loopback c.latches) (is_held_off c) c.transmitter ∙ e;
  in_arrival = λ byte errors c e. e;
  in_lines = λ inputs c e. e;
}

-- ---- all of it

-- what the judge knows after an arrival is so
pub after_arrival : (a : Auditor) (left : ℕ) (m n : MachineState) (s : Step) (byte : ℕ) (errors : LSR) → s.action ≡ Arrives byte errors →
    s.setup ≡ a.setup → IsSound m → KnowsWhatIs a left m.chip → IsNextArrival byte errors.0 m n →
    KnowsWhatIs (next a s)
    (if shows_room s then 0 else left + (length m.chip.transmitter.queue - length n.chip.transmitter.queue)) n.chip
after_arrival a left m n s byte errors is same sound k next_one =
    let b = after_events next_one.before m.chip in
    let g = lasts_events (Goes (kept_in m.chip) a.waiting m.chip.receiver.trigger)
    (goes_on (kept_in m.chip) a.waiting m.chip.receiver.trigger)
    next_one.before m.chip
    (record {
      kept = refl;
      waits = record { at_least = k.waiting; in_room = sound.chip.receiver.marked.in_room; trigger = refl };
    }) in
    let still = (waits_last a.waiting m.chip.receiver.trigger).in_arrival byte errors.0 b g.waits in
    let w = subst (λ (c : ChipState). Waits a.waiting m.chip.receiver.trigger c.fifo c.receiver) (sym next_one.chip) still in
    let kept : kept_in n.chip ≡ kept_in m.chip = ap (λ (c : ChipState). kept_in c) next_one.chip ∙ g.kept in
    let fifo : n.chip.fifo ≡ m.chip.fifo = ap (λ (k : Kept). k.fifo) kept in
    let size : n.chip.transmitter.size ≡ m.chip.transmitter.size =
    ap (λ (c : ChipState). c.transmitter.size) next_one.chip ∙
    lasts_events (Holds m.chip.transmitter.size) (holds_last m.chip.transmitter.size) next_one.before m.chip refl in
    record {
      model = ap (λ (k : Kept). k.model) kept ∙ k.model;
      dlab =
          subst (λ (x : Action). IsSo (next_is_open a.setup.is_open x) (λ on. is_dlab_set n.chip.latches ≡ on)) (sym is)
          (dlab_as m.chip n.chip a.setup.is_open (ap (λ (k : Kept). k.latches.lcr) kept) k.dlab);
      loopback =
          subst (λ (x : Action). IsSo (option_or (modem_of x) a.setup.modem) (IsLooping n.chip)) (sym is)
          (looping_as m.chip n.chip a.setup.modem (ap (λ (k : Kept). k.latches.mcr) kept) k.loopback);
      fifos =
          subst (λ (x : Action). IsSo (option_or (fifo_of x) a.setup.has_fifo) (λ on. n.chip.fifo ≡ on)) (sym is)
          (fifos_as m.chip n.chip a.setup.has_fifo fifo k.fifos);
      trigger =
          subst (λ (x : Action). IsSo (option_or (trigger_of x) a.setup.trigger) (λ level. n.chip.receiver.trigger ≡ level)) (sym is)
          (trigger_as m.chip n.chip a.setup.trigger w.trigger k.trigger);
      waiting =
          subst (λ (x : Action). waiting_after a.waiting s x ≤ length n.chip.receiver.queue) (sym is)
          (subst (λ (setup : Setup).
          (if is_on_line setup.modem then min (a.waiting + 1) (least_depth setup.has_fifo) else a.waiting) ≤ length n.chip.receiver.queue)
          (sym same)
          (subst (λ (c : ChipState).
          (if is_on_line a.setup.modem then min (a.waiting + 1) (least_depth a.setup.has_fifo) else a.waiting) ≤ length c.receiver.queue)
          (sym next_one.chip)
          (counted a.waiting a.setup.modem a.setup.has_fifo (is_loopback b.latches) b.fifo (cut_of b byte) errors.0 b.receiver
          (looping_as m.chip b a.setup.modem (ap (λ (k : Kept). k.latches.mcr) g.kept) k.loopback)
          (fifos_as m.chip b a.setup.has_fifo (ap (λ (k : Kept). k.fifo) g.kept) k.fifos) g.waits.at_least still.at_least)));
      sent =
          subst (λ (x : Action).
          IsSent (next_count a.sent (shows_room s) (sends x))
          (if shows_room s then 0 else left + (length m.chip.transmitter.queue - length n.chip.transmitter.queue)) n.chip)
          (sym is)
          (still_left a.sent left (shows_room s) (length m.chip.transmitter.queue) (length n.chip.transmitter.queue) m.chip.fifo n.chip.fifo
          m.chip.transmitter.size n.chip.transmitter.size fifo size k.sent);
    }
