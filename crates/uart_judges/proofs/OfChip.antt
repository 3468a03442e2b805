-- The findings that are answers of the chip are found by themselves.
use Rattle.std.proofs.Common.{ℕ, ◌≡◌, ◌∙◌, refl, sym, ap, ◌+◌, ◌-◌, ◌^◌, Bool, true, false, not, ◌&&◌, ◌||◌, ◌==◌, min, nat_lt}
use Rattle.std.proofs.Common.{if◌then◌else◌, Option, Some, None, List, [], ◌∷◌, ◌++◌}
use Rattle.std.specs.Prelude.{nat_le}
use Rattle.uart_spec.specs.Bits.{has}
use Rattle.uart_spec.specs.declared.registers.interrupt_status.ISR.{ISR}
use Rattle.uart_spec.specs.declared.registers.interrupt_type.InterruptType.{InterruptType}
use Rattle.uart_spec.specs.declared.registers.interrupt_type.InterruptType.TheVariants.{ReceptionTimeout}
use Rattle.uart_spec.specs.declared.registers.line_control.LCR.{LCR}
use Rattle.uart_spec.specs.declared.registers.line_status.LSR.{LSR}
use Rattle.uart_spec.specs.declared.registers.line_status.TheConstants.LSR as lsr_bits
use Rattle.uart_spec.specs.declared.registers.modem_control.MCR.{MCR}
use Rattle.uart_spec.specs.declared.registers.modem_status.MSR.{MSR}
use Rattle.uart_judges.specs.Findings.{all_found, findings_at, when}
use Rattle.uart_judges.specs.Findings as f
use Rattle.uart_judges.specs.History.{known, step_from, steps}
use Rattle.uart_judges.specs.OfChip.{answer_in, answers_at, answers_in, for_chip, is_answer, next_for_chip, one, present}
use Rattle.uart_judges.specs.Setups.{same_setup}
use Rattle.uart_judges.specs.Severities.{severity}
use Rattle.uart_judges.specs.Shows.{arrives, identified_by, receives, sends}
use Rattle.uart_judges.specs.Steps.{depth, is_line_up, loops_back}
use Rattle.uart_judges.specs.Unread.{front}
use Rattle.uart_judges.specs.declared.audit.action.Action.{Action}
use Rattle.uart_judges.specs.declared.audit.action.Action.TheVariants.{Receives, Sends, ReadsDivisor, SetsDivisorLow, SetsDivisorHigh}
use Rattle.uart_judges.specs.declared.audit.action.Action.TheVariants.{ControlsFifo, IdentifiesInterrupt, ReadsLine, SetsLine}
use Rattle.uart_judges.specs.declared.audit.action.Action.TheVariants.{LooksAtLine, LooksAtModem}
use Rattle.uart_judges.specs.declared.audit.auditor.Auditor.{Auditor}
use Rattle.uart_judges.specs.declared.audit.auditor.Identified.{Identified}
use Rattle.uart_judges.specs.declared.audit.auditor.Mark.{Mark}
use Rattle.uart_judges.specs.declared.audit.finding.Finding.{Finding}
use Rattle.uart_judges.specs.declared.audit.finding.Finding.TheVariants as found
use Rattle.uart_judges.specs.declared.audit.setup.Setup.{Setup}
use Rattle.uart_judges.specs.declared.audit.step.Step.{Step}
use Rattle.uart_judges.specs.declared.audit.unread.Arrived.{Arrived}
use Rattle.uart_judges.specs.declared.recording.entry.Entry.{Entry}
use Rattle.uart_judges.proofs.Audited.{next_known}
use Rattle.uart_judges.proofs.Frequent.{cons}

-- it is no answer of the chip
abbrev Silent : Option Finding → Type 0
Silent o = answer_in o ≡ None

silent_if : (b : Bool) (x y : Option Finding) → Silent x → Silent y → Silent (if b then x else y)
silent_if true x y p q = p
silent_if false x y p q = q

silent_when : (b : Bool) (g : Finding) → is_answer (severity g) ≡ false → Silent (when b g)
silent_when true g e = rw e refl
silent_when false g e = refl

-- it is nothing else
abbrev Answers : Option Finding → Type 0
Answers o = answer_in o ≡ o

answers_if : (b : Bool) (x y : Option Finding) → Answers x → Answers y → Answers (if b then x else y)
answers_if true x y p q = p
answers_if false x y p q = q

answers_when : (b : Bool) (g : Finding) → is_answer (severity g) ≡ true → Answers (when b g)
answers_when true g e = rw e refl
answers_when false g e = refl

-- ---- findings that are no answers

silent_set_up : (told : Option Setup) (now : Setup) → Silent (f.set_up told now)
silent_set_up None now = refl
silent_set_up (Some before) now = silent_if (same_setup before now) None (Some (found.SetUp now)) refl refl

silent_noted : (told : Option Setup) (now : Setup) (x : Action) → Silent (f.noted told now x)
silent_noted told now (Sends byte) = silent_set_up told now
silent_noted told now (Receives byte) = silent_set_up told now
silent_noted told now (LooksAtLine lsr) = silent_when _ (found.LineErrorsRead lsr) refl
silent_noted told now (LooksAtModem msr) = silent_when _ (found.LineChangesRead msr) refl
silent_noted told now _ = refl

silent_put_out : (a : Auditor) (now : Setup) (x : Action) → Silent (f.put_out a now x)
silent_put_out a now (Sends byte) =
    silent_if (f.is_in_break now.line) (Some (found.SentInBreak byte)) _ refl
    (silent_if (f.loops_again a now) (Some (found.SentInLoopback byte)) (when (f.cuts now.line byte) (found.WordTooShort byte)) refl
    (silent_when (f.cuts now.line byte) (found.WordTooShort byte) refl))
silent_put_out a now _ = refl

silent_room : (a : Auditor) (s : Step) → Silent (f.room a s)
silent_room a s =
    let beyond : Finding = found.SentBeyondRoom (min (f.sent_before a s + 1) (2 ^ 64 - 1)) (depth s.setup.has_fifo) in
    silent_if (not (sends s.action)) None (when (nat_le (depth s.setup.has_fifo) (f.sent_before a s)) beyond) refl
    (silent_when (nat_le (depth s.setup.has_fifo) (f.sent_before a s)) beyond refl)

silent_flow : (a : Auditor) (s : Step) → Silent (f.flow a s)
silent_flow a s =
    let held : Bool = (f.is_held a.cts && a.was_cts_set) && f.asks_for_cts a s.setup in
    silent_if (not (sends s.action)) None (if loops_back s.setup.modem then None else when held found.SentWithoutCts) refl
    (silent_if (loops_back s.setup.modem) None (when held found.SentWithoutCts) refl (silent_when held found.SentWithoutCts refl))

silent_gate : (a : Auditor) (s : Step) → Silent (f.gate a s)
silent_gate a s =
    let is_off : Bool = f.enables_bytes s.setup.interrupts && f.is_cut_off s.setup.modem in
    silent_if (a.has_signalled || is_line_up s) None (if not (f.relies a s) then None else when is_off found.InterruptsCutOff) refl
    (silent_if (not (f.relies a s)) None (when is_off found.InterruptsCutOff) refl
    (silent_when is_off found.InterruptsCutOff refl))

silent_nothing : (again : Bool) (ready : Option Bool) (interrupt : Option InterruptType) → Silent (f.from_nothing again ready interrupt)
silent_nothing again ready (Some ReceptionTimeout) = refl
silent_nothing again (Some false) None = refl
silent_nothing again (Some false) (Some _) = refl
silent_nothing again (Some true) None = silent_when again found.ReceivedWithoutLook refl
silent_nothing again (Some true) (Some _) = silent_when again found.ReceivedWithoutLook refl
silent_nothing again None None = silent_when again found.ReceivedWithoutLook refl
silent_nothing again None (Some _) = silent_when again found.ReceivedWithoutLook refl

silent_from : (oldest : Option Arrived) (a : Auditor) → Silent (f.taken_from oldest a)
silent_from (Some oldest) a = refl
silent_from None a =
    silent_if (a.waiting == 0) (f.taken_from_nothing a) (when a.has_taken found.ErrorsNotRead)
    (silent_if a.is_at_work (f.from_nothing a.has_taken a.ready a.data_interrupt) None
    (silent_nothing a.has_taken a.ready a.data_interrupt) refl)
    (silent_when a.has_taken found.ErrorsNotRead refl)

silent_latched : (a : Auditor) (s : Step) (x : Action) → Silent (f.latched a s x)
silent_latched a s (SetsDivisorLow byte) = silent_when _ (found.SentIntoLatch byte) refl
silent_latched a s (SetsDivisorHigh value) = silent_when _ (found.InterruptsIntoLatch value) refl
silent_latched a s ReadsDivisor = silent_when _ found.ReceivedFromLatch refl
silent_latched a s (SetsLine lcr) =
    silent_if (f.closes s.setup.is_open lcr) (f.closed a s) None
    (silent_if (f.is_zero s.setup.divisor.low && f.is_zero s.setup.divisor.high) (Some found.ZeroDivisor)
    (when (f.has_low_alone a.latch) found.HighByteNotSet) refl
    (silent_when (f.has_low_alone a.latch) found.HighByteNotSet refl)) refl
silent_latched a s _ = refl

silent_changed : (a : Auditor) (s : Step) (x : Action) → Silent (f.changed a s x)
silent_changed a s (SetsLine lcr) = silent_when _ found.FrameChangedWhileSending refl
silent_changed a s (SetsDivisorLow value) = silent_when _ found.DivisorChangedWhileSending refl
silent_changed a s (SetsDivisorHigh value) = silent_when _ found.DivisorChangedWhileSending refl
silent_changed a s (ControlsFifo fcr) = silent_when _ found.ResetWhileSending refl
silent_changed a s _ = refl

silent_served : (before : Option Identified) (now : Option InterruptType) → Silent (f.served_by before now)
silent_served (Some before) (Some now) = silent_when _ (found.NotServed before) refl
silent_served (Some before) None = refl
silent_served None now = refl

silent_left : (a : Auditor) (s : Step) (mark : Option Mark) (now : Option ℕ) → Silent (f.left_up a s mark now)
silent_left a s (Some mark) (Some now) =
    silent_if (f.are_off s.setup.interrupts) None (when (a.is_handling && f.is_long_since mark now) (found.LeftWithLineUp mark.line)) refl
    (silent_when (a.is_handling && f.is_long_since mark now) (found.LeftWithLineUp mark.line) refl)
silent_left a s (Some mark) None = refl
silent_left a s None now = refl

-- ---- findings that are nothing else

answers_overrun : (due : Bool) (x : Action) → Answers (f.overrun_in due x)
answers_overrun due (LooksAtLine lsr) = answers_when _ found.OverrunHidden refl
answers_overrun due _ = refl

answers_missing : (oldest : Option Arrived) (interrupt : Option InterruptType) (gone : Bool) → Answers (f.missing oldest interrupt gone)
answers_missing (Some oldest) interrupt gone = refl
answers_missing None (Some interrupt) gone = refl
answers_missing None None gone = answers_when gone found.GoneAtFcr refl

answers_empty : (a : Auditor) (x : Action) → Answers (f.empty_in a x)
answers_empty a (LooksAtLine lsr) =
    answers_if (has lsr.0 lsr_bits.DATA_READY.0) None (f.empty_though_waiting a) refl
    (answers_missing (front a.unread) a.data_interrupt (a.is_controlled && nat_lt 0 a.waiting))
answers_empty a _ = refl

answers_raised : (due again : Bool) →
    Answers (when due (if again then found.ThrEmptyNotRaisedAgain else found.ThrEmptyNotRaised))
answers_raised due true = answers_when due found.ThrEmptyNotRaisedAgain refl
answers_raised due false = answers_when due found.ThrEmptyNotRaised refl

answers_ignored : (written : Option LCR) (read : LCR) → Answers (f.ignored written read)
answers_ignored (Some written) read = answers_when _ (found.LineIgnored written read) refl
answers_ignored None read = refl

answers_chip : (a : Auditor) (x : Action) → Answers (f.chip_at a x)
answers_chip a (IdentifiesInterrupt isr) = answers_raised _ a.is_acknowledged
answers_chip a (ReadsLine lcr) = answers_ignored a.busy_line lcr
answers_chip a _ = refl

answers_level_as : (mcr : Option MCR) (isr : ISR) (up : Option Bool) → Answers (f.level_as mcr isr up)
answers_level_as mcr isr (Some up) = answers_when _ (found.LevelDiffers up) refl
answers_level_as mcr isr None = refl

answers_lines_as : (inputs : Option MSR) (shown : MSR) → Answers (f.lines_as inputs shown)
answers_lines_as (Some inputs) shown = answers_when _ (found.LinesDiffer inputs shown) refl
answers_lines_as None shown = refl

answers_level : (a : Auditor) (s : Step) (x : Action) → Answers (f.level_at a s x)
answers_level a s (IdentifiesInterrupt isr) = answers_level_as s.setup.modem isr s.level
answers_level a s (LooksAtModem msr) =
    answers_if (loops_back s.setup.modem) None (f.lines_as a.lines msr) refl (answers_lines_as a.lines msr)
answers_level a s _ = refl

-- ---- all of them

without : (xs : List (Option Finding)) (o : Option Finding) (others : List (Option Finding)) → Silent o → present xs ≡ answers_in others →
    present xs ≡ answers_in (o ∷ others)
without xs o others e h = h ∙ ap (λ (p : Option Finding). one p ++ answers_in others) (sym e)

with_one : (x : Option Finding) (xs : List (Option Finding)) (o : Option Finding) (others : List (Option Finding)) → answer_in o ≡ x →
    present xs ≡ answers_in others → present (x ∷ xs) ≡ answers_in (o ∷ others)
with_one x xs o others e h =
    ap (λ (ys : List Finding). one x ++ ys) h ∙ ap (λ (p : Option Finding). one p ++ answers_in others) (sym e)

module _ (a : Auditor) (s : Step) where
  abbrev from_line_up : List (Option Finding)
  from_line_up = f.line_up a s ∷ []

  at_line_up : present [] ≡ answers_in from_line_up
  at_line_up =
      without [] (f.line_up a s) []
      (silent_if (not (arrives s.action)) None (f.left_up a s a.up s.time) refl (silent_left a s a.up s.time)) refl

  abbrev from_level : List (Option Finding)
  from_level = f.level a s ∷ from_line_up

  abbrev answers_level_on : List (Option Finding)
  answers_level_on = f.level a s ∷ []

  at_level : present answers_level_on ≡ answers_in from_level
  at_level = with_one (f.level a s) [] (f.level a s) from_line_up (answers_level a s s.action) at_line_up

  abbrev from_chip : List (Option Finding)
  from_chip = f.chip a s ∷ from_level

  abbrev answers_chip_on : List (Option Finding)
  answers_chip_on = f.chip a s ∷ answers_level_on

  at_chip : present answers_chip_on ≡ answers_in from_chip
  at_chip = with_one (f.chip a s) answers_level_on (f.chip a s) from_level (answers_chip a s.action) at_level

  abbrev from_service : List (Option Finding)
  from_service = f.service a s ∷ from_chip

  at_service : present answers_chip_on ≡ answers_in from_service
  at_service = without answers_chip_on (f.service a s) from_chip (silent_served a.unserved (identified_by s.action)) at_chip

  abbrev from_discard : List (Option Finding)
  from_discard = f.discard a s ∷ from_service

  at_discard : present answers_chip_on ≡ answers_in from_discard
  at_discard = without answers_chip_on (f.discard a s) from_service (silent_when _ found.WaitingDiscarded refl) at_service

  abbrev from_change : List (Option Finding)
  from_change = f.change a s ∷ from_discard

  at_change : present answers_chip_on ≡ answers_in from_change
  at_change =
      without answers_chip_on (f.change a s) from_discard
      (silent_if (s.has_rested || (a.going_out == 0)) None (f.changed a s s.action) refl (silent_changed a s s.action)) at_discard

  abbrev from_latch : List (Option Finding)
  from_latch = f.latch a s ∷ from_change

  at_latch : present answers_chip_on ≡ answers_in from_latch
  at_latch = without answers_chip_on (f.latch a s) from_change (silent_latched a s s.action) at_change

  abbrev from_empty : List (Option Finding)
  from_empty = f.empty a s ∷ from_latch

  abbrev answers_empty_on : List (Option Finding)
  answers_empty_on = f.empty a s ∷ answers_chip_on

  at_empty : present answers_empty_on ≡ answers_in from_empty
  at_empty = with_one (f.empty a s) answers_chip_on (f.empty a s) from_latch (answers_empty a s.action) at_latch

  abbrev from_overrun : List (Option Finding)
  from_overrun = f.overrun a s ∷ from_empty

  abbrev answers_overrun_on : List (Option Finding)
  answers_overrun_on = f.overrun a s ∷ answers_empty_on

  at_overrun : present answers_overrun_on ≡ answers_in from_overrun
  at_overrun = with_one (f.overrun a s) answers_empty_on (f.overrun a s) from_empty (answers_overrun a.is_overrun s.action) at_empty

  abbrev from_arrival : List (Option Finding)
  from_arrival = f.arrival a s ∷ from_overrun

  abbrev answers_arrival_on : List (Option Finding)
  answers_arrival_on = answer_in (f.arrival a s) ∷ answers_overrun_on

  at_arrival : present answers_arrival_on ≡ answers_in from_arrival
  at_arrival = with_one (answer_in (f.arrival a s)) answers_overrun_on (f.arrival a s) from_overrun (refl) at_overrun

  abbrev from_taken : List (Option Finding)
  from_taken = f.taken a s ∷ from_arrival

  at_taken : present answers_arrival_on ≡ answers_in from_taken
  at_taken =
      without answers_arrival_on (f.taken a s) from_arrival
      (silent_if (not (receives s.action)) None (f.taken_from (front a.unread) a) refl (silent_from (front a.unread) a)) at_arrival

  abbrev from_gate : List (Option Finding)
  from_gate = f.gate a s ∷ from_taken

  at_gate : present answers_arrival_on ≡ answers_in from_gate
  at_gate = without answers_arrival_on (f.gate a s) from_taken (silent_gate a s) at_taken

  abbrev from_flow : List (Option Finding)
  from_flow = f.flow a s ∷ from_gate

  at_flow : present answers_arrival_on ≡ answers_in from_flow
  at_flow = without answers_arrival_on (f.flow a s) from_gate (silent_flow a s) at_gate

  abbrev from_output : List (Option Finding)
  from_output = f.output a s ∷ from_flow

  at_output : present answers_arrival_on ≡ answers_in from_output
  at_output = without answers_arrival_on (f.output a s) from_flow (silent_put_out a s.setup s.action) at_flow

  abbrev from_room : List (Option Finding)
  from_room = f.room a s ∷ from_output

  at_room : present answers_arrival_on ≡ answers_in from_room
  at_room = without answers_arrival_on (f.room a s) from_output (silent_room a s) at_output

  abbrev from_note : List (Option Finding)
  from_note = f.note a s ∷ from_room

  at_note : present answers_arrival_on ≡ answers_in from_note
  at_note = without answers_arrival_on (f.note a s) from_room (silent_noted a.told s.setup s.action) at_room

pub all_answers : (a : Auditor) (s : Step) → present (answers_at a s) ≡ answers_in (all_found a s)
all_answers a s = at_note a s

-- ---- an access that drivers make most

pub answers_looked : (a : Auditor) (s : Step) (lsr : LSR) (r o e : Option Finding) → s.action ≡ LooksAtLine lsr →
    r ≡ answer_in (f.arrival a s) → o ≡ f.overrun a s → e ≡ f.empty a s → r ∷ o ∷ e ∷ None ∷ None ∷ [] ≡ answers_at a s
answers_looked a s lsr r o e is pr po pe =
    let no_chip : f.chip a s ≡ None = rw is refl in
    let no_level : f.level a s ≡ None = rw is refl in
    cons _ _ _ _ pr (cons _ _ _ _ po (cons _ _ _ _ pe (cons _ _ _ _ (sym no_chip) (cons _ _ _ _ (sym no_level) refl))))

pub answers_sent : (a : Auditor) (s : Step) (byte : ℕ) (r : Option Finding) → s.action ≡ Sends byte → r ≡ answer_in (f.arrival a s) →
    r ∷ None ∷ None ∷ None ∷ None ∷ [] ≡ answers_at a s
answers_sent a s byte r is pr =
    let no_overrun : f.overrun a s ≡ None = rw is refl in
    let none_empty : f.empty a s ≡ None = rw is refl in
    let no_chip : f.chip a s ≡ None = rw is refl in
    let no_level : f.level a s ≡ None = rw is refl in
    cons _ _ _ _ pr (cons _ _ _ _ (sym no_overrun) (cons _ _ _ _ (sym none_empty) (cons _ _ _ _ (sym no_chip)
    (cons _ _ _ _ (sym no_level) refl))))

pub answers_received : (a : Auditor) (s : Step) (byte : ℕ) (r : Option Finding) → s.action ≡ Receives byte →
    r ≡ answer_in (f.arrival a s) → r ∷ None ∷ None ∷ None ∷ None ∷ [] ≡ answers_at a s
answers_received a s byte r is pr =
    let no_overrun : f.overrun a s ≡ None = rw is refl in
    let none_empty : f.empty a s ≡ None = rw is refl in
    let no_chip : f.chip a s ≡ None = rw is refl in
    let no_level : f.level a s ≡ None = rw is refl in
    cons _ _ _ _ pr (cons _ _ _ _ (sym no_overrun) (cons _ _ _ _ (sym none_empty) (cons _ _ _ _ (sym no_chip)
    (cons _ _ _ _ (sym no_level) refl))))

-- ---- a step

pub step_answers : (old : Auditor) (s : Step) (e : Entry) (result : List (Option Finding)) → result ≡ answers_at old s →
    s ≡ step_from old e → (past : List Entry) → old ≡ for_chip (known past) → present result ≡ answers_in (findings_at e past)
step_answers old s e result r t past k =
    ap present r ∙
    (ap (λ (s : Step). present (answers_at old s)) t ∙
    (ap (λ (a : Auditor). present (answers_at a (step_from a e))) k ∙ all_answers (known past) (step_from (known past) e)))

pub step_seen : (old new : Auditor) (s : Step) (e : Entry) → new ≡ next_for_chip old s → s ≡ step_from old e →
    (past : List Entry) → old ≡ for_chip (known past) → new ≡ for_chip (known (e ∷ past))
step_seen old new s e n t past k =
    n ∙
    (ap (λ (s : Step). next_for_chip old s) t ∙
    (ap (λ (a : Auditor). next_for_chip a (step_from a e)) k ∙ ap for_chip (next_known (step_from (known past) e) (steps past))))
