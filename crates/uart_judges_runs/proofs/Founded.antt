-- At one step: which of the findings have a cause, or are none that the caller can be the cause of.
use Rattle.std.proofs.Common.{◌≡◌, ℕ, Bool, true, false, not, ◌&&◌, ◌||◌, ◌==◌, [], ◌∷◌, Option, Some, None, refl, ap, if◌then◌else◌}
use Rattle.std.proofs.lemmas.Bool.{and_left, and_right, not-true}
use Rattle.uart_spec.specs.Bits.{has}
use Rattle.uart_spec.specs.declared.registers.interrupt_status.ISR.{ISR}
use Rattle.uart_spec.specs.declared.registers.interrupt_type.InterruptType.{InterruptType}
use Rattle.uart_spec.specs.declared.registers.interrupt_type.InterruptType.TheVariants.{ReceptionTimeout}
use Rattle.uart_spec.specs.declared.registers.line_control.LCR.{LCR}
use Rattle.uart_spec.specs.declared.registers.line_status.TheConstants.LSR as lsr_bits
use Rattle.uart_spec.specs.declared.registers.modem_control.MCR.{MCR}
use Rattle.uart_spec.specs.declared.registers.modem_status.MSR.{MSR}
use Rattle.uart_judges.specs.Findings.{all_found, arrival, arrived_at, asks_for_cts, change, changed, chip, chip_at, closed, closes, cuts}
use Rattle.uart_judges.specs.Findings.{discard, empty, empty_in, enables_bytes, flow, from_nothing, gate, given, has_low_alone, ignored}
use Rattle.uart_judges.specs.Findings.{is_cut_off, is_held, is_in_break, is_next, is_other_frame, is_zero, latch, latched, left_up, level}
use Rattle.uart_judges.specs.Findings.{level_as, level_at, line_up, lines_as, loops_again, missing, noted, output, overrun, overrun_in}
use Rattle.uart_judges.specs.Findings.{room, served_by, service, set_up, taken, taken_from, relies, when, are_off, is_long_since}
use Rattle.uart_judges.specs.Shows.{identified, receives, sends}
use Rattle.uart_judges.specs.Steps.{is_line_up, loops_back}
use Rattle.uart_judges.specs.Unread.{front, second}
use Rattle.uart_judges.specs.declared.audit.action.Action.{Action}
use Rattle.uart_judges.specs.declared.audit.action.Action.TheVariants.{Receives, Sends, ReadsDivisor, SetsDivisorLow, SetsDivisorHigh}
use Rattle.uart_judges.specs.declared.audit.action.Action.TheVariants.{ReadsLine, SetsLine, ControlsFifo}
use Rattle.uart_judges.specs.declared.audit.action.Action.TheVariants.{IdentifiesInterrupt, LooksAtLine, LooksAtModem}
use Rattle.uart_judges.specs.declared.audit.auditor.Auditor.{Auditor}
use Rattle.uart_judges.specs.declared.audit.auditor.Identified.{Identified}
use Rattle.uart_judges.specs.declared.audit.auditor.Mark.{Mark}
use Rattle.uart_judges.specs.declared.audit.finding.Finding.{Finding}
use Rattle.uart_judges.specs.declared.audit.finding.Finding.TheVariants as found
use Rattle.uart_judges.specs.declared.audit.setup.Setup.{Setup}
use Rattle.uart_judges.specs.declared.audit.step.Step.{Step}
use Rattle.uart_judges.specs.declared.audit.unread.Arrived.{Arrived}
use Rattle.uart_judges_runs.specs.Recorded.{IsNot, NoneIs}
use Rattle.uart_judges_runs.specs.Causes.{Causes}

-- it is one of the nine warnings that the caller can be the cause of, and has none of these causes
abbrev pub is_of_caller : Causes → Finding → Bool
is_of_caller c (found.SentInBreak byte) = not c.break_is_sent
is_of_caller c (found.WordTooShort byte) = not c.bytes_are_cut
is_of_caller c found.SentWithoutCts = not (c.cts_is_unchecked && c.msr_is_read)
is_of_caller c found.InterruptsCutOff = not (c.interrupts_are_on && c.out2_is_off)
is_of_caller c (found.ErrorsLost arrived) = not c.fifos_are_off
is_of_caller c found.ZeroDivisor = not c.divisor_is_zero
is_of_caller c found.FrameChangedWhileSending = true
is_of_caller c (found.NotServed identified) = not (c.interrupts_are_on && c.isr_is_read)
is_of_caller c (found.LeftWithLineUp line) = not (c.interrupts_are_on && c.isr_is_read)
is_of_caller c _ = false

-- it is no such finding
pub record Founded (c : Causes) (o : Option Finding) : Type 0 where
  pub is : IsNot (is_of_caller c) o

-- the frame stays as it is
abbrev pub StaysFrame : Step → Action → Type 0
StaysFrame s (SetsLine lcr) = is_other_frame s.setup.line lcr ≡ false
StaysFrame s _ = Unit {0}

module _ (c : Causes) where
  pub nothing : Founded c None
  nothing = record { is = tt }

  another : {f : Finding} → is_of_caller c f ≡ false → Founded c (Some f)
  another e = record { is = e }

  pub founded_if : (b : Bool) (x y : Option Finding) → Founded c x → Founded c y → Founded c (if b then x else y)
  founded_if true x y p q = p
  founded_if false x y p q = q

  founded_when : (b : Bool) (f : Finding) → is_of_caller c f ≡ false → Founded c (when b f)
  founded_when true f p = another p
  founded_when false f p = nothing

  -- it comes only where it has a cause
  with_cause : (b : Bool) (f : Finding) (y : Option Finding) → (is_of_caller c f ≡ true → b ≡ false) → Founded c y →
      Founded c (if b then Some f else y)
  with_cause false f y none p = p
  with_cause true f y none p = another (go (is_of_caller c f) refl)
    where
      go : (v : Bool) → is_of_caller c f ≡ v → is_of_caller c f ≡ false
      go true e = absurd (let g : true ≡ false = none e in cc)
      go false e = e

  -- ---- what is never such a finding

  set_up_founded : (told : Option Setup) (now : Setup) → Founded c (set_up told now)
  set_up_founded None now = another refl
  set_up_founded (Some before) now = founded_if _ _ _ nothing (another refl)

  pub noted_founded : (told : Option Setup) (now : Setup) (x : Action) → Founded c (noted told now x)
  noted_founded told now (Sends byte) = set_up_founded told now
  noted_founded told now (Receives byte) = set_up_founded told now
  noted_founded told now (LooksAtLine lsr) = founded_when _ _ refl
  noted_founded told now (LooksAtModem msr) = founded_when _ _ refl
  noted_founded told now _ = nothing

  pub room_founded : (a : Auditor) (s : Step) → Founded c (room a s)
  room_founded a s = founded_if (not (sends s.action)) _ _ nothing (founded_when _ _ refl)

  from_nothing_founded : (again : Bool) (ready : Option Bool) (interrupt : Option InterruptType) →
      Founded c (from_nothing again ready interrupt)
  from_nothing_founded again (Some false) (Some ReceptionTimeout) = nothing
  from_nothing_founded again (Some true) (Some ReceptionTimeout) = nothing
  from_nothing_founded again None (Some ReceptionTimeout) = nothing
  from_nothing_founded again (Some false) _ = another refl
  from_nothing_founded again (Some true) _ = founded_when again found.ReceivedWithoutLook refl
  from_nothing_founded again None _ = founded_when again found.ReceivedWithoutLook refl

  taken_from_founded : (oldest : Option Arrived) (a : Auditor) → Founded c (taken_from oldest a)
  taken_from_founded (Some oldest) a = nothing
  taken_from_founded None a =
      founded_if (a.waiting == 0) _ _
      (founded_if a.is_at_work _ _ (from_nothing_founded a.has_taken a.ready a.data_interrupt) nothing)
      (founded_when a.has_taken found.ErrorsNotRead refl)

  pub taken_founded : (a : Auditor) (s : Step) → Founded c (taken a s)
  taken_founded a s = founded_if (not (receives s.action)) _ _ nothing (taken_from_founded (front a.unread) a)

  pub overrun_in_founded : (due : Bool) (x : Action) → Founded c (overrun_in due x)
  overrun_in_founded due (LooksAtLine lsr) = founded_when _ _ refl
  overrun_in_founded due _ = nothing

  missing_founded : (oldest : Option Arrived) (interrupt : Option InterruptType) (gone : Bool) →
      Founded c (missing oldest interrupt gone)
  missing_founded (Some oldest) interrupt gone = nothing
  missing_founded None (Some interrupt) gone = another refl
  missing_founded None None gone = founded_when _ _ refl

  pub empty_in_founded : (a : Auditor) (x : Action) → Founded c (empty_in a x)
  empty_in_founded a (LooksAtLine lsr) = founded_if _ _ _ nothing (missing_founded (front a.unread) a.data_interrupt _)
  empty_in_founded a _ = nothing

  pub discard_founded : (a : Auditor) (s : Step) → Founded c (discard a s)
  discard_founded a s = founded_when _ _ refl

  either_founded : (b : Bool) → is_of_caller c (if b then found.ThrEmptyNotRaisedAgain else found.ThrEmptyNotRaised) ≡ false
  either_founded true = refl
  either_founded false = refl

  ignored_founded : (written : Option LCR) (read : LCR) → Founded c (ignored written read)
  ignored_founded (Some written) read = founded_when _ _ refl
  ignored_founded None read = nothing

  pub chip_at_founded : (a : Auditor) (x : Action) → Founded c (chip_at a x)
  chip_at_founded a (IdentifiesInterrupt isr) = founded_when _ _ (either_founded a.is_acknowledged)
  chip_at_founded a (ReadsLine lcr) = ignored_founded a.busy_line lcr
  chip_at_founded a _ = nothing

  level_as_founded : (mcr : Option MCR) (isr : ISR) (level : Option Bool) → Founded c (level_as mcr isr level)
  level_as_founded mcr isr (Some up) = founded_when _ _ refl
  level_as_founded mcr isr None = nothing

  lines_as_founded : (lines : Option MSR) (shown : MSR) → Founded c (lines_as lines shown)
  lines_as_founded (Some inputs) shown = founded_when _ _ refl
  lines_as_founded None shown = nothing

  pub level_at_founded : (a : Auditor) (s : Step) (x : Action) → Founded c (level_at a s x)
  level_at_founded a s (IdentifiesInterrupt isr) = level_as_founded s.setup.modem isr s.level
  level_at_founded a s (LooksAtModem msr) = founded_if _ _ _ nothing (lines_as_founded a.lines msr)
  level_at_founded a s _ = nothing

  -- ---- what comes only where it has a cause

  pub given_founded : (a : Auditor) (now : Setup) (byte : ℕ) → (c.break_is_sent ≡ false → is_in_break now.line ≡ false) →
      (c.bytes_are_cut ≡ false → cuts now.line byte ≡ false) → Founded c (given a now byte)
  given_founded a now byte not_broken whole =
      with_cause (is_in_break now.line) (found.SentInBreak byte) _ (λ e. not_broken (not-true c.break_is_sent e))
      (founded_if (loops_again a now) _ _ (another {f = found.SentInLoopback byte} refl)
      (with_cause (cuts now.line byte) (found.WordTooShort byte) None (λ e. whole (not-true c.bytes_are_cut e)) nothing))

  -- CTS is not known to be clear
  pub flow_founded : (a : Auditor) (s : Step) (b : Bool) →
      ((c.cts_is_unchecked && c.msr_is_read) ≡ false → (is_held a.cts && a.was_cts_set) ≡ false) →
      Founded c (if b then None
      else if loops_back s.setup.modem then None
      else when ((is_held a.cts && a.was_cts_set) && asks_for_cts a s.setup) found.SentWithoutCts)
  flow_founded a s b free =
      founded_if b _ _ nothing (founded_if (loops_back s.setup.modem) _ _ nothing
      (with_cause ((is_held a.cts && a.was_cts_set) && asks_for_cts a s.setup) found.SentWithoutCts None
      (λ e. and_left (is_held a.cts && a.was_cts_set) (asks_for_cts a s.setup)
      (free (not-true (c.cts_is_unchecked && c.msr_is_read) e))) nothing))

  -- no interrupt is enabled, or OUT2 is on
  uncut : (on off x y : Bool) → not (on && off) ≡ true → (on ≡ false → x ≡ false) → (off ≡ false → y ≡ false) → (x && y) ≡ false
  uncut true true x y e p q = absurd (cc)
  uncut true false x y e p q = and_right x y (q refl)
  uncut false off x y e p q = and_left x y (p refl)

  pub gate_founded : (a : Auditor) (s : Step) → (c.interrupts_are_on ≡ false → enables_bytes s.setup.interrupts ≡ false) →
      (c.out2_is_off ≡ false → is_cut_off s.setup.modem ≡ false) → Founded c (gate a s)
  gate_founded a s off connected =
      founded_if (a.has_signalled || is_line_up s) _ _ nothing
      (founded_if (not (relies a s)) _ _ nothing
      (with_cause (enables_bytes s.setup.interrupts && is_cut_off s.setup.modem) found.InterruptsCutOff None
      (λ e. uncut c.interrupts_are_on c.out2_is_off _ _ e off connected) nothing))

  -- the errors of the oldest character were seen
  pub read_founded : (a : Auditor) (oldest : Arrived) (byte : ℕ) → (c.fifos_are_off ≡ false → a.unread.is_front_seen ≡ true) →
      Founded c (arrived_at a (Some oldest) (Receives byte))
  read_founded a oldest byte seen =
      founded_if (oldest.byte == byte) _ _
      (with_cause (not (oldest.errors.0 == 0) && not a.unread.is_front_seen) (found.ErrorsLost oldest) None
      (λ e. and_right (not (oldest.errors.0 == 0)) (not a.unread.is_front_seen) (ap not (seen (not-true c.fifos_are_off e)))) nothing)
      (founded_if (is_next (second a.unread) byte) _ _ (another {f = found.ArrivalSkipped oldest.byte} refl)
      (another {f = found.OtherByte oldest.byte byte} refl))

  pub shown_founded : (a : Auditor) (oldest : Option Arrived) (x : Action) → receives x ≡ false → Founded c (arrived_at a oldest x)
  shown_founded a None x other = nothing
  shown_founded a (Some oldest) (Receives byte) other = absurd (cc)
  shown_founded a (Some oldest) (LooksAtLine lsr) other =
      founded_if (not (has lsr.0 lsr_bits.DATA_READY.0)) _ _ (another {f = found.ArrivalGone oldest.byte} refl)
      (founded_when (not (has lsr.0 oldest.errors.0) && not a.unread.is_front_seen) (found.ErrorsHidden oldest) refl)
  shown_founded a (Some oldest) _ other = nothing

  -- the latch is not closed with a divisor of zero
  closed_founded : (a : Auditor) (s : Step) →
      (c.divisor_is_zero ≡ false → (is_zero s.setup.divisor.low && is_zero s.setup.divisor.high) ≡ false) →
      Founded c (closed a s)
  closed_founded a s some =
      with_cause (is_zero s.setup.divisor.low && is_zero s.setup.divisor.high) found.ZeroDivisor _
      (λ e. some (not-true c.divisor_is_zero e)) (founded_when (has_low_alone a.latch) found.HighByteNotSet refl)

  pub latched_founded : (a : Auditor) (s : Step) (x : Action) →
      (c.divisor_is_zero ≡ false → (is_zero s.setup.divisor.low && is_zero s.setup.divisor.high) ≡ false) →
      Founded c (latched a s x)
  latched_founded a s (SetsDivisorLow byte) some = founded_when _ _ refl
  latched_founded a s (SetsDivisorHigh value) some = founded_when _ _ refl
  latched_founded a s ReadsDivisor some = founded_when _ _ refl
  latched_founded a s (SetsLine lcr) some = founded_if (closes s.setup.is_open lcr) _ _ (closed_founded a s some) nothing
  latched_founded a s _ some = nothing

  pub changed_founded : (a : Auditor) (s : Step) (x : Action) → StaysFrame s x → Founded c (changed a s x)
  changed_founded a s (SetsLine lcr) same = with_cause _ found.FrameChangedWhileSending None (λ e. same) nothing
  changed_founded a s (SetsDivisorLow value) same = founded_when _ _ refl
  changed_founded a s (SetsDivisorHigh value) same = founded_when _ _ refl
  changed_founded a s (ControlsFifo fcr) same = founded_when _ _ refl
  changed_founded a s _ same = nothing

  -- ISR shows no interrupt
  pub served_founded : (before : Option Identified) (now : Option InterruptType) →
      ((c.interrupts_are_on && c.isr_is_read) ≡ false → now ≡ None) →
      Founded c (served_by before now)
  served_founded None now none = nothing
  served_founded (Some before) None none = nothing
  served_founded (Some before) (Some now) none =
      with_cause _ (found.NotServed before) None (λ e. absurd
      (let g : Some now ≡ None = none (not-true (c.interrupts_are_on && c.isr_is_read) e) in cc)) nothing

  -- no handler is at work
  pub left_up_founded : (a : Auditor) (s : Step) (up : Option Mark) (now : Option ℕ) →
      ((c.interrupts_are_on && c.isr_is_read) ≡ false → a.is_handling ≡ false) →
      Founded c (left_up a s up now)
  left_up_founded a s (Some mark) (Some now) none =
      founded_if (are_off s.setup.interrupts) _ _ nothing
      (with_cause (a.is_handling && is_long_since mark now) (found.LeftWithLineUp mark.line) None
      (λ e. and_left a.is_handling (is_long_since mark now) (none (not-true (c.interrupts_are_on && c.isr_is_read) e))) nothing)
  left_up_founded a s (Some mark) None none = nothing
  left_up_founded a s None now none = nothing

-- ---- all of them

-- the eight that may be such a finding are none
pub record EightFounded (c : Causes) (a : Auditor) (s : Step) : Type 0 where
  pub output : Founded c (output a s)
  pub flow : Founded c (flow a s)
  pub gate : Founded c (gate a s)
  pub arrival : Founded c (arrival a s)
  pub latch : Founded c (latch a s)
  pub change : Founded c (change a s)
  pub service : Founded c (service a s)
  pub line_up : Founded c (line_up a s)

pub all_founded : (c : Causes) (a : Auditor) (s : Step) → EightFounded c a s → NoneIs (is_of_caller c) (all_found a s)
all_founded c a s eight =
    let last : NoneIs (is_of_caller c) (service a s ∷ chip a s ∷ level a s ∷ line_up a s ∷ []) =
    (eight.service.is, ((chip_at_founded c a s.action).is, ((level_at_founded c a s s.action).is, (eight.line_up.is, tt)))) in
    let third : NoneIs (is_of_caller c)
    (empty a s ∷ latch a s ∷ change a s ∷ discard a s ∷ service a s ∷ chip a s ∷ level a s ∷ line_up a s ∷ []) =
    ((empty_in_founded c a s.action).is, (eight.latch.is, (eight.change.is, ((discard_founded c a s).is, last)))) in
    let second : NoneIs (is_of_caller c)
    (gate a s ∷ taken a s ∷ arrival a s ∷ overrun a s ∷ empty a s ∷ latch a s ∷ change a s ∷ discard a s ∷ service a s ∷ chip a s
    ∷ level a s ∷ line_up a s ∷ []) =
    (eight.gate.is, ((taken_founded c a s).is, (eight.arrival.is, ((overrun_in_founded c a.is_overrun s.action).is, third)))) in
    ((noted_founded c a.told s.setup s.action).is, ((room_founded c a s).is, (eight.output.is, (eight.flow.is, second))))
