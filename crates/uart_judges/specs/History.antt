-- What the entries of a recording show about the chip and its driver. The latest is the first of a list.
use Rattle.std.specs.Prelude.{ℕ, ◌+◌, ◌-◌, ◌^◌, Bool, true, false, ◌&&◌, ◌||◌, not, if◌then◌else◌, max, min, nat_lt}
use Rattle.std.specs.Prelude.{◌==◌, Option, Some, None, is_some, List, [], ◌∷◌}
use Rattle.uart_spec.specs.declared.setup.FifoSize.TheVariants.{Sixteen}
use Rattle.uart_chip.specs.Receiver.{characters_of}
use Rattle.uart_spec.specs.Bits.{has}
use Rattle.uart_spec.specs.declared.registers.fifo_control.TheConstants.FCR as fcr_bits
use Rattle.uart_spec.specs.declared.registers.fifo_trigger_level.FifoTriggerLevel.{FifoTriggerLevel}
use Rattle.uart_spec.specs.declared.registers.interrupt_enable.IER.{IER}
use Rattle.uart_spec.specs.declared.registers.interrupt_enable.TheConstants.IER as ier_bits
use Rattle.uart_spec.specs.declared.registers.interrupt_status.ISR.{ISR}
use Rattle.uart_spec.specs.declared.registers.interrupt_status.TheConstants.ISR as isr_bits
use Rattle.uart_spec.specs.declared.registers.interrupt_type.InterruptType.{InterruptType}
use Rattle.uart_spec.specs.declared.registers.interrupt_type.InterruptType.TheVariants.{ReceivedDataReady}
use Rattle.uart_spec.specs.declared.registers.interrupt_type.InterruptType.TheVariants.{ReceptionTimeout}
use Rattle.uart_spec.specs.declared.registers.interrupt_type.InterruptType.TheVariants.{TransmitterHoldingRegisterEmpty}
use Rattle.uart_spec.specs.declared.registers.line_control.LCR.{LCR}
use Rattle.uart_spec.specs.declared.registers.line_status.TheConstants.LSR as lsr_bits
use Rattle.uart_spec.specs.declared.registers.modem_status.MSR.{MSR}
use Rattle.uart_spec.specs.declared.registers.modem_status.TheConstants.MSR as msr_bits
use Rattle.uart_judges.specs.Actions.{action}
use Rattle.uart_judges.specs.Setups.{next_setup, unknown_setup}
use Rattle.uart_judges.specs.Shows.{begins_divisor, configures, controls_fifo, identified, identified_by}
use Rattle.uart_judges.specs.Shows.{identifies_thr_empty, is_thr_empty, looks_at_line, may_send, opens, receives, sends}
use Rattle.uart_judges.specs.Shows.{sets_high}
use Rattle.uart_judges.specs.Shows.{sets_low, sets_modem, shows_none, shows_thr_empty}
use Rattle.uart_judges.specs.Steps.{has_rested, is_on_line, least_depth, looks_for_errors, loops, loops_back, may_empty}
use Rattle.uart_judges.specs.Steps.{serves}
use Rattle.uart_judges.specs.Steps.{shows_cts}
use Rattle.uart_judges.specs.Steps.{shows_idle, shows_room, signals}
use Rattle.uart_judges.specs.Unread.{front, next_unread, unknown}
use Rattle.uart_judges.specs.declared.audit.action.Action.{Action}
use Rattle.uart_judges.specs.declared.audit.action.Action.TheVariants.{Arrives, ChangesLines, ControlsFifo, Receives}
use Rattle.uart_judges.specs.declared.audit.action.Action.TheVariants.{Sends, MayReceive, MaySend}
use Rattle.uart_judges.specs.declared.audit.action.Action.TheVariants.{EnablesInterrupts, IdentifiesInterrupt}
use Rattle.uart_judges.specs.declared.audit.action.Action.TheVariants.{LooksAtLine, LooksAtModem, ReadsLine, SetsLine}
use Rattle.uart_judges.specs.declared.audit.auditor.Auditor.{Auditor}
use Rattle.uart_judges.specs.declared.audit.auditor.Identified.{Identified}
use Rattle.uart_judges.specs.declared.audit.auditor.Latch.{Latch}
use Rattle.uart_judges.specs.declared.audit.auditor.Mark.{Mark}
use Rattle.uart_judges.specs.declared.audit.setup.Setup.{Setup}
use Rattle.uart_judges.specs.declared.audit.step.Step.{Step}
use Rattle.uart_judges.specs.declared.audit.unread.TheConstants.{MOST_UNREAD}
use Rattle.uart_judges.specs.declared.audit.unread.Unread.{Unread}
use Rattle.uart_judges.specs.declared.recording.entry.Entry.{Entry}
use Rattle.uart_judges.specs.declared.recording.entry.Happening.{Happening}
use Rattle.uart_judges.specs.declared.recording.entry.Happening.TheVariants.{Access, Interrupt}

-- ---- words for lists of steps

-- something happened, and since then nothing that resets it
abbrev pub next_since : (before resets happens : Bool) → Bool
next_since before resets happens = happens || (before && not resets)

abbrev pub since : (resets happens : Step → Bool) → List Step → Bool
since resets happens [] = false
since resets happens (s ∷ past) = next_since (since resets happens past) (resets s) (happens s)

-- something happened at any time
abbrev pub never : Step → Bool
never s = false

abbrev pub ever : (Step → Bool) → List Step → Bool
ever happens past = since never happens past

-- how often something happened since what resets the count, which saturates
abbrev pub next_count : (before : ℕ) (resets happens : Bool) → ℕ
next_count before resets happens =
    let left = if resets then 0 else before in
    if happens then min (left + 1) (2 ^ 64 - 1) else left

abbrev pub count : (resets happens : Step → Bool) → List Step → ℕ
count resets happens [] = 0
count resets happens (s ∷ past) = next_count (count resets happens past) (resets s) (happens s)

-- ---- the set-up

abbrev pub setup : List Step → Setup
setup [] = unknown_setup
setup (s ∷ past) = next_setup (setup past) s.action

-- ---- the transmitter

-- when the latest byte was sent
abbrev pub next_sent_at : Option ℕ → Step → Option ℕ
next_sent_at before s = if sends s.action then s.time else before

abbrev pub sent_at : List Step → Option ℕ
sent_at [] = None
sent_at (s ∷ past) = next_sent_at (sent_at past) s

-- the bytes sent since the transmitter was last shown to have room
abbrev pub sent : List Step → ℕ
sent past = count shows_room (λ s. sends s.action) past

-- the bytes that may still be going out
abbrev pub going_out : List Step → ℕ
going_out past = count shows_idle (λ s. sends s.action) past

-- THR was shown to be empty, and nothing was sent since, for certain
abbrev pub thr_empty : List Step → Bool
thr_empty past = since (λ s. may_send s.action) (λ s. shows_thr_empty s.action) past

-- ISR identified an empty transmitter, and nothing was sent since, for certain
abbrev pub acknowledged : List Step → Bool
acknowledged past = since (λ s. may_send s.action) (λ s. identifies_thr_empty s.action) past

-- IER enables the interrupt of an empty transmitter, which was off
abbrev pub was_off : Option IER → Bool
was_off (Some old) = not (has old.0 ier_bits.THR_EMPTY.0)
was_off None = false

abbrev pub enables_thr_empty : Setup → IER → Bool
enables_thr_empty s ier = has ier.0 ier_bits.THR_EMPTY.0 && was_off s.interrupts

-- ISR shows no interrupt, or this one
abbrev pub settles_thr_empty : ISR → Bool
settles_thr_empty isr = has isr.0 isr_bits.INTERRUPT_STATUS.0 || is_thr_empty (identified isr)

-- it was enabled while THR was empty, and neither a read of ISR nor a byte settled it since
abbrev pub thr_due_after : Bool → Bool → Setup → Action → Bool
thr_due_after due empty setup (EnablesInterrupts ier) =
    if enables_thr_empty setup ier then empty else has ier.0 ier_bits.THR_EMPTY.0 && due
thr_due_after due empty setup (IdentifiesInterrupt isr) = due && not (settles_thr_empty isr)
thr_due_after due empty setup (Sends byte) = false
thr_due_after due empty setup (ControlsFifo fcr) = false
thr_due_after due empty setup _ = due

abbrev pub next_thr_due : Bool → Bool → Step → Bool
next_thr_due due empty s = thr_due_after due empty s.setup s.action

abbrev pub thr_due : List Step → Bool
thr_due [] = false
thr_due (s ∷ past) = next_thr_due (thr_due past) (thr_empty past) s

-- what MSR showed of CTS since the latest byte was sent
abbrev pub cts_after : Option Bool → Action → Option Bool
cts_after before (LooksAtModem msr) = Some (has msr.0 msr_bits.CTS.0)
cts_after before (Sends byte) = None
cts_after before MaySend = None
cts_after before _ = before

abbrev pub next_cts : Option Bool → Step → Option Bool
next_cts before s = cts_after before s.action

abbrev pub cts : List Step → Option Bool
cts [] = None
cts (s ∷ past) = next_cts (cts past) s

-- a byte was sent in loopback, and none was received since, and MCR was not written
abbrev pub looped : List Step → Bool
looped past = since (λ s. sets_modem s.action || receives s.action) loops past

-- ---- the receiver

-- the number of bytes at which a data interrupt comes from a FIFO of 16
abbrev pub level : Option Bool → Option FifoTriggerLevel → ℕ
level (Some true) (Some trigger) = characters_of Sixteen trigger
level fifo trigger = 1

-- how many bytes an interrupt shows to wait, with this interrupt level
abbrev pub shown_by : Option InterruptType → ℕ → ℕ
shown_by (Some ReceivedDataReady) level = level
shown_by (Some ReceptionTimeout) level = 1
shown_by _ level = 0

-- an arrival is one more that waits, up to what certainly fits, where loopback is known to be off
abbrev pub waiting_after_arrival : ℕ → Setup → ℕ
waiting_after_arrival n s = if is_on_line s.modem then min (n + 1) (least_depth s.has_fifo) else n

-- at least so many received bytes wait: what LSR, ISR and arrivals showed for certain, less what was read or reset, or
-- may have been
abbrev pub waiting_after : ℕ → Step → Action → ℕ
waiting_after n s (LooksAtLine lsr) = if has lsr.0 lsr_bits.DATA_READY.0 then max n 1 else 0
waiting_after n s (IdentifiesInterrupt isr) =
    max n (shown_by (identified isr) (level s.setup.has_fifo s.setup.trigger))
waiting_after n s (Receives byte) = n - 1
waiting_after n s MayReceive = n - 1
waiting_after n s (Arrives byte errors) = waiting_after_arrival n s.setup
waiting_after n s (ControlsFifo fcr) = if may_empty fcr_bits.RX_FIFO_RESET.0 s then 0 else n
waiting_after n s _ = n

abbrev pub next_waiting : ℕ → Step → ℕ
next_waiting n s = waiting_after n s s.action

abbrev pub waiting : List Step → ℕ
waiting [] = 0
waiting (s ∷ past) = next_waiting (waiting past) s

-- whether a received byte was seen, by the latest look at LSR or by an arrival since
abbrev pub ready_after : Option Bool → Action → Option Bool
ready_after before (LooksAtLine lsr) = Some (has lsr.0 lsr_bits.DATA_READY.0)
ready_after before (Arrives byte errors) = Some true
ready_after before _ = before

abbrev pub next_ready : Option Bool → Step → Option Bool
next_ready before s = ready_after before s.action

abbrev pub ready : List Step → Option Bool
ready [] = None
ready (s ∷ past) = next_ready (ready past) s

-- a byte was read from DATA, and errors were not looked at since
abbrev pub has_taken : List Step → Bool
has_taken past = since looks_for_errors (λ s. receives s.action) past

-- bytes were sent, or received that waited, since IER, FCR, LCR or MCR was written
abbrev pub next_at_work : Bool → ℕ → Step → Bool
next_at_work before n s =
    next_since before (configures s.action) (sends s.action || (receives s.action && nat_lt 0 n))

abbrev pub at_work : List Step → Bool
at_work [] = false
at_work (s ∷ past) = next_at_work (at_work past) (waiting past) s

-- the characters that arrived and were not read
abbrev pub unread : List Step → Unread
unread [] = unknown
unread (s ∷ past) = next_unread (unread past) s

-- there is no room for one more character
abbrev pub is_without_room : Option Bool → Unread → Bool
is_without_room (Some true) u = u.count == MOST_UNREAD
is_without_room (Some false) u = is_some (front u)
is_without_room None u = false

abbrev pub has_no_room : Unread → Setup → Bool
has_no_room u s = is_without_room s.has_fifo u

-- a character arrived for which there was no room, and neither was LSR read nor the receiver emptied since
abbrev pub overrun_after : Bool → Unread → Step → Action → Bool
overrun_after before u s (LooksAtLine lsr) = false
overrun_after before u s (ControlsFifo fcr) = before && not (may_empty fcr_bits.RX_FIFO_RESET.0 s)
overrun_after before u s (Arrives byte errors) =
    if loops_back s.setup.modem then before else before || has_no_room u s.setup
overrun_after before u s _ = before

abbrev pub next_overrun : Bool → Unread → Step → Bool
next_overrun before u s = overrun_after before u s s.action

abbrev pub overrun : List Step → Bool
overrun [] = false
overrun (s ∷ past) = next_overrun (overrun past) (unread past) s

-- FCR was written since LSR was last read
abbrev pub controlled : List Step → Bool
controlled past = since (λ s. looks_at_line s.action) (λ s. controls_fifo s.action) past

-- the interrupt is that of received data
abbrev pub of_data : Option InterruptType → Option InterruptType
of_data (Some ReceivedDataReady) = Some ReceivedDataReady
of_data (Some ReceptionTimeout) = Some ReceptionTimeout
of_data _ = None

-- the interrupt of received data that the latest read of ISR identified, and that nothing served since
abbrev pub data_interrupt_after : Option InterruptType → Action → Option InterruptType
data_interrupt_after before (IdentifiesInterrupt isr) = of_data (identified isr)
data_interrupt_after before (Receives byte) = None
data_interrupt_after before MayReceive = None
data_interrupt_after before (LooksAtLine lsr) = None
data_interrupt_after before (ControlsFifo fcr) = None
data_interrupt_after before (EnablesInterrupts ier) = None
data_interrupt_after before _ = before

abbrev pub next_data_interrupt : Option InterruptType → Step → Option InterruptType
next_data_interrupt before s = data_interrupt_after before s.action

abbrev pub data_interrupt : List Step → Option InterruptType
data_interrupt [] = None
data_interrupt (s ∷ past) = next_data_interrupt (data_interrupt past) s

-- ---- the divisor latch and LCR

abbrev pub next_latch : Latch → Action → Latch
next_latch l x = record {
  was_opened = next_since l.was_opened false (opens x);
  has_looked = next_since l.has_looked (opens x) (looks_at_line x);
  has_low = next_since l.has_low (opens x) (sets_low x);
  has_high = next_since l.has_high (opens x) (sets_high x);
  is_low_new = next_since l.is_low_new (begins_divisor x) (sets_low x);
  is_high_new = next_since l.is_high_new (begins_divisor x) (sets_high x);
}

-- since the latch was opened: whether LSR was read, and each byte written; and written since it was opened or read
abbrev pub latch : List Step → Latch
latch past = record {
  was_opened = ever (λ s. opens s.action) past;
  has_looked = since (λ s. opens s.action) (λ s. looks_at_line s.action) past;
  has_low = since (λ s. opens s.action) (λ s. sets_low s.action) past;
  has_high = since (λ s. opens s.action) (λ s. sets_high s.action) past;
  is_low_new = since (λ s. begins_divisor s.action) (λ s. sets_low s.action) past;
  is_high_new = since (λ s. begins_divisor s.action) (λ s. sets_high s.action) past;
}

-- the value of LCR that was written while bytes were going out, and not read back
abbrev pub busy_line_after : Option LCR → ℕ → Bool → Action → Option LCR
busy_line_after before n rested (SetsLine lcr) = if nat_lt 0 n && not rested then Some lcr else None
busy_line_after before n rested (ReadsLine lcr) = None
busy_line_after before n rested _ = before

abbrev pub next_busy_line : Option LCR → ℕ → Step → Option LCR
next_busy_line before n s = busy_line_after before n s.has_rested s.action

abbrev pub busy_line : List Step → Option LCR
busy_line [] = None
busy_line (s ∷ past) = next_busy_line (busy_line past) (going_out past) s

-- ---- interrupts

-- an interrupt that asks for something, identified at this line: an empty transmitter does not
abbrev pub asks : Option InterruptType → ℕ → Option Identified
asks (Some TransmitterHoldingRegisterEmpty) line = None
asks (Some interrupt) line = Some (record { interrupt = interrupt; line = line })
asks None line = None

abbrev pub unless_served : Option Identified → Step → Option Identified
unless_served None s = None
unless_served (Some before) s = if serves before.interrupt s then None else Some before

-- the interrupt that the latest read of ISR identified, unless it was served since
abbrev pub unserved_after : Option Identified → Step → Action → Option Identified
unserved_after before s (IdentifiesInterrupt isr) = asks (identified isr) s.line
unserved_after before s _ = unless_served before s

abbrev pub next_unserved : Option Identified → Step → Option Identified
next_unserved before s = unserved_after before s s.action

abbrev pub unserved : List Step → Option Identified
unserved [] = None
unserved (s ∷ past) = next_unserved (unserved past) s

-- a handler may be at work: ISR identified an interrupt, and did not show since that none is pending
abbrev pub handling : List Step → Bool
handling past = since (λ s. shows_none s.action) (λ s. is_some (identified_by s.action)) past

-- interrupts were seen to reach the processor since MCR was written
abbrev pub signalled : List Step → Bool
signalled past = since (λ s. sets_modem s.action) signals past

-- a mark at this line and time, if it is known
abbrev pub mark_at : ℕ → Option ℕ → Option Mark
mark_at line None = None
mark_at line (Some time) = Some (record { line = line; time = time })

-- the latest access after which the line was up, if it is not known to be down since
abbrev pub up_after : Option Mark → Bool → ℕ → Option Bool → Option ℕ → Option Mark
up_after before access line None time = before
up_after before access line (Some false) time = None
up_after before access line (Some true) time = if access then mark_at line time else before

abbrev pub next_up : Option Mark → Step → Option Mark
next_up before s = up_after before s.is_access s.line s.level s.time

abbrev pub up : List Step → Option Mark
up [] = None
up (s ∷ past) = next_up (up past) s

-- ---- the modem inputs, and what was told

-- the modem inputs that the recording has
abbrev pub next_lines : Option MSR → Action → Option MSR
next_lines before (ChangesLines inputs) = Some inputs
next_lines before _ = before

abbrev pub lines : List Step → Option MSR
lines [] = None
lines (s ∷ past) = next_lines (lines past) s.action

-- the set-up at the latest transfer of a byte
abbrev pub next_told : Option Setup → Step → Option Setup
next_told before s = if sends s.action || receives s.action then Some s.setup else before

abbrev pub told : List Step → Option Setup
told [] = None
told (s ∷ past) = next_told (told past) s

-- ---- all of it

-- what is known after these steps
abbrev pub known_of : List Step → Auditor
known_of past = record {
  setup = setup past;
  sent_at = sent_at past;
  sent = sent past;
  going_out = going_out past;
  is_thr_empty = thr_empty past;
  is_acknowledged = acknowledged past;
  is_thr_due = thr_due past;
  waiting = waiting past;
  ready = ready past;
  has_taken = has_taken past;
  is_at_work = at_work past;
  unread = unread past;
  is_overrun = overrun past;
  is_controlled = controlled past;
  data_interrupt = data_interrupt past;
  latch = latch past;
  busy_line = busy_line past;
  unserved = unserved past;
  is_handling = handling past;
  has_signalled = signalled past;
  up = up past;
  has_looped = looped past;
  cts = cts past;
  was_cts_set = ever shows_cts past;
  lines = lines past;
  told = told past;
}

-- the level of the interrupt line after an entry
abbrev pub level_of : Happening → Option Bool → Option Bool
level_of (Interrupt is_raised) recorded = Some is_raised
level_of _ recorded = recorded

-- it is an access of the driver
abbrev pub is_access : Happening → Bool
is_access (Access access) = true
is_access _ = false

-- an entry beside what is known before it
abbrev pub step_from : Auditor → Entry → Step
step_from a e = record {
  setup = a.setup;
  action = action a.setup.is_open e.happening;
  is_access = is_access e.happening;
  line = e.line;
  time = e.time;
  level = level_of e.happening e.interrupt;
  has_rested = has_rested a.setup.divisor a.going_out a.sent_at e.time;
}

-- the entries of a recording as steps
abbrev pub steps : List Entry → List Step
steps [] = []
steps (e ∷ past) = step_from (known_of (steps past)) e ∷ steps past

-- what is known after these entries
abbrev pub known : List Entry → Auditor
known past = known_of (steps past)

-- what is known after one more step
abbrev pub next : Auditor → Step → Auditor
next a s = record {
  setup = next_setup a.setup s.action;
  sent_at = next_sent_at a.sent_at s;
  sent = next_count a.sent (shows_room s) (sends s.action);
  going_out = next_count a.going_out (shows_idle s) (sends s.action);
  is_thr_empty = next_since a.is_thr_empty (may_send s.action) (shows_thr_empty s.action);
  is_acknowledged = next_since a.is_acknowledged (may_send s.action) (identifies_thr_empty s.action);
  is_thr_due = next_thr_due a.is_thr_due a.is_thr_empty s;
  waiting = next_waiting a.waiting s;
  ready = next_ready a.ready s;
  has_taken = next_since a.has_taken (looks_for_errors s) (receives s.action);
  is_at_work = next_at_work a.is_at_work a.waiting s;
  unread = next_unread a.unread s;
  is_overrun = next_overrun a.is_overrun a.unread s;
  is_controlled = next_since a.is_controlled (looks_at_line s.action) (controls_fifo s.action);
  data_interrupt = next_data_interrupt a.data_interrupt s;
  latch = next_latch a.latch s.action;
  busy_line = next_busy_line a.busy_line a.going_out s;
  unserved = next_unserved a.unserved s;
  is_handling = next_since a.is_handling (shows_none s.action) (is_some (identified_by s.action));
  has_signalled = next_since a.has_signalled (sets_modem s.action) (signals s);
  up = next_up a.up s;
  has_looped = next_since a.has_looped (sets_modem s.action || receives s.action) (loops s);
  cts = next_cts a.cts s;
  was_cts_set = next_since a.was_cts_set false (shows_cts s);
  lines = next_lines a.lines s.action;
  told = next_told a.told s;
}
