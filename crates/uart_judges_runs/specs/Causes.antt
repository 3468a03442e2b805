-- What the caller of our own driver gives cause for, and which warning has which cause.
use Rattle.std.specs.Prelude.{◌≡◌, ℕ, Bool, true, false, ◌&&◌, ◌||◌, not, if◌then◌else◌, List, [], ◌∷◌, Option, Some}
use Rattle.std.specs.Prelude.{None, bit_or}
use Rattle.std.specs.List.{AllByRecursion}
use Rattle.uart_spec.specs.Bits.{has}
use Rattle.uart_spec.specs.declared.access.Access.{Access}
use Rattle.uart_spec.specs.declared.access.Access.TheVariants.{Read, Write}
use Rattle.uart_spec.specs.declared.config.Config.{Config}
use Rattle.uart_spec.specs.declared.registers.interrupt_enable.IER.{IER}
use Rattle.uart_spec.specs.declared.registers.interrupt_status.TheConstants.ISR
use Rattle.uart_spec.specs.declared.registers.line_control.TheConstants.LCR
use Rattle.uart_spec.specs.declared.registers.offsets.TheConstants as offsets
use Rattle.uart_16550.specs.Driver.{Fields}
use Rattle.uart_16550.specs.Expansion.{expansion}
use Rattle.uart_call.specs.declared.call.Call.{Call}
use Rattle.uart_call.specs.declared.call.Call.TheVariants as call
use Rattle.uart_events.specs.declared.event.Chip.{Chip}
use Rattle.uart_chip.specs.Machine.{MachineState}
use Rattle.uart_judges.specs.Findings.{enables_some, is_cut_off, is_held, is_zero}
use Rattle.uart_judges.specs.Severities.{severity}
use Rattle.uart_judges.specs.Shows.{is_cut}
use Rattle.uart_judges.specs.declared.audit.auditor.Auditor.{Auditor}
use Rattle.uart_judges.specs.declared.audit.finding.Finding.{Finding}
use Rattle.uart_judges.specs.declared.audit.finding.Finding.TheVariants as found
use Rattle.uart_judges.specs.declared.audit.finding.Severity.{Severity}
use Rattle.uart_judges.specs.declared.audit.finding.Severity.TheVariants.{Warning}
use Rattle.uart_run.specs.Ready.{has_fifo, is_level}
use Rattle.uart_judges_runs.specs.Calls.{opened_by}
use Rattle.uart_judges_runs.specs.Lost.{IsSo}
use Rattle.uart_judges_runs.specs.Runs.{IsOpenTo}

-- ---- the causes

-- what a caller may give cause by: a break is sent meanwhile; a byte that is sent has more bits than a character; the
-- driver is not to check CTS; MSR is read; an interrupt is enabled; ISR is read; OUT2 is off; the FIFOs are off; the
-- divisor is zero
pub record Causes : Type 0 where
  pub break_is_sent : Bool
  pub bytes_are_cut : Bool
  pub cts_is_unchecked : Bool
  pub msr_is_read : Bool
  pub interrupts_are_on : Bool
  pub isr_is_read : Bool
  pub out2_is_off : Bool
  pub fifos_are_off : Bool
  pub divisor_is_zero : Bool

-- one of these is the cause of the finding
abbrev pub has_cause : Causes → Finding → Bool
has_cause c (found.SentInBreak byte) = c.break_is_sent
has_cause c (found.WordTooShort byte) = c.bytes_are_cut
has_cause c found.SentWithoutCts = c.cts_is_unchecked && c.msr_is_read
has_cause c found.InterruptsCutOff = c.interrupts_are_on && c.out2_is_off
has_cause c (found.ErrorsLost arrived) = c.fifos_are_off
has_cause c found.ZeroDivisor = c.divisor_is_zero
has_cause c (found.NotServed identified) = c.interrupts_are_on && c.isr_is_read
has_cause c (found.LeftWithLineUp line) = c.interrupts_are_on && c.isr_is_read
has_cause c _ = false

-- one of these is the cause of some warning
abbrev pub cause_some : Causes → Bool
cause_some c =
    c.break_is_sent
    || (c.bytes_are_cut
    || ((c.cts_is_unchecked && c.msr_is_read)
    || ((c.interrupts_are_on && (c.isr_is_read || c.out2_is_off)) || (c.fifos_are_off || c.divisor_is_zero))))

abbrev pub is_the_drivers : Severity → Bool
is_the_drivers Warning = true
is_the_drivers _ = false

-- a finding that is held against the driver
abbrev pub is_warning : Finding → Bool
is_warning finding = is_the_drivers (severity finding)

-- a warning that has none of these causes
abbrev pub is_unfounded : Causes → Finding → Bool
is_unfounded c finding = is_warning finding && not (has_cause c finding)

-- ---- what gives no other cause

-- the bytes that a call is to send
abbrev pub bytes_of : Call → List ℕ
bytes_of (call.TrySend byte) = byte ∷ []
bytes_of (call.Send bytes) = bytes.items
bytes_of (call.SendExact bytes) = bytes.items
bytes_of (call.Write bytes) = bytes.items
bytes_of (call.Text text) = expansion text.bytes
bytes_of _ = []

-- the interrupts that a call is to enable
abbrev pub enabled_by : Call → Option IER
enabled_by (call.Enable bits) = Some bits
enabled_by _ = None

-- a call that reads MSR, but not to check CTS before it sends; and one that reads ISR
abbrev pub reads_msr : Call → Bool
reads_msr call.Msr = true
reads_msr call.PeekModem = true
reads_msr call.CheckConnected = true
reads_msr call.Dump = true
reads_msr _ = false

abbrev pub reads_isr : Call → Bool
reads_isr call.Isr = true
reads_isr call.Dump = true
reads_isr (call.CheckConfigured outputs) = true
reads_isr _ = false

-- a character with this value of LCR has all bits of the byte
abbrev pub Fits : (line byte : ℕ) → Type 0
Fits line byte = is_cut (record { 0 = line }) byte ≡ false

-- a call gives no other cause than these: its bytes fit, it does not read MSR, enables no interrupt, and does not read
-- ISR
pub record AsksFor (c : Causes) (line : ℕ) (call : Call) : Type 0 where
  pub bytes : c.bytes_are_cut ≡ false → AllByRecursion (Fits line) (bytes_of call)
  pub msr : c.msr_is_read ≡ false → reads_msr call ≡ false
  pub interrupts : c.interrupts_are_on ≡ false → enables_some (enabled_by call) ≡ false
  pub isr : c.isr_is_read ≡ false → reads_isr call ≡ false

-- the driver's fields, and a value of LCR in which DLAB is off, give no cause but these
pub record IsSetUpFor (c : Causes) (line : ℕ) (f : Fields) : Type 0 where
  -- DLAB is off in LCR
  pub dlab : has line LCR.DLAB.0 ≡ false
  -- LCR has no break on, unless that is a cause
  pub not_in_break : c.break_is_sent ≡ false → has line LCR.SET_BREAK.0 ≡ false
  -- the driver checks CTS before it sends, unless that it does not is a cause
  pub checks : c.cts_is_unchecked ≡ false → f.config.check_cts_before_sending ≡ true
  -- the driver takes the FIFOs to be on, unless that they are off is a cause
  pub fifos : c.fifos_are_off ≡ false → f.fifo ≡ true

-- LCR as it is while DLAB is on, or off
abbrev pub line_while : (opened : Bool) → ℕ → ℕ
line_while opened line = if opened then bit_or line LCR.DLAB.0 else line

-- nor does what is read: LCR as it is; no interrupt enabled, and none pending; OUT2 on
pub record ShowsFor (c : Causes) (line : ℕ) (opened : Bool) (register answer : ℕ) : Type 0 where
  pub lcr : register ≡ offsets.LCR → answer ≡ line_while opened line
  pub enabled : register ≡ offsets.IER → opened ≡ false → c.interrupts_are_on ≡ false →
      enables_some (Some (record { 0 = answer })) ≡ false
  pub pending : register ≡ offsets.ISR → c.interrupts_are_on ≡ false → has answer ISR.INTERRUPT_STATUS.0 ≡ true
  pub out2 : register ≡ offsets.MCR → c.out2_is_off ≡ false → is_cut_off (Some (record { 0 = answer })) ≡ false

abbrev pub IsShownFor : (c : Causes) (line : ℕ) (opened : Bool) → Access → Type 0
IsShownFor c line opened (Read register answer) = ShowsFor c line opened register answer
IsShownFor c line opened (Write register value) = Unit {0}

abbrev pub AreShownFrom : (c : Causes) (line : ℕ) (opened : Bool) → List Access → Type 0
AreShownFrom c line opened [] = Unit {0}
AreShownFrom c line opened (access ∷ accesses) =
    IsShownFor c line opened access × AreShownFrom c line (opened_by access opened) accesses

-- of accesses before which DLAB was off
abbrev pub AreShownFor : Causes → (line : ℕ) → List Access → Type 0
AreShownFor c line accesses = AreShownFrom c line false accesses

-- what a session begins with, the driver's fields and the calls give no cause but these
pub record GivesOnly (c : Causes) (calls : List Call) (f : Fields) (m : MachineState) : Type 0 where
  pub begins : IsOpenTo f m
  -- no interrupt is enabled, unless that is a cause
  pub interrupts : c.interrupts_are_on ≡ false → enables_some (Some (record { 0 = m.chip.latches.ier })) ≡ false
  -- OUT2 is on, unless that is a cause
  pub out2 : c.out2_is_off ≡ false → is_cut_off (Some (record { 0 = m.chip.latches.mcr })) ≡ false
  pub set_up : IsSetUpFor c m.chip.latches.lcr f
  -- no call gives another cause: its bytes fit, and it reads neither MSR nor ISR and enables no interrupt, unless that
  -- is a cause
  pub asks : AllByRecursion (AsksFor c m.chip.latches.lcr) calls

-- nor does a configuration, with which a chip of this model is set up
pub record IsConfiguredFor (c : Causes) (config : Config) (model : Chip) : Type 0 where
  pub checks : c.cts_is_unchecked ≡ false → config.check_cts_before_sending ≡ true
  pub interrupts : c.interrupts_are_on ≡ false → enables_some (Some config.interrupts) ≡ false
  pub fifos : c.fifos_are_off ≡ false → (is_level config.fifo_trigger_level && has_fifo model) ≡ true

-- what the judge knows before gives no cause but these: it knows
pub record KnowsFor (c : Causes) (line : ℕ) (a : Auditor) : Type 0 where
  -- of LCR what it is, or nothing
  pub lcr : IsSo a.setup.line (λ lcr. lcr.0 ≡ line)
  -- of no interrupt that is enabled, unless that is a cause
  pub interrupts : c.interrupts_are_on ≡ false → enables_some a.setup.interrupts ≡ false
  -- of no handler at work, unless enabled interrupts and reads of ISR are causes
  pub not_handling : (c.interrupts_are_on && c.isr_is_read) ≡ false → a.is_handling ≡ false
  -- not that CTS is clear and was set before, if the driver is not to check it and no call reads MSR
  pub clear : c.cts_is_unchecked ≡ true → c.msr_is_read ≡ false → (is_held a.cts && a.was_cts_set) ≡ false
  -- not that OUT2 is off, unless that is a cause
  pub out2 : c.out2_is_off ≡ false → is_cut_off a.setup.modem ≡ false
  -- not that the divisor is zero, unless that is a cause
  pub divisor : c.divisor_is_zero ≡ false →
      (is_zero a.setup.divisor.low && is_zero a.setup.divisor.high) ≡ false
