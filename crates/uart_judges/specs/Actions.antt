-- What an entry of a recording does, if the chip is a 16550.
use Rattle.std.specs.Prelude.{ℕ, Bool, true, false, Option, Some, None, ◌==◌, if◌then◌else◌}
use Rattle.uart_spec.specs.declared.access.Access.TheVariants.{Read, Write}
use Rattle.uart_spec.specs.declared.registers.offsets.TheConstants as offsets
use Rattle.uart_judges.specs.declared.audit.action.Action.{Action}
use Rattle.uart_judges.specs.declared.audit.action.Action.TheVariants.{Receives, Sends, ReadsDivisor, SetsDivisorLow}
use Rattle.uart_judges.specs.declared.audit.action.Action.TheVariants.{SetsDivisorHigh, EnablesInterrupts}
use Rattle.uart_judges.specs.declared.audit.action.Action.TheVariants.{ShowsInterrupts, IdentifiesInterrupt}
use Rattle.uart_judges.specs.declared.audit.action.Action.TheVariants.{ControlsFifo, ReadsLine, SetsLine, ReadsModem}
use Rattle.uart_judges.specs.declared.audit.action.Action.TheVariants.{SetsModem, LooksAtLine, LooksAtModem}
use Rattle.uart_judges.specs.declared.audit.action.Action.TheVariants.{Arrives, ChangesLines, Other}
use Rattle.uart_judges.specs.declared.audit.action.Action.TheVariants.{MayReceive, MaySend, MayEnable}
use Rattle.uart_judges.specs.declared.recording.entry.Happening.{Happening}
use Rattle.uart_judges.specs.declared.recording.entry.Happening.TheVariants.{Access, Arrive, Interrupt, Lines}

-- a read of offset 0: of the divisor while the latch is open, else of DATA; if that is not known, it may take a byte
abbrev pub data_read : (is_open : Option Bool) (answer : ℕ) → Action
data_read None answer = MayReceive
data_read (Some true) answer = ReadsDivisor
data_read (Some false) answer = Receives answer

-- a read of offset 1: of the divisor, or of IER; if that is not known, it shows neither
abbrev pub ier_read : (is_open : Option Bool) (answer : ℕ) → Action
ier_read None answer = Other
ier_read (Some true) answer = ReadsDivisor
ier_read (Some false) answer = ShowsInterrupts (record { 0 = answer })

-- a write of offset 0: to the low byte of the divisor, or to DATA; if that is not known, it may send a byte
abbrev pub data_written : (is_open : Option Bool) (value : ℕ) → Action
data_written None value = MaySend
data_written (Some true) value = SetsDivisorLow value
data_written (Some false) value = Sends value

-- a write of offset 1: to the high byte of the divisor, or to IER; if that is not known, it may disable interrupts
abbrev pub ier_written : (is_open : Option Bool) (value : ℕ) → Action
ier_written None value = MayEnable
ier_written (Some true) value = SetsDivisorHigh value
ier_written (Some false) value = EnablesInterrupts (record { 0 = value })

-- a read, while the divisor latch is open or not
abbrev pub read_action : (is_open : Option Bool) (offset answer : ℕ) → Action
read_action is_open offset answer =
    if offset == offsets.DATA then data_read is_open answer
    else if offset == offsets.IER then ier_read is_open answer
    else if offset == offsets.ISR then IdentifiesInterrupt (record { 0 = answer })
    else if offset == offsets.LCR then ReadsLine (record { 0 = answer })
    else if offset == offsets.MCR then ReadsModem (record { 0 = answer })
    else if offset == offsets.LSR then LooksAtLine (record { 0 = answer })
    else if offset == offsets.MSR then LooksAtModem (record { 0 = answer })
    else Other

-- a write, while the divisor latch is open or not
abbrev pub write_action : (is_open : Option Bool) (offset value : ℕ) → Action
write_action is_open offset value =
    if offset == offsets.DATA then data_written is_open value
    else if offset == offsets.IER then ier_written is_open value
    else if offset == offsets.FCR then ControlsFifo (record { 0 = value })
    else if offset == offsets.LCR then SetsLine (record { 0 = value })
    else if offset == offsets.MCR then SetsModem (record { 0 = value })
    else Other

-- what happens, while the divisor latch is open or not
abbrev pub action : (is_open : Option Bool) → Happening → Action
action is_open (Access (Read offset answer)) = read_action is_open offset answer
action is_open (Access (Write offset value)) = write_action is_open offset value
action is_open (Arrive byte errors) = Arrives byte errors
action is_open (Interrupt is_raised) = Other
action is_open (Lines inputs) = ChangesLines inputs
