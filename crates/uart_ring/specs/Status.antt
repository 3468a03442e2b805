-- Line errors and changes of the modem lines: noted when their interrupts are served, and taken by the caller. And all
-- registers at once.
use Rattle.std.specs.Prelude.{◌≡◌, ℕ, bit_and, bit_or}
use Rattle.uart_spec.specs.declared.registers.line_status.TheConstants.LSR
use Rattle.uart_spec.specs.declared.registers.modem_status.TheConstants.MSR
use Rattle.uart_spec.specs.declared.dump.ConfigRegisterDump.{ConfigRegisterDump}
use Rattle.uart_16550.specs.Status.{TakesLsr, TakesMsr, Dumps}
use Rattle.uart_ring.specs.Ring.{RingDoing, OnDriver, RingNext, unchanged, with_line, with_modem}
use Rattle.uart_ring.specs.Transmit.{ResumesTransmit}

-- `lsr`, of which the line errors are noted
abbrev pub NotesLine : (status : ℕ) → RingDoing
NotesLine status f l after =
    OnDriver (TakesLsr status) (with_line (bit_or f.line (bit_and status LSR.LINE_ERRORS.0))) f l after

-- `msr`, of which the changes are noted
abbrev pub NotesModem : RingDoing
NotesModem f l after =
    (status : ℕ) × OnDriver (TakesMsr status) (with_modem (bit_or f.modem (bit_and status MSR.CHANGES.0))) f l after

-- `take_line`: `lsr`, joined with what was noted, after which nothing is noted
abbrev pub TakesLine : ℕ → RingDoing
TakesLine result f l after =
    (status : ℕ) × (result ≡ bit_or status f.line) × OnDriver (TakesLsr status) (with_line 0) f l after

-- `take_modem`: `msr`, joined with what was noted, after which nothing is noted
abbrev pub TakesModem : ℕ → RingDoing
TakesModem result f l after =
    (status : ℕ) × (result ≡ bit_or status f.modem) × OnDriver (TakesMsr status) (with_modem 0) f l after

-- `config_register_dump`: the dump of the driver, whose read of ISR may acknowledge THR_EMPTY; and then sending resumes
abbrev pub DumpsRegisters : ConfigRegisterDump → RingDoing
DumpsRegisters dump f l after = RingNext (OnDriver (Dumps dump) unchanged) ResumesTransmit f l after
