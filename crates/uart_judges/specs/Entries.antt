-- What was seen at the port of a chip.
use Rattle.std.specs.Prelude.{◌<◌, ⊤}
use Rattle.uart_spec.specs.declared.access.Access.{Access as RegisterAccess}
use Rattle.uart_spec.specs.declared.access.Access.TheVariants.{Read, Write}
use Rattle.uart_spec.specs.Bits.{IsWithin}
use Rattle.uart_judges.specs.declared.recording.entry.Entry.{Entry}
use Rattle.uart_judges.specs.declared.recording.entry.Happening.{Happening}
use Rattle.uart_judges.specs.declared.recording.entry.Happening.TheVariants.{Access, Arrive, Interrupt, Lines}
use Rattle.uart_spec.specs.declared.baud.TheConstants.{NUM_REGISTERS}
use Rattle.uart_spec.specs.declared.registers.line_status.TheConstants.LSR
use Rattle.uart_spec.specs.declared.registers.modem_status.TheConstants.MSR

-- the access is to one of the eight registers
abbrev pub IsOfARegister : RegisterAccess → Type 0
IsOfARegister (Read offset answer) = offset < NUM_REGISTERS
IsOfARegister (Write offset value) = offset < NUM_REGISTERS

-- a chip can do this: the register exists, a character's errors are those of a character, the lines are modem inputs
abbrev pub IsHappening : Happening → Type 0
IsHappening (Access access) = IsOfARegister access
IsHappening (Arrive byte errors) = IsWithin errors.0 LSR.CHARACTER_ERRORS.0
IsHappening (Interrupt is_raised) = ⊤
IsHappening (Lines inputs) = IsWithin inputs.0 MSR.LINES.0

-- a chip can do what happens at this entry
abbrev pub IsEntry : Entry → Type 0
IsEntry entry = IsHappening entry.happening
