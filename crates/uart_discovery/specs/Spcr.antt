-- The ACPI table SPCR, by the offsets of its fields.
use Rattle.std.specs.Prelude.{◌≡◌, ◌≢◌, ℕ, ◌+◌, ◌<◌, ◌≤◌, ◌⊎◌, ◌==◌, ◌||◌, ◌&&◌, Bool, false, not, IsTrue, List}
use Rattle.std.specs.Prelude.{Option, Some, None, if◌then◌else◌, nat_le, nat_lt, slice_index, length, codes, bit_and}
use Rattle.uart_discovery.specs.declared.errors.TableError.{TableError}
use Rattle.uart_discovery.specs.declared.errors.TableFault.{TableFault}
use Rattle.uart_discovery.specs.declared.errors.TableFault.TheVariants as fault
use Rattle.uart_discovery.specs.declared.port.Interrupt.{Interrupt}
use Rattle.uart_discovery.specs.declared.port.Interrupt.TheVariants.{Isa, Global}
use Rattle.uart_discovery.specs.declared.port.PortDescription.{PortDescription}
use Rattle.uart_discovery.specs.Acpi.{SaysAddress, IsHeaderFaultAt, IsAddressFaultAt, table_of}
use Rattle.uart_discovery.specs.Bytes.{le32}

-- the signature of the table
abbrev pub SPCR : List ℕ
SPCR = codes "SPCR"

-- the interfaces that are those of a 16550
abbrev pub is_16550 : ℕ → Bool
is_16550 interface = interface == 0 || interface == 1 || interface == 18

-- the baud rate of each number: 0 says none, and the numbers that are not here have no meaning
abbrev pub rate_of_code : ℕ → Option (Option ℕ)
rate_of_code code =
    if code == 0 then Some None
    else if code == 3 then Some (Some 9600)
    else if code == 4 then Some (Some 19200)
    else if code == 6 then Some (Some 57600)
    else if code == 7 then Some (Some 115200)
    else None

-- the precise baud rate, which revision 4 has; 0 is none
abbrev pub precise_rate : List ℕ → ℕ
precise_rate table = if nat_le 4 (slice_index table 8) && nat_le 84 (length table) then le32 table 80 else 0

-- the baud rate that the table says, unless the number for it has no meaning
abbrev pub rate_of : List ℕ → Option (Option ℕ)
rate_of table =
    if precise_rate table == 0 then rate_of_code (slice_index table 58) else Some (Some (precise_rate table))

-- the frequency of the clock, which the revisions from 3 on have; 0 is none
abbrev pub clock_of : List ℕ → Option ℕ
clock_of table = if nat_lt (slice_index table 8) 3 || le32 table 76 == 0 then None else Some (le32 table 76)

-- the interrupt: bit 0 of the type says that the 8259 has a line for it, bits 1 to 4 that there is a global one
abbrev pub interrupt_of : List ℕ → Option Interrupt
interrupt_of table =
    if bit_and (slice_index table 52) 30 == 0
    then (if bit_and (slice_index table 52) 1 == 0 then None else Some (Isa (slice_index table 53)))
    else Some (Global (le32 table 54))

-- whether RTS and CTS control the flow, which is bit 1 of the flow control
abbrev pub has_flow_control : List ℕ → Bool
has_flow_control table = not (bit_and (slice_index table 61) 2 == 0)

-- the table says that there is this port
pub record SaysPort (table : List ℕ) (port : PortDescription) : Type 0 where
  pub interface : IsTrue (is_16550 (slice_index table 36))
  pub address : SaysAddress table 40 port.space port.base port.layout
  pub clock : port.clock ≡ clock_of table
  pub baud_rate : rate_of table ≡ Some port.baud_rate
  pub frame : port.frame ≡ None
  pub has_flow_control : port.has_flow_control ≡ has_flow_control table
  pub interrupt : port.interrupt ≡ interrupt_of table

-- what is wrong with the table
abbrev pub IsFieldFaultAt : (table : List ℕ) (offset : ℕ) → TableFault → Type 0
IsFieldFaultAt table offset fault.TooShort = (length table < 80) × (offset ≡ length table)
IsFieldFaultAt table offset (fault.Interface interface) =
    (interface ≡ slice_index table 36) × (is_16550 interface ≡ false) × (offset ≡ 36)
IsFieldFaultAt table offset (fault.BaudRate code) =
    (code ≡ slice_index table 58) × (rate_of table ≡ None) × (offset ≡ 58)
IsFieldFaultAt table offset cause = IsAddressFaultAt table 40 offset cause

-- an error about the table, and about the bytes before it was known to be one
abbrev pub IsFault : List ℕ → TableError → Type 0
IsFault bytes error =
    IsHeaderFaultAt SPCR bytes error.offset error.fault ⊎ IsFieldFaultAt (table_of bytes) error.offset error.fault
