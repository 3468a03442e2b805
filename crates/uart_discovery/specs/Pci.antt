-- The header of the configuration of a PCI function, by the offsets of its fields.
use Rattle.std.specs.Prelude.{◌≡◌, ◌≢◌, ℕ, ◌+◌, ◌*◌, ◌-◌, ◌%◌, ◌^◌, ◌<◌, ◌≤◌, ◌⊎◌, ◌==◌, ◌&&◌, false, List}
use Rattle.std.specs.Prelude.{Option, Some, None, if◌then◌else◌, slice_index, length}
use Rattle.uart_spec.specs.declared.layout.ByteOrder.TheVariants.{Little}
use Rattle.uart_spec.specs.declared.layout.RegisterWidth.TheVariants.{Bits8}
use Rattle.uart_discovery.specs.declared.errors.PciError.{PciError}
use Rattle.uart_discovery.specs.declared.errors.PciError.TheVariants as wrong
use Rattle.uart_discovery.specs.declared.pci.Card.{Card}
use Rattle.uart_discovery.specs.declared.port.AddressSpace.{AddressSpace}
use Rattle.uart_discovery.specs.declared.port.AddressSpace.TheVariants.{Memory, Ports}
use Rattle.uart_discovery.specs.declared.port.Interrupt.{Interrupt}
use Rattle.uart_discovery.specs.declared.port.Interrupt.TheVariants.{Pin}
use Rattle.uart_discovery.specs.declared.port.PortDescription.{PortDescription}
use Rattle.uart_discovery.specs.Bytes.{le16, le32}

-- the class, the subclass and the interface as one number
abbrev pub class_of : List ℕ → ℕ
class_of header = slice_index header 11 * 0x1_0000 + slice_index header 10 * 0x100 + slice_index header 9

-- a card whose ports are eight addresses apart, with the clock of a PC's
abbrev pub known : (ports first : ℕ) → Card
known ports first = record { ports = ports; first = first; apart = 8; clock = Some 1843200 }

-- what is known of a function, by its vendor and its device
abbrev pub card_of : (vendor device : ℕ) → Card
card_of vendor device =
    if vendor == 0x1b36 && device == 0x0002 then known 1 0
    else if vendor == 0x1b36 && device == 0x0003 then known 2 0
    else if vendor == 0x1b36 && device == 0x0004 then known 4 0
    else if vendor == 0x1c00 && device == 0x3250 then known 2 0xc0
    else if vendor == 0x1c00 && device == 0x3253 then known 2 0xc0
    else if vendor == 0x1c00 && device == 0x3470 then known 4 0xc0
    else record { ports = 1; first = 0; apart = 8; clock = None }

-- the first base address register
abbrev pub bar : List ℕ → ℕ
bar header = le32 header 0x10

-- the lowest bits of that say where the registers are: at I/O ports, in memory below 4 GiB, or anywhere in memory
abbrev pub IsKind : List ℕ → AddressSpace → Type 0
IsKind header Ports = bar header % 4 ≡ 1
IsKind header Memory = (bar header % 8 ≡ 0) ⊎ (bar header % 8 ≡ 4)

-- the function's first address: the others are in that register, and anywhere in memory also in the next one
abbrev pub base_in : List ℕ → AddressSpace → ℕ
base_in header Ports = bar header - bar header % 4
base_in header Memory =
    (if bar header % 8 == 4 then le32 header 0x14 * 0x1_0000_0000 else 0) + (bar header - bar header % 16)

-- the last address at which eight registers can begin
abbrev pub last_base : AddressSpace → ℕ
last_base Ports = 0xfff8
last_base Memory = 0xffff_ffff_ffff_fff8

-- the pin by which the function interrupts; 0 is none
abbrev pub pin_of : List ℕ → Option Interrupt
pin_of header = if slice_index header 0x3d == 0 then None else Some (Pin (slice_index header 0x3d))

-- the card of the header
abbrev pub card_in : List ℕ → Card
card_in header = card_of (le16 header 0) (le16 header 2)

-- how far the registers of a port are from the function's first address
abbrev pub distance : List ℕ → (port : ℕ) → ℕ
distance header port = (card_in header).first + (card_in header).apart * port

-- the header says that there is this port
pub record SaysPort (header : List ℕ) (port : ℕ) (found : PortDescription) : Type 0 where
  pub whole : 64 ≤ length header
  pub device : slice_index header 0x0e % 0x80 ≡ 0
  pub class_from : 0x07_0002 ≤ class_of header
  pub class_to : class_of header ≤ 0x07_0006
  pub numbered : port < (card_in header).ports
  pub kind : IsKind header found.space
  pub base : found.base ≡ base_in header found.space + distance header port
  pub there : 0 < base_in header found.space
  pub fits : found.base ≤ last_base found.space
  pub stride : found.layout.stride ≡ 1
  pub width : found.layout.width ≡ Bits8
  pub byte_order : found.layout.byte_order ≡ Little
  pub clock : found.clock ≡ (card_in header).clock
  pub baud_rate : found.baud_rate ≡ None
  pub frame : found.frame ≡ None
  pub has_flow_control : found.has_flow_control ≡ false
  pub interrupt : found.interrupt ≡ pin_of header

-- what is wrong with the base address
abbrev pub IsBaseFault : List ℕ → PciError → Type 0
IsBaseFault header (wrong.BaseKind found) =
    (found ≡ bar header) × (bar header % 4 ≢ 1) × (bar header % 8 ≢ 0) × (bar header % 8 ≢ 4)
IsBaseFault header wrong.NoAddress =
    (IsKind header Ports × (base_in header Ports ≡ 0)) ⊎ (IsKind header Memory × (base_in header Memory ≡ 0))
IsBaseFault header _ = ⊥

-- what is wrong with the header
abbrev pub IsFault : List ℕ → (port : ℕ) → PciError → Type 0
IsFault header port wrong.TooShort = length header < 64
IsFault header port (wrong.HeaderKind kind) = (kind ≡ slice_index header 0x0e % 0x80) × (0 < kind)
IsFault header port (wrong.Class class) =
    (class ≡ class_of header) × ((class < 0x07_0002) ⊎ (0x07_0006 < class))
IsFault header port (wrong.Port number) = (number ≡ port) × ((card_in header).ports ≤ port)
IsFault header port (wrong.BeyondAddresses base) =
    (IsKind header Ports × (base ≡ base_in header Ports) × (last_base Ports < base + distance header port))
    ⊎ (IsKind header Memory × (base ≡ base_in header Memory) × (last_base Memory < base + distance header port))
IsFault header port error = IsBaseFault header error
