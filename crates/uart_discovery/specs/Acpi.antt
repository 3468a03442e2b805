-- Tables of ACPI, by the offsets of their fields.
use Rattle.std.specs.Prelude.{◌≡◌, ◌≢◌, ℕ, ◌+◌, ◌<◌, ◌≤◌, ◌⊎◌, ⊤, List, slice_index, length, take}
use Rattle.uart_spec.specs.declared.layout.ByteOrder.TheVariants.{Little}
use Rattle.uart_spec.specs.declared.layout.RegisterLayout.{RegisterLayout}
use Rattle.uart_spec.specs.declared.layout.RegisterWidth.{RegisterWidth}
use Rattle.uart_spec.specs.declared.layout.RegisterWidth.TheVariants.{Bits8, Bits16, Bits32}
use Rattle.uart_spec.specs.Layout.{bytes_of}
use Rattle.uart_discovery.specs.declared.errors.TableError.{TableError}
use Rattle.uart_discovery.specs.declared.errors.TableFault.{TableFault}
use Rattle.uart_discovery.specs.declared.errors.TableFault.TheVariants as fault
use Rattle.uart_discovery.specs.declared.port.AddressSpace.{AddressSpace}
use Rattle.uart_discovery.specs.declared.port.AddressSpace.TheVariants.{Memory, Ports}
use Rattle.uart_discovery.specs.Bytes.{le32, le64, checksum}

-- the bytes of a table, as many as its length says
abbrev pub table_of : List ℕ → List ℕ
table_of bytes = take (le32 bytes 4) bytes

-- bytes begin with a whole table that has this signature, and whose bytes have the sum 0
pub record IsTable (signature bytes : List ℕ) : Type 0 where
  pub signed : take 4 bytes ≡ signature
  pub whole : le32 bytes 4 ≤ length bytes
  pub header : 36 ≤ le32 bytes 4
  pub summed : checksum (table_of bytes) ≡ 0

-- what is wrong with the header of a table, or with the sum of its bytes
abbrev pub IsHeaderFaultAt : (signature bytes : List ℕ) (offset : ℕ) → TableFault → Type 0
IsHeaderFaultAt signature bytes offset fault.TooShort = (length bytes < 36) × (offset ≡ length bytes)
IsHeaderFaultAt signature bytes offset fault.Signature = (take 4 bytes ≢ signature) × (offset ≡ 0)
IsHeaderFaultAt signature bytes offset fault.Length =
    ((le32 bytes 4 < 36) ⊎ (length bytes < le32 bytes 4)) × (offset ≡ 4)
IsHeaderFaultAt signature bytes offset (fault.Checksum sum) =
    (sum ≡ checksum (table_of bytes)) × (sum ≢ 0) × (offset ≡ 9)
IsHeaderFaultAt signature bytes offset _ = ⊥

-- an error about the header of a table, or about the sum of its bytes
abbrev pub IsHeaderFault : (signature bytes : List ℕ) → TableError → Type 0
IsHeaderFault signature bytes error = IsHeaderFaultAt signature bytes error.offset error.fault

-- the number of an address space in a Generic Address Structure
abbrev pub space_number : AddressSpace → ℕ
space_number Memory = 0
space_number Ports = 1

-- an access of this number has this width: 0 is left open, which everybody reads as bytes
abbrev pub IsAccessSize : ℕ → RegisterWidth → Type 0
IsAccessSize size Bits8 = size ≤ 1
IsAccessSize size Bits16 = size ≡ 2
IsAccessSize size Bits32 = size ≡ 3

-- how registers lie: bytes side by side at I/O ports; in memory as far apart as an access is wide
abbrev pub LiesSo : (size : ℕ) → AddressSpace → RegisterLayout → Type 0
LiesSo size Ports layout = (layout.width ≡ Bits8) × (layout.stride ≡ 1) × (layout.byte_order ≡ Little)
LiesSo size Memory layout =
    IsAccessSize size layout.width × (layout.stride ≡ bytes_of layout.width) × (layout.byte_order ≡ Little)

-- eight registers at I/O ports begin at most here
abbrev pub FitsPorts : AddressSpace → ℕ → Type 0
FitsPorts Ports base = base ≤ 65528
FitsPorts Memory base = ⊤

-- the Generic Address Structure at this offset says where registers are, and how they lie
pub record SaysAddress (table : List ℕ) (at : ℕ) (space : AddressSpace) (base : ℕ) (layout : RegisterLayout)
    : Type 0 where
  pub space_id : slice_index table at ≡ space_number space
  pub bit_offset : slice_index table (at + 2) ≡ 0
  pub access : LiesSo (slice_index table (at + 3)) space layout
  pub address : base ≡ le64 table (at + 4)
  pub there : 0 < base
  pub fits : FitsPorts space base

-- what is wrong with the Generic Address Structure at this offset
abbrev pub IsAddressFaultAt : (table : List ℕ) (at offset : ℕ) → TableFault → Type 0
IsAddressFaultAt table at offset (fault.Space space) = (space ≡ slice_index table at) × (1 < space) × (offset ≡ at)
IsAddressFaultAt table at offset (fault.BitOffset bit) =
    (bit ≡ slice_index table (at + 2)) × (0 < bit) × (offset ≡ at + 2)
IsAddressFaultAt table at offset (fault.AccessSize size) =
    (size ≡ slice_index table (at + 3)) × (3 < size) × (slice_index table at ≡ 0) × (offset ≡ at + 3)
IsAddressFaultAt table at offset fault.NoAddress = (le64 table (at + 4) ≡ 0) × (offset ≡ at + 4)
IsAddressFaultAt table at offset (fault.BeyondPorts base) =
    (base ≡ le64 table (at + 4)) × (65528 < base) × (slice_index table at ≡ 1) × (offset ≡ at + 4)
IsAddressFaultAt table at offset _ = ⊥

-- an error about the Generic Address Structure at this offset
abbrev pub IsAddressFault : (table : List ℕ) (at : ℕ) → TableError → Type 0
IsAddressFault table at error = IsAddressFaultAt table at error.offset error.fault
