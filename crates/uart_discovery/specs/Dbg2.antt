-- The ACPI table DBG2, by the offsets of its fields.
use Rattle.std.specs.Prelude.{◌≡◌, ℕ, ◌+◌, ◌<◌, ◌≤◌, IsTrue, List, None, false, slice_index, length, codes}
use Rattle.uart_discovery.specs.declared.port.PortDescription.{PortDescription}
use Rattle.uart_discovery.specs.Acpi.{SaysAddress}
use Rattle.uart_discovery.specs.Bytes.{le16}
use Rattle.uart_discovery.specs.Spcr.{is_16550}

-- the signature of the table
abbrev pub DBG2 : List ℕ
DBG2 = codes "DBG2"

-- the device at this offset of the table is this port
pub record SaysDevice (table : List ℕ) (at : ℕ) (port : PortDescription) : Type 0 where
  pub whole : at + 22 ≤ length table
  pub serial : le16 table (at + 12) ≡ 0x8000
  pub interface : IsTrue (is_16550 (le16 table (at + 14)))
  pub addresses : 0 < slice_index table (at + 3)
  pub address : SaysAddress table (at + le16 table (at + 18)) port.space port.base port.layout
  pub clock : port.clock ≡ None
  pub baud_rate : port.baud_rate ≡ None
  pub frame : port.frame ≡ None
  pub has_flow_control : port.has_flow_control ≡ false
  pub interrupt : port.interrupt ≡ None

-- a device of the table is this port
abbrev pub SaysPort : (table : List ℕ) → PortDescription → Type 0
SaysPort table port = (at : ℕ) × SaysDevice table at port
