-- The modem lines that MSR shows, and which of them changed.
use Rattle.std.specs.Prelude.{ℕ, Bool, not, ◌&&◌, ◌==◌, bit_and, bit_or}
use Rattle.uart_spec.specs.Bits.{has_any, flag}
use Rattle.uart_spec.specs.declared.registers.modem_status.TheConstants.MSR

-- the line with this mask differs between two readings
abbrev pub is_changed : (before now mask : ℕ) → Bool
is_changed before now mask = not (bit_and before mask == bit_and now mask)

-- the changes of the lines between two readings, as their bits in MSR: of RI only its trailing edge
abbrev pub line_changes : (before now : ℕ) → ℕ
line_changes before now =
    let cts = flag (is_changed before now MSR.CTS.0) MSR.DELTA_CTS.0 in
    let dsr = flag (is_changed before now MSR.DSR.0) MSR.DELTA_DSR.0 in
    let ri = flag (has_any before MSR.RI.0 && not (has_any now MSR.RI.0)) MSR.TRAILING_EDGE_RI.0 in
    let cd = flag (is_changed before now MSR.CD.0) MSR.DELTA_CD.0 in
    bit_or (bit_or cts dsr) (bit_or ri cd)
