-- The modem lines, and which of them changed since MSR was read.
use Rattle.std.specs.Prelude.{ℕ, bit_or, if◌then◌else◌}
use Rattle.uart_spec.specs.Bits.{has_any, flag}
use Rattle.uart_spec.specs.Lines.{line_changes}
use Rattle.uart_spec.specs.declared.registers.modem_control.TheConstants.MCR
use Rattle.uart_spec.specs.declared.registers.modem_status.TheConstants.MSR

-- the inputs of the modem, the lines that MSR shows, and their changes since MSR was last read
pub record ModemState : Type 0 where
  pub inputs : ℕ
  pub lines : ℕ
  pub deltas : ℕ

-- all lines are clear, and none has changed
abbrev pub fresh : ModemState
fresh = record { inputs = 0; lines = 0; deltas = 0 }

-- in loopback the outputs replace the inputs: CTS from RTS, DSR from DTR, RI from OUT1, CD from OUT2
abbrev pub looped_lines : ℕ → ℕ
looped_lines mcr =
    let cts = flag (has_any mcr MCR.RTS.0) MSR.CTS.0 in
    let dsr = flag (has_any mcr MCR.DTR.0) MSR.DSR.0 in
    let ri = flag (has_any mcr MCR.OUT_1.0) MSR.RI.0 in
    let cd = flag (has_any mcr MCR.OUT_2_INT_ENABLE.0) MSR.CD.0 in
    bit_or (bit_or cts dsr) (bit_or ri cd)

-- the lines under this value of MCR
abbrev pub lines_under : ℕ → ℕ → ℕ
lines_under mcr inputs = if has_any mcr MCR.LOOP_BACK.0 then looped_lines mcr else inputs

-- the lines are computed anew under this modem control register, and their changes are noted
abbrev pub renew : ℕ → ModemState → ModemState
renew mcr m =
    record m {
      lines = lines_under mcr m.inputs;
      deltas = bit_or m.deltas (line_changes m.lines (lines_under mcr m.inputs));
    }
