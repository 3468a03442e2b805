-- Masks of registers: what the chip keeps of a write. Offsets and bits are the constants of `uart_spec`.
use Rattle.std.specs.Prelude.{ℕ, ◌+◌, Bool, true, false, ◌&&◌, bit_and, bit_or}
use Rattle.uart_spec.specs.Bits.{has_any, flag}
use Rattle.uart_spec.specs.declared.registers.interrupt_enable.TheConstants.IER
use Rattle.uart_spec.specs.declared.registers.modem_control.TheConstants.MCR

-- what IER keeps: the four interrupts that the chip has
abbrev pub ier_bits : ℕ
ier_bits = IER.DATA_READY.0 + IER.THR_EMPTY.0 + IER.RECEIVER_LINE_STATUS.0 + IER.MODEM_STATUS.0

-- what MCR keeps: the four outputs and loopback
abbrev pub mcr_bits : ℕ
mcr_bits = MCR.DTR.0 + MCR.RTS.0 + MCR.OUT_1.0 + MCR.OUT_2_INT_ENABLE.0 + MCR.LOOP_BACK.0

-- what MCR can hold in a chip that has automatic flow control, or has not: its bit only if the chip has it
abbrev pub mcr_bits_of : (auto_flow : Bool) → ℕ
mcr_bits_of false = mcr_bits
mcr_bits_of true = mcr_bits + MCR.AUTO_FLOW.0

-- what MCR keeps of a write in such a chip
abbrev pub kept_mcr : (auto_flow : Bool) → ℕ → ℕ
kept_mcr auto_flow value =
    bit_or (bit_and value mcr_bits) (flag (has_any value MCR.AUTO_FLOW.0 && auto_flow) MCR.AUTO_FLOW.0)
