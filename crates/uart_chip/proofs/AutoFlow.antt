-- A chip without automatic flow control, and one in which it is off, never holds its transmitter off. And only accesses change which
-- chip has it: none does.
use Rattle.std.proofs.Common.{◌≡◌, ℕ, zero, suc, Bool, true, false, not, ◌&&◌, refl, ap}
use Rattle.uart_spec.specs.Bits.{has_any}
use Rattle.uart_spec.specs.declared.registers.modem_control.TheConstants.MCR
use Rattle.uart_spec.specs.declared.registers.modem_status.TheConstants.MSR
use Rattle.uart_chip.specs.Chip.{ChipState, is_auto_flow, is_held_off, ticks}

-- while it is off the transmitter goes on
pub off_goes_on : (c : ChipState) → is_auto_flow c ≡ false → is_held_off c ≡ false
off_goes_on c e = ap (λ (b : Bool). b && not (has_any c.modem.lines MSR.CTS.0)) e

-- a chip that has it not has it off
pub never_on : (c : ChipState) → c.auto_flow ≡ false → is_auto_flow c ≡ false
never_on c e = ap (λ (b : Bool). b && has_any c.latches.mcr MCR.AUTO_FLOW.0) e

pub never_held_off : (c : ChipState) → c.auto_flow ≡ false → is_held_off c ≡ false
never_held_off c e = off_goes_on c (never_on c e)

-- its bit clear, it is off
pub cleared_off : (c : ChipState) → has_any c.latches.mcr MCR.AUTO_FLOW.0 ≡ false → is_auto_flow c ≡ false
cleared_off c e = go c.auto_flow (has_any c.latches.mcr MCR.AUTO_FLOW.0) e
  where
    go : (a b : Bool) → b ≡ false → (a && b) ≡ false
    go true b e = e
    go false b e = refl

pub flow-ticks : (n : ℕ) (c : ChipState) → (ticks n c).auto_flow ≡ c.auto_flow
flow-ticks zero c = refl
flow-ticks (suc n) c = flow-ticks n c
