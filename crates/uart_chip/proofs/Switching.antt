-- A chip switches the size of its FIFOs only if it has the switch, and only while DLAB is set. And it shows the size only if it has the
-- switch.
use Rattle.std.proofs.Common.{◌≡◌, ℕ, Bool, true, false, not, ◌&&◌, refl, ap, bit_or}
use Rattle.uart_spec.specs.Bits.{has_any, flag}
use Rattle.uart_spec.specs.declared.registers.fifo_control.TheConstants.FCR
use Rattle.uart_spec.specs.declared.registers.interrupt_status.TheConstants.ISR
use Rattle.uart_chip.specs.Chip.{ChipState, fifo_flags, is_dlab_set, is_same, is_64, is_switching}

pub closed-keeps : (value : ℕ) (c : ChipState) → is_dlab_set c.latches ≡ false → is_switching value c ≡ false
closed-keeps value c e =
    go c.has_size_switch (is_dlab_set c.latches) (is_same (is_64 c.receiver.size) (has_any value FCR.FIFO_64_ENABLE.0)) e
  where
    go : (has dlab keeps : Bool) → dlab ≡ false → (has && (dlab && not keeps)) ≡ false
    go true dlab keeps e = ap (λ (b : Bool). b && not keeps) e
    go false dlab keeps e = refl

pub lacking-keeps : (value : ℕ) (c : ChipState) → c.has_size_switch ≡ false → is_switching value c ≡ false
lacking-keeps value c e =
    let keeps = is_same (is_64 c.receiver.size) (has_any value FCR.FIFO_64_ENABLE.0) in
    ap (λ (b : Bool). b && (is_dlab_set c.latches && not keeps)) e

-- without the switch, ISR shows of the FIFOs only whether they are on
pub flags-lacking : (c : ChipState) → c.has_size_switch ≡ false → fifo_flags c ≡ flag c.fifo ISR.FIFOS_ENABLED.0
flags-lacking c e = go c.fifo c.has_size_switch (is_64 c.receiver.size) e
  where
    go : (fifo has holds_64 : Bool) → has ≡ false →
        bit_or (flag fifo ISR.FIFOS_ENABLED.0) (flag (fifo && (has && holds_64)) ISR.FIFO_64_ENABLED.0) ≡ flag fifo ISR.FIFOS_ENABLED.0
    go true has holds_64 e = rw e refl
    go false has holds_64 e = refl
