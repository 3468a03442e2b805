use Rattle.uart_16550.proofs.Doings.{did_among}
use Rattle.uart_ring.proofs.Transfers.{arms_none, arms_some}
use Rattle.uart_ring.proofs.ring.Uart16550Ring.arm_if_left.Goals as goal

pub returns-then-has_sendable-clause-made : goal.returns-then-has_sendable-clause-made
returns-then-has_sendable-clause-made g c = did_among (arms_some _ c.if-has_sendable.ensures) c.enable_interrupts.ensures

pub returns-else-has_sendable-clause-made : goal.returns-else-has_sendable-clause-made
returns-else-has_sendable-clause-made g c = did_among (arms_none _ c.if-has_sendable.ensures) c.disable_interrupts.ensures
