use Rattle.std.proofs.Common.{◌∙◌, ap}
use Rattle.uart_16550.proofs.Doings.{did_made}
use Rattle.uart_ring.specs.Ring.{without_sent_bytes}
use Rattle.uart_ring.proofs.RingDoings.{ring_among}
use Rattle.uart_ring.proofs.Transfers.{pumped_so}
use Rattle.uart_ring.proofs.ring.Uart16550Ring.pump.Goals as goal

pub returns : goal.returns
returns g c =
    let sent = c.send_sendable-sent.ensures in
    let arms = c.arm_if_left.ensures in
    ring_among (λ l t. (_, t)) (pumped_so _ _ _ _ _ (c.drop_sent.ensures ∙ ap (without_sent_bytes _) sent.kept) (did_made sent.made)
    arms.made arms.kept)
