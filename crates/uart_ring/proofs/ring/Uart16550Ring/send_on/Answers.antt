use Rattle.std.proofs.Common.{◌∙◌, ap}
use Rattle.uart_16550.proofs.Doings.{did_made}
use Rattle.uart_ring.specs.Ring.{without_sent_bytes}
use Rattle.uart_ring.proofs.RingDoings.{ring_among}
use Rattle.uart_ring.proofs.Transfers.{pumped_so, some_sent}
use Rattle.uart_ring.proofs.ring.Uart16550Ring.send_on.Goals as goal

pub returns-then-burst-gt0 : goal.returns-then-burst-gt0
returns-then-burst-gt0 g c =
    let burst = c.send_sendable-burst.ensures in
    let arms = c.arm_if_left.ensures in
    ring_among (λ l t. (_, some_sent _ c.if-burst-gt0.true _ l _ t))
    (pumped_so _ _ _ _ _ (c.drop_sent.ensures ∙ ap (without_sent_bytes _) burst.kept) (did_made burst.made) arms.made arms.kept)
