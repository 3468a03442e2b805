use Rattle.std.proofs.Common.{arith}
use Rattle.uart_16550.proofs.Making.{made_none, made_among, made_then, made_few, made_times}
use Rattle.uart_16550.proofs.driver.Uart16550.wait_to_send.Goals as goal

pub loop-check-init : goal.loop-check-init
loop-check-init g c = made_none

pub returns-in-Ok : goal.returns-in-Ok
returns-in-Ok g c = made_then (made_few _ _ (omega arith) c.loop-check.invariant) c.in-Ok.ensures

pub loop-check-preserved : goal.loop-check-preserved
loop-check-preserved g c =
    made_times _ _ c.loop-check.invariant (made_among (λ l t. (c.in_default.field-0, t)) c.in_default.ensures)
