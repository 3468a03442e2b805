use Rattle.std.proofs.Common.{arith}
use Rattle.uart_16550.proofs.Making.{made_none, made_then, made_few, made_times, made_among}
use Rattle.uart_16550.proofs.driver.Uart16550.drain_received.Goals as goal

pub loop-turn-init : goal.loop-turn-init
loop-turn-init g c = made_none

pub returns-in_default : goal.returns-in_default
returns-in_default g c = made_then (made_few _ _ (omega arith) c.loop-turn.invariant) c.in_default.ensures

pub loop-turn-preserved : goal.loop-turn-preserved
loop-turn-preserved g c = made_times _ _ c.loop-turn.invariant (made_among (λ l t. (_, t)) c.in-Ok.ensures)
