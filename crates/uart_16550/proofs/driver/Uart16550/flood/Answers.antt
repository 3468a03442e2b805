use Rattle.uart_16550.proofs.Making.{made_none, made_times}
use Rattle.uart_16550.proofs.driver.Uart16550.flood.Goals as goal

pub loop-turn-init : goal.loop-turn-init
loop-turn-init g c = made_none

pub loop-turn-preserved : goal.loop-turn-preserved
loop-turn-preserved g c = made_times _ _ c.loop-turn.invariant c.write_byte.ensures
