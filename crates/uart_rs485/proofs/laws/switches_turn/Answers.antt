use Rattle.uart_rs485.proofs.Turning.{switches_turn}
use Rattle.uart_rs485.proofs.laws.switches_turn.Goals as goal

pub returns : goal.returns
returns c = switches_turn
