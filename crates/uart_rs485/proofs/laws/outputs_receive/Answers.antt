use Rattle.uart_rs485.proofs.Turning.{outputs_receive}
use Rattle.uart_rs485.proofs.laws.outputs_receive.Goals as goal

pub returns : goal.returns
returns c = outputs_receive
