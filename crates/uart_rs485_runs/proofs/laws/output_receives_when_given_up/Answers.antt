use Rattle.uart_rs485_runs.proofs.Holding.{given_up_receives}
use Rattle.uart_rs485_runs.proofs.laws.output_receives_when_given_up.Goals as goal

pub returns : goal.returns
returns c = given_up_receives
