use Rattle.uart_play.proofs.OneOutcome.{outputs_one}
use Rattle.uart_play.proofs.laws.scripts_have_one_output.Goals as goal

pub returns : goal.returns
returns c = outputs_one
