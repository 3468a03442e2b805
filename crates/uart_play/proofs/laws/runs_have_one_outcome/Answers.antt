use Rattle.uart_play.proofs.OneOutcome.{runs_one}
use Rattle.uart_play.proofs.laws.runs_have_one_outcome.Goals as goal

pub returns : goal.returns
returns c = runs_one
