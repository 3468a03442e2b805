use Rattle.uart_judges_runs.proofs.Lost.{nothing_known}
use Rattle.uart_judges_runs.proofs.laws.any_piece_is_enough.Goals as goal

pub returns : goal.returns
returns c machine model = nothing_known machine.chip model
