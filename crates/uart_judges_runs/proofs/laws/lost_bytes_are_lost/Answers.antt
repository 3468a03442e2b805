use Rattle.uart_judges_runs.proofs.Lost.{right}
use Rattle.uart_judges_runs.proofs.laws.lost_bytes_are_lost.Goals as goal

pub returns : goal.returns
returns c past entries left machine sound leave knows = right past entries left machine sound leave knows
