use Rattle.uart_judges.proofs.Read.{faultless}
use Rattle.uart_judges.proofs.traces.parsing.parse.Goals as goal

pub returns-clause-faultless : goal.returns-clause-faultless
returns-clause-faultless c xs t = faultless _ _ _ xs t
