use Rattle.uart_latency.proofs.Visiting.{visits}
use Rattle.uart_latency.proofs.laws.visits_that_read_all_are_prompt.Goals as goal

pub returns : goal.returns
returns c = visits
