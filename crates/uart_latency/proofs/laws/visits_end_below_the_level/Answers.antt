use Rattle.uart_latency.proofs.Visits.{visit_ends}
use Rattle.uart_latency.proofs.laws.visits_end_below_the_level.Goals as goal

pub returns : goal.returns
returns c = visit_ends
