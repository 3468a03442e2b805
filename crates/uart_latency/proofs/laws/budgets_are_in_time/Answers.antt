use Rattle.uart_latency.proofs.Budget.{in_time}
use Rattle.uart_latency.proofs.laws.budgets_are_in_time.Goals as goal

pub returns : goal.returns
returns c = in_time
