use Rattle.uart_latency.proofs.Quick.{quick_prompt}
use Rattle.uart_latency.proofs.laws.quick_visits_are_prompt.Goals as goal

pub returns : goal.returns
returns c = quick_prompt
