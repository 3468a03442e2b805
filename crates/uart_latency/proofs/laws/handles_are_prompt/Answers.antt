use Rattle.uart_latency.proofs.Prompt.{handles}
use Rattle.uart_latency.proofs.laws.handles_are_prompt.Goals as goal

pub returns : goal.returns
returns c = handles
