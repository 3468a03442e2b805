use Rattle.uart_latency.proofs.Prompt.{prompt_drops_nothing}
use Rattle.uart_latency.proofs.laws.prompt_handlers_drop_nothing.Goals as goal

pub returns : goal.returns
returns c = prompt_drops_nothing
