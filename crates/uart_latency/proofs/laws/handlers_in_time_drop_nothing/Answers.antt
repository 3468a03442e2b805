use Rattle.uart_latency.proofs.Arriving.{drops_nothing}
use Rattle.uart_latency.proofs.laws.handlers_in_time_drop_nothing.Goals as goal

pub returns : goal.returns
returns c = drops_nothing
