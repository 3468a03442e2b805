use Rattle.uart_latency.proofs.Sessions.{timely_drops_nothing}
use Rattle.uart_latency.proofs.laws.timely_handlers_drop_nothing.Goals as goal

pub returns : goal.returns
returns c = timely_drops_nothing
