use Rattle.uart_latency.proofs.Sessions.{stays_enabled}
use Rattle.uart_latency.proofs.laws.data_ready_stays_enabled.Goals as goal

pub returns : goal.returns
returns c = stays_enabled
