use Rattle.uart_ring_runs.proofs.OwnSessions.{own_conserves}
use Rattle.uart_ring_runs.proofs.laws.own_sessions_conserve.Goals as goal

pub returns : goal.returns
returns c = own_conserves
