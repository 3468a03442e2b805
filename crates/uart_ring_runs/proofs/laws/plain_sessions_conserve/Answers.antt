use Rattle.uart_ring_runs.proofs.RingPlain.{plain_conserves, empty_are_untold}
use Rattle.uart_ring_runs.proofs.laws.plain_sessions_conserve.Goals as goal

pub returns : goal.returns
returns c = record { session = plain_conserves; made = empty_are_untold }
