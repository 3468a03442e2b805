use Rattle.uart_ring_runs.proofs.RingUnhindered.{ring_calls_succeed, ring_sessions_succeed}
use Rattle.uart_ring_runs.proofs.laws.ring_sessions_succeed.Goals as goal

pub returns-clause-calls : goal.returns-clause-calls
returns-clause-calls c = ring_calls_succeed

pub returns-clause-sessions : goal.returns-clause-sessions
returns-clause-sessions c = ring_sessions_succeed
