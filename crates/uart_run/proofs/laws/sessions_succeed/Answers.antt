use Rattle.uart_run.proofs.Unhindered.{calls_succeed, sessions_succeed}
use Rattle.uart_run.proofs.laws.sessions_succeed.Goals as goal

pub returns-clause-calls : goal.returns-clause-calls
returns-clause-calls c = calls_succeed

pub returns-clause-sessions : goal.returns-clause-sessions
returns-clause-sessions c = sessions_succeed
