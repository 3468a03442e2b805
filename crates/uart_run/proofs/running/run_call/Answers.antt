use Rattle.uart_run.proofs.Runs.{step_performed}
use Rattle.uart_run.proofs.running.run_call.Goals as goal

pub returns-in_default : goal.returns-in_default
returns-in_default c = step_performed _ _ _ _ c.in_default.not-Next c.perform.ensures
