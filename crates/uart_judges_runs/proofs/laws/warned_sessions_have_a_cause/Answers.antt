use Rattle.uart_judges_runs.proofs.Unfounded.{causeless_recording}
use Rattle.uart_judges_runs.proofs.UnfoundedSessions.{unfounded_session}
use Rattle.uart_judges_runs.proofs.laws.warned_sessions_have_a_cause.Goals as goal

pub returns : goal.returns
returns c = record {
  caused = λ causes calls fields accesses old new past entries gives session knows knows_for is.
      unfounded_session causes calls fields accesses old new past entries gives session knows knows_for is;
  none = λ causes calls fields accesses old new past entries nothing gives session knows knows_for is.
      causeless_recording fields.size causes past entries nothing
      (unfounded_session causes calls fields accesses old new past entries gives session knows knows_for is);
}
