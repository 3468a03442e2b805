use Rattle.uart_judges_runs.proofs.Unfounded.{unfounded_call}
use Rattle.uart_judges_runs.proofs.laws.warned_calls_have_a_cause.Goals as goal

pub returns : goal.returns
returns c causes line call before after accesses answer past entries steady asks set list taken shown knows knows_for is =
    unfounded_call causes line call before after accesses answer past entries steady asks set list taken shown knows knows_for is
