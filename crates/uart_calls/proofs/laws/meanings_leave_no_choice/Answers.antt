use Rattle.uart_calls.proofs.NoChoice.{meaning_leaves_no_choice}
use Rattle.uart_calls.proofs.laws.meanings_leave_no_choice.Goals as goal

pub returns : goal.returns
returns c call ok = meaning_leaves_no_choice call ok
