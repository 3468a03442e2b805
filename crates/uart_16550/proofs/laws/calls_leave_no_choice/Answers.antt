use Rattle.uart_16550.proofs.determined.Calls.{saving_leaves_no_choice, changing_leaves_no_choice}
use Rattle.uart_16550.proofs.laws.calls_leave_no_choice.Goals as goal

pub returns : goal.returns
returns c = record { saving = saving_leaves_no_choice; changing = changing_leaves_no_choice }
