use Rattle.uart_waits.proofs.Marks.{leaves_none_behind, marks_tell, next_serves}
use Rattle.uart_waits.proofs.laws.no_handler_is_forgotten.Goals as goal

pub returns : goal.returns
returns c = record { marks = marks_tell; none_behind = leaves_none_behind; next_serves = next_serves }
