use Rattle.uart_ring.proofs.Arming.{harmless_armed}
use Rattle.uart_ring.proofs.laws.other_accesses_leave_armed.Goals as goal

pub returns : goal.returns
returns c = harmless_armed
