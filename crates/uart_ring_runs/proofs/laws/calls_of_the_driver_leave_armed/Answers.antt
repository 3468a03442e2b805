use Rattle.uart_ring_runs.proofs.RingArming.{driver_leaves}
use Rattle.uart_ring_runs.proofs.laws.calls_of_the_driver_leave_armed.Goals as goal

pub returns : goal.returns
returns c = λ call answer s t ready leaves called armed. driver_leaves s t call answer ready leaves called armed
