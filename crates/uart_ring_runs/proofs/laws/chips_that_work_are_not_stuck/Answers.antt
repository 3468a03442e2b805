use Rattle.uart_ring_runs.proofs.Unmoved.{counted_left, stuck_left}
use Rattle.uart_ring_runs.proofs.laws.chips_that_work_are_not_stuck.Goals as goal

pub returns : goal.returns
returns c = record { counted = counted_left; stuck = stuck_left }
