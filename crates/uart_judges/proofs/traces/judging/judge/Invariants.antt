use Rattle.std.proofs.Common.{length}
use Rattle.std.specs.Int.NonZero.{non_zero_u64_get}
use Rattle.uart_16550.specs.State.{fields_of, fresh_fields}
use Rattle.uart_judges.specs.Traces.{new_driver}
use Rattle.uart_judges.proofs.Judged.{LeavesOpen}
use Rattle.uart_judges.proofs.traces.judging.judge.Given as goal

abbrev pub invariant-loop-exchange : goal.invariant-loop-exchange
invariant-loop-exchange l =
    LeavesOpen (new_driver (non_zero_u64_get l.limit) l.fifo_size) fresh_fields l.trace (fields_of l.state) l.left

abbrev pub decreases-loop-exchange : goal.decreases-loop-exchange
decreases-loop-exchange l = length l.left
