use Rattle.std.proofs.Common.{◌≡◌, arith}
use Rattle.uart_ring.proofs.Queues.{put_at, put_none}
use Rattle.uart_ring.proofs.queue.copy.Goals as goal

pub returns-then-count-gt0-clause-copied : goal.returns-then-count-gt0-clause-copied
returns-then-count-gt0-clause-copied c =
    put_at c.args.place c.min-count.result c.args.slots.now _ c.args.bytes.now c.copy_from_slice.ensures.after

pub returns-else-count-gt0-clause-copied : goal.returns-else-count-gt0-clause-copied
returns-else-count-gt0-clause-copied c =
    let none : c.min-count.result ≡ 0 = omega arith in
    put_none c.args.place c.min-count.result c.args.slots.now c.args.bytes.now none
