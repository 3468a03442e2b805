use Rattle.std.proofs.Common.{◌∙◌, ap}
use Rattle.uart_ring.specs.Queue.{queue}
use Rattle.uart_ring.proofs.Queues.{pushed}
use Rattle.uart_ring.proofs.queue.ByteQueue.push_last.Goals as goal

pub returns : goal.returns
returns c =
    let q = c.args.self.now in
    let kept = c.drop_front.ensures in
    let count = rw kept at c.fill_from_slice.ensures.count in
    let items = rw kept at c.fill_from_slice.ensures.items in
    items ∙ ap (λ xs. queue xs q.capacity)
    (pushed q.items q.capacity c.in_the_way-away.result _ c.args.byte c.in_the_way-away.ensures.within c.in_the_way-away.ensures.count
    count)
