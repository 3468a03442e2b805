use Rattle.std.proofs.Common.{◌≡◌, ◌≤◌, length, ap, ◌∙◌, sym, refl, drop, arith}
use Rattle.uart_ring.specs.Queue.{Queue, queue, IsBehind}
use Rattle.uart_ring.proofs.Queues.{after_drop, length-bytes}
use Rattle.uart_ring.proofs.queue.ByteQueue.drop_front.Goals as goal

pub returns : goal.returns
returns c =
    let q = c.self.inside in
    let cells = q.cells.items in
    let count = c.args.count in
    let N = length cells in
    let p = c.cell_behind-self-inside.result in
    let size : c.capacity.result ≡ N = c.capacity.ensures.capacity ∙ sym (ap (λ (x : Queue). x.capacity) c.self.view_is) in
    let place : IsBehind q.front count N p = rw size at c.cell_behind-self-inside.ensures in
    let same = length-bytes N q.front q.len cells c.self.invariant.0 c.self.invariant.1 refl in
    let some : count ≤ q.len = omega (arith, c.requires, same, ap (λ (x : Queue). length x.items) c.self.view_is) in
    let bytes = after_drop N q.front q.len count p cells c.self.invariant.0 c.self.invariant.1 refl some place ∙
    ap (λ (x : Queue). drop count x.items) c.self.view_is in
    λ i. queue (bytes i) (ap (λ (x : Queue). x.capacity) c.self.view_is i)
