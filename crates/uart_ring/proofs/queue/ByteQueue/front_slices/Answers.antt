use Rattle.std.proofs.Common.{◌≡◌, ◌≤◌, ap, ◌∙◌, take, length, refl, arith}
use Rattle.std.proofs.lemmas.List.{take_rest}
use Rattle.uart_ring.specs.Queue.{Queue, bytes_from}
use Rattle.uart_ring.proofs.Queues.{front_halves, length-bytes}
use Rattle.uart_ring.proofs.queue.ByteQueue.front_slices.Goals as goal

pub returns : goal.returns
returns c =
    let q = c.self.inside in
    let cells = q.cells.items in
    let long : length (bytes_from q.front q.len cells) ≡ q.len =
    length-bytes (length cells) q.front q.len cells c.self.invariant.0 c.self.invariant.1 refl in
    let few : c.args.count ≤ q.len = omega (arith, c.requires, long, ap (λ (x : Queue). length x.items) c.self.view_is) in
    rw c.as_slice-cells.ensures.value
    (front_halves q.front q.len c.args.count c.min-first.result cells _ c.self.invariant.1 few (take_rest cells q.front)
    (rw c.as_slice-cells.ensures.value at c.min-first.ensures) ∙
    ap (λ (x : Queue). take c.args.count x.items) c.self.view_is)
