use Rattle.std.proofs.Common.{◌≡◌, [], ◌-◌, ◌++◌, ◌+◌, length, ap, ◌∙◌, take, drop, arith}
use Rattle.std.proofs.lemmas.List.{length-drop, drop_all, take_rest}
use Rattle.uart_ring.proofs.Queues.{copied}
use Rattle.uart_ring.proofs.queue.ByteQueue.copy_front.Goals as goal

pub returns-clause-copied : goal.returns-clause-copied
returns-clause-copied c =
    let first = c.as_slices.result.0.now in
    let second = c.as_slices.result.1.now in
    let one = c.copy-before.new.slots in
    let b = c.copy-before.result in
    let k = c.copy.result in
    let none : drop (length one - b) (drop b one) ≡ [] = drop_all (length one - b) (drop b one) (omega (arith, length-drop b one)) in
    copied first second c.args.slots.now one c.copy.new.slots (take (length one - b) (drop b one)) _ b k
    c.copy-before.ensures.count c.copy-before.ensures.copied (take_rest one b) c.copy.ensures.count c.copy.ensures.copied none ∙
    ap (λ xs. take (b + k) xs ++ drop (b + k) c.args.slots.now) c.as_slices.ensures
