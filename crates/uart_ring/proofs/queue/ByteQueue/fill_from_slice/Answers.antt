use Rattle.std.proofs.Common.{◌≡◌, ◌-◌, ◌+◌, ◌++◌, length, ap, ◌∙◌, sym, refl, take, drop, min, arith}
use Rattle.std.proofs.lemmas.List.{take_rest, with_items_is}
use Rattle.uart_ring.specs.Queue.{Queue, queue, bytes_from, IsBehind}
use Rattle.uart_ring.proofs.Queues.{appended}
use Rattle.uart_ring.proofs.queue.ByteQueue.fill_from_slice.Goals as goal

pub returns-clause-items : goal.returns-clause-items
returns-clause-items c =
    let q = c.self.inside in
    let N = length q.cells.items in
    let b = c.copy-before.result in
    let a = c.copy.result in
    let p = c.cell_behind-behind.result in
    let room = c.min.result in
    let bs = take room c.args.bytes.now in
    let most = ap (λ (x : Queue). x.capacity) c.self.view_is in
    let size : c.capacity.result ≡ N = c.capacity.ensures.capacity ∙ sym most in
    let size_too : c.capacity-2.result ≡ N = c.capacity-2.ensures.capacity ∙ sym most in
    let place : IsBehind q.front q.len N p = rw size_too at c.cell_behind-behind.ensures in
    let few : room ≡ min (length c.args.bytes.now) (N - q.len) = c.min.ensures ∙ ap (λ n. min (length c.args.bytes.now) (n - q.len)) size in
    let lent = c.as_mut_slice-cells.ensures.value in
    let facts = appended N q.front q.len p room b a q.cells.items c.args.bytes.now bs c.copy-before.new.slots
    (take (length bs - b) (drop b bs)) c.copy.new.slots c.self.invariant.0 c.self.invariant.1 refl place few refl
    (rw lent at c.copy-before.ensures.count) (rw lent at c.copy-before.ensures.copied) (take_rest bs b)
    c.copy.ensures.count c.copy.ensures.copied in
    let same = with_items_is q.cells c.copy.new.slots (omega (arith, facts.0, q.cells.ok.0)) in
    let bytes = ap (λ xs. bytes_from q.front (q.len + (b + a)) xs) same ∙ (facts.1 ∙
    ap (λ (x : Queue). x.items ++ take (b + a) c.args.bytes.now) c.self.view_is) in
    λ i. queue (bytes i) ((ap length same ∙ (facts.0 ∙ most)) i)
