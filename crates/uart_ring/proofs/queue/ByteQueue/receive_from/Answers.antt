use Rattle.std.proofs.Common.{◌≡◌, ◌<◌, ◌≤◌, ◌⊎◌, ◌-◌, ◌+◌, ◌++◌, ℕ, List, length, length-drop, length-take-le, ap, ◌∙◌}
use Rattle.std.proofs.Common.{sym, refl, take, drop, min, arith, inl, inr}
use Rattle.std.proofs.lemmas.Bool.Decides.{nat_tests}
use Rattle.std.proofs.lemmas.List.{with_items_is}
use Rattle.uart_16550.specs.Driver.{settings}
use Rattle.uart_16550.proofs.Making.{made_then, made_among}
use Rattle.uart_ring.specs.Queue.{Queue, queue, bytes_from, IsBehind}
use Rattle.uart_ring.proofs.Queues.{received_at_end, behind_within, length-bytes}
use Rattle.uart_ring.proofs.Receiving.{receives_on, counted_both, least_within}
use Rattle.uart_ring.proofs.queue.ByteQueue.receive_from.Goals.{then-before-to_end, else-before-to_end}
use Rattle.uart_ring.proofs.queue.ByteQueue.receive_from.Goals as goal

pub returns-clause-received : goal.returns-clause-received
returns-clause-received g c =
    let q = c.self.inside in
    let cells = c.as_mut_slice-cells.result.now in
    let xs = q.cells.items in
    let N = length xs in
    let slots = c.args.slots in
    let p = c.cell_behind-behind.result in
    let m = c.min-to_end.result in
    let r = c.if-before-to_end.rest in
    let first = c.receive-before in
    let second = c.receive in
    let b = first.result in
    let a = second.result in
    let between = first.new.cells in
    let final = second.new.cells in
    let one = take b (drop p between) in
    let two = take a (drop 0 final) in
    let lent : cells ≡ xs = c.as_mut_slice-cells.ensures.value in
    let most : N ≡ c.args.self.now.capacity = ap (λ (x : Queue). x.capacity) c.self.view_is in
    let size : c.capacity.result ≡ N = c.capacity.ensures.capacity ∙ sym most in
    let place : IsBehind q.front q.len N p = rw size at c.cell_behind-behind.ensures in
    let within : p ≤ N = behind_within q.front q.len N p c.self.invariant.0 c.self.invariant.1 place in
    let long = length-bytes N q.front q.len xs c.self.invariant.0 c.self.invariant.1 refl in
    let room : q.len + slots ≤ N = omega (arith, c.requires, long, most, ap (λ (x : Queue). length x.items) c.self.view_is) in
    let length_cells : length cells ≡ N = ap length lent in
    let is_m : m ≡ min slots (N - p) = omega (arith, c.min-to_end.ensures, length_cells) in
    let length_between : length between ≡ N = first.auto.cells ∙ length_cells in
    let length_final : length final ≡ N = second.auto.cells ∙ length_between in
    let few : b ≤ m = first.ensures.count in
    let some : a ≤ r = second.ensures.count in
    let length_one : length one ≡ b =
    length-take-le b (drop p between) (omega (arith, length-drop p between, length_between, few, is_m)) in
    let kind : ((length one ≡ m) × (r ≡ slots - m)) ⊎ ((length one < m) × (r ≡ 0)) = elim c.if-before-to_end.branch [
      | then-before-to_end w ↦
          let full : b ≡ c.min-to_end.result = grind (arith, nat_tests) in
          inl (omega (arith, length_one, full), omega (arith, w.rest-is))
      | else-before-to_end w ↦
          let less : b < c.min-to_end.result = grind (arith, nat_tests) in
          inr (omega (arith, length_one, less), w.rest-is)
    ] in
    let goes : ((b ≡ m) × (r ≡ slots - m)) ⊎ (r ≡ 0) = elim kind [
      | inl full ↦ inl (sym length_one ∙ full.0, full.1)
      | inr less ↦ inr less.1
    ] in
    let length_two : length two ≡ a =
    length-take-le a (drop 0 final) (omega (arith, length-drop 0 final, length_final, goes, some, is_m, room)) in
    let facts = received_at_end N q.front q.len p slots m b r a cells one between two final c.self.invariant.0 c.self.invariant.1
    length_cells place room is_m few length_one first.ensures.others length_between goes some length_two second.ensures.others in
    let same = with_items_is q.cells final (omega (arith, facts.0, q.cells.ok.0)) in
    let bytes = one ++ two in
    let items = ap (λ ys. bytes_from q.front (q.len + (b + a)) ys) same ∙ (facts.1 ∙
    (ap (λ (ys : List ℕ). bytes_from q.front q.len ys ++ bytes) lent ∙ ap (λ (x : Queue). x.items ++ bytes) c.self.view_is)) in
    record {
      bytes = bytes;
      received = made_among (λ l t.
          rw t.whole (receives_on slots m r one two (settings c.args.uart.now) t.front t.back (least_within m slots (N - p) is_m) kind
          t.first t.second)) (made_then first.ensures.made second.ensures.made);
      appended = λ i. queue (items i) ((ap length same ∙ (facts.0 ∙ most)) i);
      counted = counted_both one two b a length_one length_two;
    }
