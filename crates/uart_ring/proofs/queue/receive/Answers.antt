use Rattle.std.proofs.Common.{◌≡◌, ◌≤◌, ◌-◌, ◌+◌, ℕ, List, length, length-drop, length-take-le, ◌∙◌, sym, subst, take, drop, arith}
use Rattle.uart_16550.specs.Driver.{settings}
use Rattle.uart_16550.specs.Receive.{Receives}
use Rattle.uart_16550.proofs.Making.{made_among}
use Rattle.uart_ring.proofs.Queues.{landed, others_stay}
use Rattle.uart_ring.proofs.queue.receive.Goals as goal

pub returns-clause-made : goal.returns-clause-made
returns-clause-made g c =
    let place = c.args.place in
    let cells = c.args.cells.now in
    let n = place + c.args.slots - place in
    let b = c.receive_bytes.result in
    let new = c.receive_bytes.new.buffer in
    let all : n ≡ c.args.slots = omega arith in
    let fits : place ≤ length cells = omega (arith, c.requires) in
    let enough : n ≤ length (drop place cells) = omega (arith, c.requires, length-drop place cells) in
    let length_old : length (take n (drop place cells)) ≡ n = length-take-le n (drop place cells) enough in
    let few : b ≤ length new = omega (arith, c.receive_bytes.ensures.count, c.receive_bytes.auto.buffer) in
    made_among (λ l t.
    let s = settings c.args.uart.now in
    let S : ℕ → Type 0 = λ k. Receives k (take b new) s l in
    let R : List ℕ → Type 0 = λ ys. Receives c.args.slots ys s l in
    subst R (sym (landed place n b cells new fits few)) (subst S (length_old ∙ all) t)) c.receive_bytes.ensures.made

pub returns-clause-others : goal.returns-clause-others
returns-clause-others g c =
    let place = c.args.place in
    let cells = c.args.cells.now in
    let n = place + c.args.slots - place in
    let b = c.receive_bytes.result in
    let new = c.receive_bytes.new.buffer in
    let fits : place ≤ length cells = omega (arith, c.requires) in
    let enough : n ≤ length (drop place cells) = omega (arith, c.requires, length-drop place cells) in
    let length_old : length (take n (drop place cells)) ≡ n = length-take-le n (drop place cells) enough in
    let few : b ≤ length new = omega (arith, c.receive_bytes.ensures.count, c.receive_bytes.auto.buffer) in
    let within : b ≤ n = omega (arith, c.receive_bytes.ensures.count, length_old) in
    others_stay place n b cells new fits enough within few c.receive_bytes.ensures.rest
