use Rattle.std.proofs.Common.{◌≡◌, ◌<◌, ◌≤◌, ℕ, length, take, arith, refl, ◌∙◌, ap}
use Rattle.std.proofs.lemmas.List.{length-take}
use Rattle.uart_16550.specs.Driver.{settings}
use Rattle.uart_16550.proofs.Languages.{receives_none}
use Rattle.uart_16550.proofs.Making.{made_none, made_then, made_among, made_few, made_times}
use Rattle.uart_16550.proofs.driver.Uart16550.receive_some.Goals as goal

pub loop-turn-init : goal.loop-turn-init
loop-turn-init g c = record { made = made_none; same = refl }

pub returns-then-count-gt0-clause-made : goal.returns-then-count-gt0-clause-made
returns-then-count-gt0-clause-made g c =
    let some : 0 < length (take c.receive_bytes-count.result c.receive_bytes-count.new.buffer) = omega (arith, length-take {A = ℕ}) in
    let slots : length c.loop-turn.buffer ≡ length c.args.buffer.now = ap length c.loop-turn.invariant.same in
    let received = made_among (λ l t. rw slots at t) c.receive_bytes-count.ensures.made in
    made_among (λ l t. (some, t)) (made_then (made_few _ _ (omega arith) c.loop-turn.invariant.made) received)

pub loop-turn-preserved : goal.loop-turn-preserved
loop-turn-preserved g c =
    let none : length (take c.receive_bytes-count.result c.receive_bytes-count.new.buffer) ≤ 0 = omega (arith, length-take {A = ℕ}) in
    let nothing : c.receive_bytes-count.result ≡ 0 = omega arith in
    record {
      made =
          made_times _ _ c.loop-turn.invariant.made
          (made_among (λ l t. receives_none _ _ (settings c.loop-turn.self) l (omega arith) none t) c.receive_bytes-count.ensures.made);
      same = (rw nothing at c.receive_bytes-count.ensures.rest) ∙ c.loop-turn.invariant.same;
    }
