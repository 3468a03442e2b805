use Rattle.std.proofs.Common.{◌<◌, ◌++◌, [], ◌∷◌, true, false, refl, arith}
use Rattle.std.proofs.lemmas.Fn.{FoldsTo-push}
use Rattle.uart_16550.specs.Driver.{settings}
use Rattle.uart_16550.specs.Patience.{keeps_waiting}
use Rattle.uart_16550.proofs.Making.{made_none, made_then, made_times, made_among}
use Rattle.uart_16550.proofs.Waiting.{keeps_more}
use Rattle.uart_16550.proofs.driver.Uart16550.wait_to_send_while.Goals as goal

pub loop-turn-init : goal.loop-turn-init
loop-turn-init g c = record { asked = refl; made = made_none }

pub returns-in-Ok : goal.returns-in-Ok
returns-in-Ok g c =
    let turn = c.loop-turn._turn in
    let few : turn < (settings c.args.self.now).limit = omega arith in
    record {
      said = keeps_waiting turn;
      asked = c.loop-turn.invariant.asked;
      made = made_among (λ l t. (turn, refl, (few, t))) (made_then c.loop-turn.invariant.made c.in-Ok.ensures);
    }

pub returns-then-not-keep_waiting : goal.returns-then-not-keep_waiting
returns-then-not-keep_waiting g c =
    let turn = c.loop-turn._turn in
    let few : turn < (settings c.args.self.now).limit = omega arith in
    let miss = made_among (λ l t. (c.in_default.field-0, t)) c.in_default.ensures in
    record {
      said = keeps_waiting turn ++ false ∷ [];
      asked = FoldsTo-push _ _ _ _ false _ c.loop-turn.invariant.asked c.if-not-keep_waiting.ensures;
      made = made_among (λ l t. (turn, few, refl, t)) (made_times _ _ c.loop-turn.invariant.made miss);
    }

pub loop-turn-preserved : goal.loop-turn-preserved
loop-turn-preserved g c =
    let miss = made_among (λ l t. (c.in_default.field-0, t)) c.in_default.ensures in
    record {
      asked = rw (keeps_more c.loop-turn._turn)
          (FoldsTo-push _ _ _ _ true _ c.loop-turn.invariant.asked c.if-not-keep_waiting.ensures);
      made = made_times _ _ c.loop-turn.invariant.made miss;
    }
