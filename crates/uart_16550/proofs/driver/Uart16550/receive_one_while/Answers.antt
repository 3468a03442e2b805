use Rattle.std.proofs.Common.{◌<◌, ◌++◌, [], ◌∷◌, true, false, refl, arith}
use Rattle.std.proofs.lemmas.Fn.{FoldsTo-push}
use Rattle.uart_16550.specs.Driver.{settings}
use Rattle.uart_16550.specs.Patience.{keeps_waiting}
use Rattle.uart_16550.proofs.Making.{made_none, made_then, made_times, made_among}
use Rattle.uart_16550.proofs.Waiting.{keeps_more}
use Rattle.uart_16550.proofs.driver.Uart16550.receive_one_while.Goals as goal

pub loop-poll-init : goal.loop-poll-init
loop-poll-init g c = record { asked = refl; made = made_none }

pub returns-in-Ok : goal.returns-in-Ok
returns-in-Ok g c =
    let polls = c.loop-poll._poll in
    let few : polls < (settings c.args.self.now).limit = omega arith in
    record {
      said = keeps_waiting polls;
      asked = c.loop-poll.invariant.asked;
      made = made_among (λ l t. (polls, refl, (few, t))) (made_then c.loop-poll.invariant.made c.in-Ok.ensures);
    }

pub returns-then-not-keep_waiting : goal.returns-then-not-keep_waiting
returns-then-not-keep_waiting g c =
    let polls = c.loop-poll._poll in
    let few : polls < (settings c.args.self.now).limit = omega arith in
    record {
      said = keeps_waiting polls ++ false ∷ [];
      asked = FoldsTo-push _ _ _ _ false _ c.loop-poll.invariant.asked c.if-not-keep_waiting.ensures;
      made = made_among (λ l t. (polls, few, refl, t)) (made_times _ _ c.loop-poll.invariant.made c.in_default.ensures);
    }

pub loop-poll-preserved : goal.loop-poll-preserved
loop-poll-preserved g c = record {
  asked = rw (keeps_more c.loop-poll._poll)
      (FoldsTo-push _ _ _ _ true _ c.loop-poll.invariant.asked c.if-not-keep_waiting.ensures);
  made = made_times _ _ c.loop-poll.invariant.made c.in_default.ensures;
}
