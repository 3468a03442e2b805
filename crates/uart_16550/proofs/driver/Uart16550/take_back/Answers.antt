use Rattle.std.proofs.Common.{◌≡◌, ◌<◌, inl, inr, refl, arith}
use Rattle.uart_16550.specs.Grammar.{Times}
use Rattle.uart_16550.specs.Loopback.{TakesOne}
use Rattle.uart_16550.specs.Sizing.{flood, TakesBack}
use Rattle.uart_16550.proofs.Making.{made_none, made_then, made_times, made_among}
use Rattle.uart_16550.proofs.driver.Uart16550.take_back.Goals as goal

pub loop-count-init : goal.loop-count-init
loop-count-init g c = made_none

pub returns-in_default : goal.returns-in_default
returns-in_default g c =
    let few : c.loop-count.count < flood = omega arith in
    made_among (λ l t. inr (few, t)) (made_then c.loop-count.invariant c.in_default.ensures)

pub loop-count-preserved : goal.loop-count-preserved
loop-count-preserved g c = made_times _ _ c.loop-count.invariant (made_among (λ l t. (_, t)) c.in-Ok.ensures)

pub returns : goal.returns
returns g c =
    let n = c.loop-count.count in
    let all : n ≡ flood = omega arith in
    made_among {L = Times n TakesOne} {M = TakesBack flood} (λ l t. inl (refl, rw all at t)) c.loop-count.invariant
