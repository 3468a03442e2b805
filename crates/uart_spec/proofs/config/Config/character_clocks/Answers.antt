use Rattle.std.proofs.Common.{Ok}
use Rattle.uart_spec.specs.Baud.{prescaler}
use Rattle.uart_spec.specs.BaudRate.{to_integer}
use Rattle.uart_spec.specs.Timing.{HasDivisor, character_halves}
use Rattle.uart_spec.proofs.TimingLemmas.{time_of}
use Rattle.uart_spec.proofs.config.Config.character_clocks.Goals as goal

pub returns-clause-answer : goal.returns-clause-answer
returns-clause-answer c =
    let config = c.args.self.now in
    let divisor = c.in_ok-divisor.divisor in
    let has : HasDivisor config (Ok divisor) = rw c.to_integer-rate.ensures at c.in_ok-divisor.ensures in
    let time =
    time_of config.frequency (to_integer config.baud_rate) (prescaler config.prescaler_division_factor) divisor (character_halves config)
    has.1.0 in
    (divisor, has, rw (c.unwrap_or.ensures, c.halves.ensures.value) time)
