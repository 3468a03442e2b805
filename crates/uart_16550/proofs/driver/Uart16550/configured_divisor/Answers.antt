use Rattle.std.proofs.Common.{Ok, Err, refl}
use Rattle.uart_16550.proofs.Inits.{given_at}
use Rattle.uart_16550.proofs.driver.Uart16550.configured_divisor.Goals as goal

pub returns-in-Ok : goal.returns-in-Ok
returns-in-Ok g c = (
  c.if-not-is_computable.ensures.0 refl,
  given_at c.args.self.now.config (Ok c.in-Ok.divisor) _ c.to_integer-baud_rate.ensures ((c.in-Ok.ensures _).0 refl),
)

pub returns-in-Err : goal.returns-in-Err
returns-in-Err g c = λ computable.
    (c.in-Err._cause, given_at c.args.self.now.config (Err c.in-Err._cause) _ c.to_integer-baud_rate.ensures ((c.in-Err.ensures _).0 refl))
