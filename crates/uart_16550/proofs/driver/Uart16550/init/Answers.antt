use Rattle.std.proofs.Common.{[], refl, Ok, Err}
use Rattle.uart_16550.proofs.Inits.{given_at}
use Rattle.uart_16550.proofs.driver.Uart16550.init.Goals as goal

pub set_up-requires : goal.set_up-requires
set_up-requires g c = given_at c.args.config (Ok c.in-Ok.divisor) _ c.to_integer-baud_rate.ensures ((c.in-Ok.ensures _).0 refl)

pub returns-in-Err : goal.returns-in-Err
returns-in-Err g c =
    let given = given_at c.args.config (Err c.in-Err.cause) _ c.to_integer-baud_rate.ensures ((c.in-Err.ensures _).0 refl) in
    record { list = []; path = refl; does = (given, refl, refl) }
