use Rattle.std.proofs.Common.{refl}
use Rattle.uart_16550.proofs.Making.{made_among, made_only}
use Rattle.uart_16550.proofs.driver.Uart16550.keeps.Goals as goal

pub returns : goal.returns
returns g c = made_among (λ l t. (_, refl, t.is)) (made_only _ _ c.write_register.ensures c.read_register.ensures)
