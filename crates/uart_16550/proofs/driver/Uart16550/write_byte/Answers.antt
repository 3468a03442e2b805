use Rattle.uart_16550.proofs.Making.{made_write}
use Rattle.uart_16550.proofs.driver.Uart16550.write_byte.Goals as goal

pub returns : goal.returns
returns g c = made_write _ _ _ _ _ c.write.ensures
