use Rattle.uart_16550.proofs.Making.{made_then}
use Rattle.uart_16550.proofs.driver.Uart16550.try_receive_byte.Goals as goal

pub returns : goal.returns
returns g c = made_then c.in_ok-ready_to_receive.ensures c.read_register.ensures
