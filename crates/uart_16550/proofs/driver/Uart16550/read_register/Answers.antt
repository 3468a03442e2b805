use Rattle.uart_16550.proofs.Making.{made_read}
use Rattle.uart_16550.proofs.driver.Uart16550.read_register.Goals as goal

pub returns : goal.returns
returns g c = made_read _ _ _ _ _ c.requires.not_lsr c.requires.not_msr c.read.ensures
