use Rattle.uart_16550.proofs.Making.{made_none}
use Rattle.uart_16550.proofs.driver.Uart16550.write_urgent.Goals as goal

pub returns-in-None-clause-made : goal.returns-in-None-clause-made
returns-in-None-clause-made g c = rw c.in-None.is made_none
