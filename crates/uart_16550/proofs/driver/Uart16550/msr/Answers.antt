use Rattle.uart_16550.proofs.Statuses.{takes_msr}
use Rattle.uart_16550.proofs.driver.Uart16550.msr.Goals as goal

pub returns : goal.returns
returns g c = takes_msr _ _ _ c.read_msr.ensures (c.union-msr.ensures tt) (c.from_bits_retain-self.ensures tt)
