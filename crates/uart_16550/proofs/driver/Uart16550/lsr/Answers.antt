use Rattle.uart_16550.proofs.Statuses.{takes_lsr}
use Rattle.uart_16550.proofs.driver.Uart16550.lsr.Goals as goal

pub returns : goal.returns
returns g c = takes_lsr _ _ _ c.read_lsr.ensures (c.union-lsr.ensures tt) (c.from_bits_retain-self.ensures tt)
