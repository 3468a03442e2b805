use Rattle.uart_16550.proofs.Making.{made_among, made_only}
use Rattle.uart_16550.proofs.driver.Uart16550.set_output.Goals as goal

pub returns : goal.returns
returns g c =
    made_among (λ l t. (_, rw c.outputs_of-switched.ensures at t.is)) (made_only _ _ c.mcr.ensures c.set_modem_control.ensures)
