use Rattle.uart_16550.proofs.Making.{made_among, made_only}
use Rattle.uart_16550.proofs.driver.Uart16550.retrigger_interrupts.Goals as goal

pub returns : goal.returns
returns g c =
    made_among (λ l t. (_, t.is))
    (made_only _ _ (made_only _ _ c.read_register-enabled.ensures c.write_register.ensures) c.write_register-2.ensures)
