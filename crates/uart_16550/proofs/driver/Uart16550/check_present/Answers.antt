use Rattle.uart_16550.proofs.Making.{made_among, made_then}
use Rattle.uart_16550.proofs.driver.Uart16550.check_present.Goals as goal

pub returns : goal.returns
returns g c =
    made_among (λ l t. (_, t)) (made_then c.read_register-old.ensures (made_then c.keeps_patterns-present.ensures c.write_register.ensures))
