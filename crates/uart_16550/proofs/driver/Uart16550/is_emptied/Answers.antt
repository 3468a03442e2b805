use Rattle.uart_16550.proofs.Making.{made_among, made_none}
use Rattle.uart_16550.proofs.driver.Uart16550.is_emptied.Goals as goal

pub returns-then-not-asked : goal.returns-then-not-asked
returns-then-not-asked g c = made_among (λ l t. rw c.if-not-asked.true t) made_none
