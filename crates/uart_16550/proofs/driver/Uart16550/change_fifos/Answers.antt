use Rattle.uart_16550.proofs.Making.{made_among, made_none}
use Rattle.uart_16550.proofs.driver.Uart16550.change_fifos.Goals as goal

pub returns-in-Keep-clause-made : goal.returns-in-Keep-clause-made
returns-in-Keep-clause-made g c = made_among (λ l t. rw c.in-Keep.is t) made_none
