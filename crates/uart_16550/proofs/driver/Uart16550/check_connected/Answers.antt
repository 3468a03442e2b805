use Rattle.std.proofs.Common.{sym}
use Rattle.uart_16550.proofs.Making.{made_among}
use Rattle.uart_16550.proofs.driver.Uart16550.check_connected.Goals as goal

pub returns-then-not-contains : goal.returns-then-not-contains
returns-then-not-contains g c = made_among (λ s t. (_, sym (c.if-not-contains.ensures tt), t.is)) c.read_msr-msr.ensures

pub returns-then-not-contains-2 : goal.returns-then-not-contains-2
returns-then-not-contains-2 g c =
    made_among (λ s t. (_, (sym (c.if-not-contains.ensures tt), sym (c.if-not-contains-2.ensures tt)), t.is)) c.read_msr-msr.ensures

pub returns : goal.returns
returns g c =
    made_among (λ s t. (_, (sym (c.if-not-contains.ensures tt), sym (c.if-not-contains-2.ensures tt)), t.is)) c.read_msr-msr.ensures
