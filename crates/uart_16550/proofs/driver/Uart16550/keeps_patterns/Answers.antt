use Rattle.std.proofs.Common.{inl}
use Rattle.uart_16550.proofs.Making.{made_among, made_then}
use Rattle.uart_16550.proofs.Inits.{second_decides}
use Rattle.uart_16550.proofs.driver.Uart16550.keeps_patterns.Goals as goal

pub returns-then-not-keeps : goal.returns-then-not-keeps
returns-then-not-keeps g c = made_among (λ l t. inl t) c.if-not-keeps.ensures

pub returns : goal.returns
returns g c = made_among (second_decides _ _) (made_then c.if-not-keeps.ensures c.keeps-2.ensures)
