use Rattle.std.proofs.Common.{◌∙◌}
use Rattle.uart_16550.proofs.Making.{made_among, made_only}
use Rattle.uart_16550.proofs.driver.Uart16550.set_break.Goals as goal

pub returns : goal.returns
returns g c =
    let bits = c.bits.ensures tt ∙ c.break_of-switched.ensures in
    made_among (λ l t. (_, rw bits at t.is)) (made_only _ _ c.lcr.ensures c.write_register.ensures)
