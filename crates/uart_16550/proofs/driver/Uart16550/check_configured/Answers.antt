use Rattle.std.proofs.Common.{inl, refl}
use Rattle.uart_16550.proofs.Making.{made_among, made_none}
use Rattle.uart_16550.proofs.Checks.{configured}
use Rattle.uart_16550.proofs.driver.Uart16550.check_configured.Goals as goal

pub returns-in_default : goal.returns-in_default
returns-in_default g c = made_among (λ l t. inl (c.in_default.ensures, refl, t.is)) made_none

pub returns : goal.returns
returns g c =
    configured c.args.self.now.config c.args.outputs.0 c.in-Some.divisor _ _ _ c.in-Some.ensures c.frame_of-frame.ensures
    (c.difference-outputs.ensures tt) c.check_registers.ensures
