use Rattle.std.proofs.Common.{refl}
use Rattle.uart_16550.specs.Frame.{with_frame}
use Rattle.uart_16550.proofs.Doings.{did_set}
use Rattle.uart_16550.proofs.driver.Uart16550.store_frame.Goals as goal

pub returns : goal.returns
returns g c = did_set _ (with_frame c.args.config.now) c.args.self.now _ refl refl
