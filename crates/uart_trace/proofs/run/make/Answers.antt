use Rattle.uart_trace.proofs.Telling.{driver_made}
use Rattle.uart_trace.proofs.run.make.Goals as goal

pub returns-in_default : goal.returns-in_default
returns-in_default g c = driver_made g.L.Listener.hears _ _ _ _ c.in_default.not-Next c.perform.ensures
