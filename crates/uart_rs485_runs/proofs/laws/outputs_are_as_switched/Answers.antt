use Rattle.uart_rs485_runs.proofs.Holding.{begins_at_bus, calls_hold_bus, events_stay}
use Rattle.uart_rs485_runs.proofs.laws.outputs_are_as_switched.Goals as goal

pub returns : goal.returns
returns c = record { begins = begins_at_bus; calls = calls_hold_bus; events = events_stay }
