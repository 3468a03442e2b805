use Rattle.uart_rs485_runs.proofs.Holding.{ring_calls_hold_bus, rings_begin_at_bus}
use Rattle.uart_rs485_runs.proofs.laws.outputs_are_as_switched_by_rings.Goals as goal

pub returns : goal.returns
returns c = record { begins = rings_begin_at_bus; calls = ring_calls_hold_bus }
