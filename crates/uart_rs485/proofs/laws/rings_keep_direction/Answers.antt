use Rattle.uart_rs485.proofs.RingKeeping.{ring_calls_keep, ring_keeps_from_new}
use Rattle.uart_rs485.proofs.laws.rings_keep_direction.Goals as goal

pub returns : goal.returns
returns c = record { from_new = ring_keeps_from_new; calls = ring_calls_keep }
