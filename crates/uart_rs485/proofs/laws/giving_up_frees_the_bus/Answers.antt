use Rattle.uart_rs485.proofs.Keeping.{frees}
use Rattle.uart_rs485.proofs.RingKeeping.{rings_free}
use Rattle.uart_rs485.proofs.laws.giving_up_frees_the_bus.Goals as goal

pub returns : goal.returns
returns c = record { driver = frees; rings = rings_free }
