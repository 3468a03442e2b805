use Rattle.uart_rs485.proofs.BusDoings.{refused}
use Rattle.uart_rs485.proofs.bus.HalfDuplex.new.Goals as goal

pub returns-in-Err : goal.returns-in-Err
returns-in-Err g c = refused _ _ c.in-Err.cause _ c.in-Err.ensures
