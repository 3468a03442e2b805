use Rattle.uart_live.proofs.Orders.{bytes_leave}
use Rattle.uart_live.proofs.laws.bytes_leave_in_order.Goals as goal

pub returns : goal.returns
returns c = bytes_leave
