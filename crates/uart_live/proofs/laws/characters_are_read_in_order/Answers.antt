use Rattle.uart_live.proofs.Orders.{characters_read}
use Rattle.uart_live.proofs.laws.characters_are_read_in_order.Goals as goal

pub returns : goal.returns
returns c = characters_read
