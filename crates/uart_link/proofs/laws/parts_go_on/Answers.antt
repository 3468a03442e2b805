use Rattle.uart_link.proofs.Later.{parts_go_on}
use Rattle.uart_link.proofs.laws.parts_go_on.Goals as goal

pub returns : goal.returns
returns c = parts_go_on
