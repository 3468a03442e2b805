use Rattle.uart_design_ware.proofs.Bounding.{line_is_bounded}
use Rattle.uart_design_ware.proofs.laws.waits_are_bounded.Goals as goal

pub returns : goal.returns
returns c = line_is_bounded
