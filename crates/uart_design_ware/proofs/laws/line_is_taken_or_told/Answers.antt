use Rattle.uart_design_ware.proofs.Taking.{taken_or_told}
use Rattle.uart_design_ware.proofs.laws.line_is_taken_or_told.Goals as goal

pub returns : goal.returns
returns c = taken_or_told
