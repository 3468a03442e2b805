use Rattle.uart_design_ware.proofs.Keeping.{line_keeps}
use Rattle.uart_design_ware.proofs.laws.no_received_byte_is_taken.Goals as goal

pub returns-clause-line : goal.returns-clause-line
returns-clause-line c = line_keeps
