use Rattle.uart_link.proofs.Lines.{rts_line, dtr_lines, control_lines}
use Rattle.uart_link.proofs.laws.outputs_are_the_lines_of_the_other_end.Goals as goal

pub returns : goal.returns
returns c = record { rts = rts_line; dtr = dtr_lines; control = control_lines }
