use Rattle.uart_design_ware.specs.Doing.{Did, Times}
use Rattle.uart_design_ware.specs.Line.{TriesInVain}
use Rattle.uart_design_ware.proofs.state.DesignWare.write_line.Given as goal

abbrev pub invariant-loop-round : goal.invariant-loop-round
invariant-loop-round g l = Did g.R.Backend.step (Times l._round (TriesInVain l.fn.line.0)) l.initial.self l.self
