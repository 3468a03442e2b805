use Rattle.std.proofs.Common.{ℕ, List, ◌-◌, length}
use Rattle.uart_design_ware.specs.Doing.{Did, InOrder}
use Rattle.uart_design_ware.specs.Line.{Keeps}
use Rattle.uart_design_ware.proofs.state.DesignWare.keep_waiting.Given as goal

abbrev pub invariant-loop-self : goal.invariant-loop-self
invariant-loop-self g l = (characters : List (ℕ × ℕ)) × Did g.R.Backend.step (InOrder Keeps characters) l.fn.self l.self

abbrev pub decreases-loop-self : goal.decreases-loop-self
decreases-loop-self g l = 64 - length l.self.kept
