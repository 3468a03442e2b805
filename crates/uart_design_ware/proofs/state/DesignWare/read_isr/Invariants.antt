use Rattle.std.proofs.Common.{◌≡◌, ℕ, true, List, length}
use Rattle.uart_design_ware.specs.declared.serving.TheConstants.{NONE}
use Rattle.uart_design_ware.specs.Doing.{Did, InOrder}
use Rattle.uart_design_ware.specs.Serving.{Round, last_of}
use Rattle.uart_design_ware.proofs.state.DesignWare.read_isr.Given as goal

abbrev pub invariant-loop-round : goal.invariant-loop-round
invariant-loop-round g l = (ended : List ℕ) × (length ended ≡ l._round) × (l.isr ≡ last_of NONE ended)
    × Did g.R.Backend.step (InOrder (λ isr. Round isr true) ended) l.fn.self l.self
