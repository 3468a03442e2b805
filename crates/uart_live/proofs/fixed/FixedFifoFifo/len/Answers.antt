use Rattle.std.proofs.Common.{length, sym, ap, ◌∙◌}
use Rattle.uart_live.proofs.Rings.{length-window}
use Rattle.uart_live.proofs.fixed.FixedFifoFifo.len.Goals as goal

pub returns-clause-len : goal.returns-clause-len
returns-clause-len g c =
    let q = c.self.inside in
    sym (length-window g.row.FIFO q.start q.len q.slots c.self.invariant.0 c.self.invariant.1 c.self.invariant.2) ∙ ap length c.self.view_is
