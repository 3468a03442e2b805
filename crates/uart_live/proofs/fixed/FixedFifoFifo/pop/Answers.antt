use Rattle.std.proofs.Common.{drop, ap, ◌∙◌, rules}
use Rattle.uart_live.proofs.Rings.{window_after_pop}
use Rattle.uart_live.proofs.fixed.FixedFifoFifo.pop.Goals as goal

pub returns-clause-rest : goal.returns-clause-rest
returns-clause-rest g c =
    let q = c.self.inside in
    window_after_pop g.row.FIFO q.start q.len q.slots c.self.invariant.0 c.self.invariant.1 c.self.invariant.2 (search rules)
    ∙ ap (λ xs. drop 1 xs) c.self.view_is
