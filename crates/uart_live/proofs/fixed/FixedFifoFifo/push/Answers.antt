use Rattle.std.proofs.Common.{[], ◌∷◌, ◌++◌, ◌<◌, length, ap, ◌∙◌, arith}
use Rattle.uart_live.proofs.Rings.{length-window, window_after_push}
use Rattle.uart_live.proofs.fixed.FixedFifoFifo.push.Goals as goal

-- the write is behind the last item, since the queue has room
pub returns-clause-items : goal.returns-clause-items
returns-clause-items g c =
    let q = c.self.inside in
    let length_old = length-window g.row.FIFO q.start q.len q.slots c.self.invariant.0 c.self.invariant.1 c.self.invariant.2 in
    let same_length = ap length c.self.view_is in
    let has_room : q.len < g.row.FIFO = omega arith in
    window_after_push g.row.FIFO q.start q.len q.slots c.self.invariant.0 c.self.invariant.1 c.self.invariant.2 c.args.item has_room
    ∙ ap (λ xs. xs ++ c.args.item ∷ []) c.self.view_is
