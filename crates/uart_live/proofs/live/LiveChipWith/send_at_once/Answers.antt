use Rattle.uart_live.proofs.Sends.{live-send}
use Rattle.uart_live.proofs.Sizes.{bytes_fit, characters_fit}
use Rattle.uart_live.proofs.live.LiveChipWith.send_at_once.Goals as goal

pub invariant_of-self : goal.invariant_of-self
invariant_of-self g c =
    let sent = live-send c.args.value c.self.inside.uart (rw c.self.view_is c.requires) c.self.invariant.1 in
    (c.self.invariant.0, rw c.send_at_once.ensures sent)

-- the queues take no more memory than there can be
pub send_at_once-requires-room-B-Fifo : goal.send_at_once-requires-room-B-Fifo
send_at_once-requires-room-B-Fifo g c κs = bytes_fit g.row.FIFO c.self.invariant.0

pub send_at_once-requires-room-C-Fifo : goal.send_at_once-requires-room-C-Fifo
send_at_once-requires-room-C-Fifo g c κs = characters_fit g.row.FIFO c.self.invariant.0
