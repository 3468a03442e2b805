use Rattle.std.proofs.Common.{◌∙◌, ◌&&◌}
use Rattle.uart_chip.specs.Chip.{interrupt, is_64}
use Rattle.uart_live.proofs.Lives.{shows-interrupt}
use Rattle.uart_live.proofs.Sizes.{bytes_fit, characters_fit}
use Rattle.uart_live.proofs.live.LiveChipWith.is_interrupting.Goals as goal

pub returns-clause-shown : goal.returns-clause-shown
returns-clause-shown g c =
    let chip = c.self.inside.uart in
    rw (← c.self.view_is)
    (c.is_interrupting.ensures ∙ shows-interrupt (interrupt chip) chip.fifo (chip.has_size_switch && is_64 chip.receiver.size))

-- the queues take no more memory than there can be
pub is_interrupting-requires-room-B-Fifo : goal.is_interrupting-requires-room-B-Fifo
is_interrupting-requires-room-B-Fifo g c κs = bytes_fit g.row.FIFO c.self.invariant.0

pub is_interrupting-requires-room-C-Fifo : goal.is_interrupting-requires-room-C-Fifo
is_interrupting-requires-room-C-Fifo g c κs = characters_fit g.row.FIFO c.self.invariant.0
