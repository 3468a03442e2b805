use Rattle.uart_virtual.proofs.Times.{still_settle, paced-ticks}
use Rattle.uart_virtual.specs.Port.{settle_ticks}
use Rattle.uart_virtual.proofs.port.finish.Goals as goal

pub decide-requires : goal.decide-requires
decide-requires g c =
    (assumption c, rw c.settle.ensures.after (paced-ticks (settle_ticks c.args.chip.now.transmitter.size) c.args.chip.now c.requires.paced))

pub returns-clause-still : goal.returns-clause-still
returns-clause-still g c =
    rw c.settle.ensures.after
    (still_settle c.args.chip.now c.requires.live.whole.sound.chip c.requires.live.flow c.requires.paced)
