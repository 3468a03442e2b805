use Rattle.uart_virtual.proofs.Tells.{nothing_told, nothing_todo, ready_is}
use Rattle.uart_virtual.proofs.port.nothing_new.Goals as goal

pub returns-clause-told : goal.returns-clause-told
returns-clause-told g c = nothing_told c.args.chip.now c.args.told c.requires.told

pub returns-clause-todo : goal.returns-clause-todo
returns-clause-todo g c =
    rw (ready_is c.args.chip.now c.wire_room.ensures.live c.requires.paced c.wire_room.result c.wire_room.ensures.room)
    (nothing_todo c.args.chip.now c.args.told c.requires.told)
