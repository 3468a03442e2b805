use Rattle.uart_run.proofs.Names.{backend_of, fields}
use Rattle.uart_run.proofs.initialising.InitRoom.{init_room}
use Rattle.uart_run.proofs.laws.inits_leave_room.Goals as goal

pub returns : goal.returns
returns c =
    let whole = rw c.backend.ensures at c.fifo_enabled-fifo.ensures.whole in
    λ config after room ticked has_room did.
    (init_room config room (fields c.args.uart.now) (fields after) did.list (backend_of c.args.uart.now) (backend_of after)
    (record { sound = whole.sound; ticked = ticked; room = has_room }) did.does did.path).room
