use Rattle.std.proofs.Common.{take}
use Rattle.uart_virtual.proofs.Times.{paced-all, unmoved-all}
use Rattle.uart_virtual.proofs.Sizes.{within_port}
use Rattle.uart_virtual.proofs.port.VirtualPortWith.receive.Goals as goal

pub finish_unmoved-todo-requires : goal.finish_unmoved-todo-requires
finish_unmoved-todo-requires g c = (
  within_port _ 9223372036854775808 (assumption c),
  (
    rw c.receive_all.ensures
        (paced-all (take c.min-count.result c.args.input.now) c.self.inside.chip c.self.invariant.still.paced),
    rw c.receive_all.ensures
        (unmoved-all (take c.min-count.result c.args.input.now) c.self.inside.chip c.self.invariant.still.unmoved),
  ),
)

pub invariant_of-self : goal.invariant_of-self
invariant_of-self g c = record { told = c.finish_unmoved-todo.ensures.holds; still = c.finish_unmoved-todo.ensures.still }

-- a port takes no more memory than there can be, and its chip less than the port
pub receive_room-room-requires : goal.receive_room-room-requires
receive_room-room-requires g c = within_port _ 9223372036854775808 (assumption c)

pub receive_all-requires : goal.receive_all-requires
receive_all-requires g c = within_port _ 9223372036854775808 (assumption c)
