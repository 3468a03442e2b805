use Rattle.std.proofs.Common.{rules}
use Rattle.uart_virtual.proofs.Sizes.{within_port}
use Rattle.uart_virtual.proofs.port.VirtualPortWith.try_new.Goals as goal

-- a port takes no more memory than there can be, and its chip less than the port
pub new-requires : goal.new-requires
new-requires g c = within_port _ 9223372036854775808 (assumption c)

pub finish_unmoved-todo-requires : goal.finish_unmoved-todo-requires
finish_unmoved-todo-requires g c = (within_port _ 9223372036854775808 (assumption c), search rules)
