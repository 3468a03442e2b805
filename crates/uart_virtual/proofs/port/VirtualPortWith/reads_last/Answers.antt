use Rattle.uart_virtual.proofs.Sizes.{within_port}
use Rattle.uart_virtual.proofs.port.VirtualPortWith.reads_last.Goals as goal

-- a port takes no more memory than there can be, and its chip less than the port
pub waiting_len-requires : goal.waiting_len-requires
waiting_len-requires g c = within_port _ 9223372036854775808 (assumption c)

pub is_dlab_set-requires : goal.is_dlab_set-requires
is_dlab_set-requires g c = within_port _ 9223372036854775808 (assumption c)
