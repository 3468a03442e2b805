use Rattle.uart_virtual.proofs.Sizes.{within_port}
use Rattle.uart_virtual.proofs.port.VirtualPortWith.reads_more.Goals as goal

-- a port takes no more memory than there can be, and its chip less than the port
pub has_input_interrupt_on-is_on-requires : goal.has_input_interrupt_on-is_on-requires
has_input_interrupt_on-is_on-requires g c = within_port _ 9223372036854775808 (assumption c)

pub waiting_len-requires : goal.waiting_len-requires
waiting_len-requires g c = within_port _ 9223372036854775808 (assumption c)

pub is_dlab_set-requires : goal.is_dlab_set-requires
is_dlab_set-requires g c = within_port _ 9223372036854775808 (assumption c)
