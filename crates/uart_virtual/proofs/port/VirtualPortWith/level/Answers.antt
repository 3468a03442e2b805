use Rattle.uart_virtual.proofs.Times.{still_ticks}
use Rattle.uart_virtual.proofs.Sizes.{within_port}
use Rattle.uart_virtual.proofs.port.VirtualPortWith.level.Goals as goal

pub returns-clause-time : goal.returns-clause-time
returns-clause-time g c n =
    rw (← c.self.view_is)
    (still_ticks n c.self.inside.chip c.is_interrupting.ensures.live.whole.sound.chip c.self.invariant.still)

-- a port takes no more memory than there can be, and its chip less than the port
pub is_interrupting-requires : goal.is_interrupting-requires
is_interrupting-requires g c = within_port _ 9223372036854775808 (assumption c)
