use Rattle.uart_virtual.proofs.Sizes.{within_port}
use Rattle.uart_virtual.proofs.port.VirtualPortWith.take_output.Goals as goal

pub invariant_of-self : goal.invariant_of-self
invariant_of-self g c = record { told = c.take.ensures.holds; still = c.take.ensures.still }

-- a port takes no more memory than there can be, and its chip less than the port
pub take-requires : goal.take-requires
take-requires g c =
    (within_port _ 9223372036854775808 (assumption c), (c.self.invariant.told, c.self.invariant.still))
