use Rattle.uart_virtual.proofs.Sizes.{within_port}
use Rattle.uart_virtual.proofs.port.VirtualPortWith.read.Goals as goal

pub invariant_of-self : goal.invariant_of-self
invariant_of-self g c = record { told = c.read.ensures.holds; still = c.read.ensures.still }

-- a port takes no more memory than there can be, and its chip less than the port
pub read-requires : goal.read-requires
read-requires g c =
    (within_port _ 9223372036854775808 (assumption c), (c.requires, (c.self.invariant.told, c.self.invariant.still)))
