use Rattle.uart_chip.proofs.soundness.Sounds.{whole_read}
use Rattle.uart_chip.proofs.device.Device16550Backend.read.Goals as goal

pub invariant_of-self : goal.invariant_of-self
invariant_of-self c = (c.self.invariant.0, rw c.read.ensures.after (whole_read c.args.register_offset _ c.self.invariant.1))
