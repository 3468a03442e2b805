use Rattle.uart_link.proofs.Names.{whole_read}
use Rattle.uart_link.proofs.Wireds.{wired_read}
use Rattle.uart_link.proofs.device.CabledChipBackend.read.Goals as goal

pub invariant_of-self : goal.invariant_of-self
invariant_of-self c = (
  c.self.invariant.0,
  c.self.invariant.1,
  record {
    whole = rw c.read.ensures.after (whole_read c.args.register_offset _ c.self.invariant.2.whole);
    unmarked = c.self.invariant.2.unmarked;
    wired = rw c.read.ensures.after (wired_read c.args.register_offset c.self.inside.uart c.self.invariant.2.wired);
  },
)
