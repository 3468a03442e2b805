use Rattle.uart_link.proofs.Names.{rules, whole_write}
use Rattle.std.proofs.Math.Facts.{Fits-lt-pow}
use Rattle.uart_link.proofs.Wireds.{wired_write}
use Rattle.uart_link.proofs.device.CabledChipBackend.write.Goals as goal

pub invariant_of-self : goal.invariant_of-self
invariant_of-self c = (
  c.self.invariant.0,
  c.self.invariant.1,
  record {
    whole = rw c.write.ensures
        (whole_write c.args.register_offset c.args.value _ (search (rules, Fits-lt-pow)) c.self.invariant.2.whole);
    unmarked = c.self.invariant.2.unmarked;
    wired = rw c.write.ensures (wired_write c.args.register_offset c.args.value c.self.inside.uart c.self.invariant.2.wired);
  },
)
