use Rattle.std.proofs.Common.{zero-le, sym}
use Rattle.uart_chip.proofs.soundness.Builds.{whole_sized, is_sized}
use Rattle.uart_chip.proofs.device.Device16550.new_sized.Goals as goal

pub invariant_of-result : goal.invariant_of-result
invariant_of-result c =
    let here = is_sized _ _ _ _ _ _ _ _ _ c.in-Ok.ensures c.arrivals-arrivals.ensures c.deref-2.ensures.value in (
      zero-le,
      rw here (whole_sized _ c.args.size c.args.char_ticks c.args.wire_capacity c.args.cuts c.args.schedule.items
          (rw c.deref.ensures.value at (sym c.in_default.ensures))),
    )

pub returns-clause-built : goal.returns-clause-built
returns-clause-built c = is_sized _ _ _ _ _ _ _ _ _ c.in-Ok.ensures c.arrivals-arrivals.ensures c.deref-2.ensures.value
