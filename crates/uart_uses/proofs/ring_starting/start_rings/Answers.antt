use Rattle.uart_uses.proofs.RingStarts.{new_fits}
use Rattle.uart_uses.proofs.ring_starting.start_rings.Goals as goal

pub returns-in-Ok-clause-begins : goal.returns-in-Ok-clause-begins
returns-in-Ok-clause-begins c =
    let fits = new_fits c.smallest_size_fits.ensures _ _ _ c.new_with_backend-uart.ensures in
    c.init_leaves_ready.ensures.ready _ _ c.in-Ok.ring fits c.in_default.ensures c.in-Ok.ensures.made.uart

pub returns-in-Ok-clause-wired : goal.returns-in-Ok-clause-wired
returns-in-Ok-clause-wired c = c.init_leaves_ready.ensures.wired _ _ c.in-Ok.ring c.in_default.ensures c.in-Ok.ensures.made.uart
