use Rattle.uart_uses.proofs.RingStarts.{runs_from_empty}
use Rattle.uart_uses.proofs.ring_starting.run_from_init.Goals as goal

pub returns-in-Ok : goal.returns-in-Ok
returns-in-Ok c = runs_from_empty _ _ _ _ c.in-Ok.ensures.empty c.run_ring.ensures c.in-Ok.ensures.begins c.in-Ok.ensures.wired
