use Rattle.uart_link.proofs.Names.{◌-◌, ◌≤◌, vec_len, vec_capacity, settled, CALL_MOMENTS}
use Rattle.uart_link.proofs.Schedules.{IsOnTheWay}
use Rattle.uart_link.proofs.device.CabledChip.settle.Given as goal

abbrev pub invariant-loop-self : goal.invariant-loop-self
invariant-loop-self l = record {
  way : IsOnTheWay settled l.fn.self l.self-inside.uart l.self-inside.cursor l.self-inside.events.items l.self-inside.remaining;
  room : CALL_MOMENTS ≤ vec_capacity l.self-inside.events;
}

abbrev pub decreases-loop-self : goal.decreases-loop-self
decreases-loop-self l = vec_len l.self-inside.events - l.self-inside.cursor
