use Rattle.std.proofs.Common.{◌-◌, vec_len}
use Rattle.uart_chip.specs.Machine.{at_mark}
use Rattle.uart_chip.proofs.soundness.Schedules.{IsOnTheWay}
use Rattle.uart_chip.proofs.device.Device16550.next.Given as goal

abbrev pub invariant-loop-self : goal.invariant-loop-self
invariant-loop-self l =
    IsOnTheWay at_mark l.fn.self l.self-inside.uart l.self-inside.cursor l.self-inside.schedule.items

abbrev pub decreases-loop-self : goal.decreases-loop-self
decreases-loop-self l = vec_len l.self-inside.schedule - l.self-inside.cursor
