use Rattle.std.proofs.Common.{◌≡◌, ◌+◌, ◌≤◌}
use Rattle.uart_chip.specs.Chip.{ticks}
use Rattle.uart_chip.specs.Jumps as spec
use Rattle.uart_chip.specs.Jumps.{moves}
use Rattle.uart_chip.proofs.Jumps.{jumps_left}
use Rattle.uart_chip.proofs.controlling.advance.Given as goal

abbrev pub invariant-loop-left : goal.invariant-loop-left
invariant-loop-left g l = record {
  same : ticks l.left (g.P.ChipParts.state l.parts) ≡ ticks l.n (g.P.ChipParts.state l.fn.parts);
  jumps : l.jumps + jumps_left l.left (g.P.ChipParts.state l.parts) ≤ moves (g.P.ChipParts.state l.fn.parts).transmitter + 1;
  counted : l.jumps + spec.jumps_in l.left (g.P.ChipParts.state l.parts) ≡ spec.jumps_in l.n (g.P.ChipParts.state l.fn.parts);
  within : l.jumps + l.left ≤ l.n;
  canonical : g.P.ChipParts.canonical l.fn.parts → g.P.ChipParts.canonical l.parts;
}

abbrev pub decreases-loop-left : goal.decreases-loop-left
decreases-loop-left g l = l.left
