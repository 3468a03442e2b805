use Rattle.std.proofs.Common.{◌≡◌, List, ℕ, map, take, length}
use Rattle.uart_16550.specs.Grammar.{InOrder}
use Rattle.uart_16550.specs.Loopback.{Echo, test_message}
use Rattle.uart_16550.specs.Driver.{Made}
use Rattle.uart_16550.proofs.driver.Uart16550.echo_each.Given as goal

abbrev pub invariant-loop-i : goal.invariant-loop-i
invariant-loop-i g l = record {
  pairs : List (ℕ × ℕ);
  sent : map (λ pair. pair.0) pairs ≡ take l.i test_message;
  got : map (λ pair. pair.1) pairs ≡ take l.i l.actual;
  slots : length l.actual ≡ length test_message;
  made : Made g.B.Backend.step (InOrder Echo pairs) l.fn.self l.self;
}
