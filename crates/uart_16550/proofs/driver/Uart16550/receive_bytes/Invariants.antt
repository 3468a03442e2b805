use Rattle.std.proofs.Common.{◌≡◌, take, drop}
use Rattle.uart_16550.specs.Grammar.{InOrder}
use Rattle.uart_16550.specs.Receive.{Hit}
use Rattle.uart_16550.specs.Driver.{Made}
use Rattle.uart_16550.proofs.driver.Uart16550.receive_bytes.Given as goal

abbrev pub invariant-loop-count : goal.invariant-loop-count
invariant-loop-count g l = record {
  made : Made g.B.Backend.step (InOrder Hit (take l.count l.buffer)) l.fn.self l.self;
  rest : drop l.count l.buffer ≡ drop l.count l.fn.buffer;
}
