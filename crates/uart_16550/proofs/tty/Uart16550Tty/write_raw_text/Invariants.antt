use Rattle.std.proofs.Common.{◌≡◌, ◌-◌, ◌^◌, take, length, min}
use Rattle.uart_16550.specs.Expansion.{SendsEach, expansion}
use Rattle.uart_16550.specs.Tty.{TerminalMade}
use Rattle.uart_16550.proofs.tty.Uart16550Tty.write_raw_text.Given as goal

abbrev pub invariant-loop-byte : goal.invariant-loop-byte
invariant-loop-byte g l = record {
  made : TerminalMade g.B.Backend.step (SendsEach (expansion (take l.byte-index l.text))) l.fn.self l.self;
  count : l.done ≡ min (length (expansion (take l.byte-index l.text))) (2 ^ 64 - 1);
}
