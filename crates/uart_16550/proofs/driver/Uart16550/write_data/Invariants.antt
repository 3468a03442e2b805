use Rattle.std.proofs.Common.{take}
use Rattle.uart_16550.specs.Grammar.{Only}
use Rattle.uart_16550.specs.Transmit.{data_writes}
use Rattle.uart_16550.specs.Driver.{Made}
use Rattle.uart_16550.proofs.driver.Uart16550.write_data.Given as goal

abbrev pub invariant-loop-byte : goal.invariant-loop-byte
invariant-loop-byte g l = Made g.B.Backend.step (Only (data_writes (take l.byte-index l.bytes))) l.fn.self l.self
