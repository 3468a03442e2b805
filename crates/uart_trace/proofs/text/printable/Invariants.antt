use Rattle.std.proofs.Common.{◌≡◌, take}
use Rattle.std.specs.String.{string_bytes}
use Rattle.uart_trace.specs.Trace.{printable}
use Rattle.uart_trace.proofs.text.printable.Given as goal

abbrev pub invariant-loop-byte : goal.invariant-loop-byte
invariant-loop-byte l = string_bytes l.text ≡ printable (take l.byte-index l.bytes)
