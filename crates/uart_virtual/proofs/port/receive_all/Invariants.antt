use Rattle.std.proofs.Common.{◌≡◌, drop}
use Rattle.uart_virtual.specs.Port.{arrive_all}
use Rattle.uart_virtual.proofs.port.receive_all.Given as goal

abbrev pub invariant-loop-byte : goal.invariant-loop-byte
invariant-loop-byte g l = arrive_all (drop l.byte-index l.input) l.chip ≡ arrive_all l.input l.initial.chip
