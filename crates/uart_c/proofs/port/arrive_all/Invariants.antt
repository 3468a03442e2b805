use Rattle.std.proofs.Common.{◌≡◌, drop}
use Rattle.uart_c.specs.Canonical.{IsCanonical}
use Rattle.uart_c.specs.State.{chip_of}
use Rattle.uart_virtual.specs.Port.{arrive_all}
use Rattle.uart_c.proofs.port.arrive_all.Given as goal

abbrev pub invariant-loop-byte : goal.invariant-loop-byte
invariant-loop-byte l = record {
  arrived : arrive_all (drop l.byte-index l.bytes) (chip_of l.chip) ≡ arrive_all l.bytes (chip_of l.initial.chip);
  canonical : IsCanonical l.initial.chip → IsCanonical l.chip;
}
