use Rattle.std.proofs.Common.{◌≡◌, ◌≤◌, ◌++◌, length, drop}
use Rattle.uart_chip.proofs.wire.send.Given as goal

-- the bytes that are on the wire, and then those that are left, are all
abbrev pub invariant-loop-byte : goal.invariant-loop-byte
invariant-loop-byte g l = record {
  told : g.W.Wire.sent l.wire ++ drop l.byte-index l.bytes ≡ l.bytes;
  fits : length l.bytes ≤ g.W.Wire.most l.wire;
  same : g.W.Wire.most l.wire ≡ g.W.Wire.most l.fn.wire;
}
