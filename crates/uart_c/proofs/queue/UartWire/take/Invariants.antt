use Rattle.std.proofs.Common.{◌≡◌, ◌≤◌, ◌++◌, take, drop}
use Rattle.uart_c.specs.Queue.{wire_of}
use Rattle.uart_c.specs.declared.queue.TheConstants.{WIRE_ROOM}
use Rattle.uart_c.proofs.queue.UartWire.take.Given as goal

abbrev pub invariant-loop-i : goal.invariant-loop-i
invariant-loop-i l = record {
  left : wire_of l.self ≡ drop l.i (wire_of l.fn.self);
  taken : l.bytes ≡ take l.i (wire_of l.fn.self) ++ drop l.i l.fn.bytes;
  capacity : l.self.capacity ≡ l.fn.self.capacity;
  len : l.fn.self.len ≤ WIRE_ROOM → l.self.len ≤ WIRE_ROOM;
}
