use Rattle.std.proofs.Common.{◌≡◌, ◌≤◌, drop}
use Rattle.uart_c.specs.Queue.{wire_of}
use Rattle.uart_c.specs.declared.queue.TheConstants.{WIRE_ROOM}
use Rattle.uart_c.proofs.queue.UartWire.remove.Given as goal

abbrev pub invariant-loop : goal.invariant-loop
invariant-loop l = record {
  left : wire_of l.self ≡ drop l.counter (wire_of l.fn.self);
  capacity : l.self.capacity ≡ l.fn.self.capacity;
  len : l.fn.self.len ≤ WIRE_ROOM → l.self.len ≤ WIRE_ROOM;
}
