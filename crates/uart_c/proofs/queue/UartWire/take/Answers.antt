use Rattle.std.proofs.Common.{◌∙◌, arith}
use Rattle.uart_c.specs.Queue.{wire_of}
use Rattle.uart_c.proofs.Queues.{one_taken}
use Rattle.uart_c.proofs.queue.UartWire.take.Goals as goal

pub loop-i-preserved : goal.loop-i-preserved
loop-i-preserved c =
    let one =
    one_taken c.loop-i.i (wire_of c.args.self.now) (wire_of c.loop-i.self) (wire_of c.pop_front.new.self) c.loop-i.bytes
    c.args.bytes.now c.pop_front.result c.loop-i.invariant.left c.loop-i.invariant.taken c.pop_front.ensures.front
    c.pop_front.ensures.after (omega arith) in
    record {
      left = one.0;
      taken = one.1;
      capacity = c.pop_front.ensures.capacity ∙ c.loop-i.invariant.capacity;
      len = λ w. c.pop_front.ensures.len;
    }
