use Rattle.std.proofs.Common.{arith}
use Rattle.uart_c.proofs.Queues.{wire_moved}
use Rattle.uart_c.proofs.queue.UartWire.pop_front.Goals as goal

pub returns-clause-after : goal.returns-clause-after
returns-clause-after c =
    wire_moved c.args.self.now.len c.len-count.result c.args.self.now.items c.copy_within.new.self (omega arith) c.len-count.ensures
    c.copy_within.ensures.after
