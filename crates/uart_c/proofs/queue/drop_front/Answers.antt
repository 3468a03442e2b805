use Rattle.std.proofs.Common.{◌∙◌, arith}
use Rattle.uart_c.proofs.Queues.{all_moved, first_moved}
use Rattle.uart_c.proofs.queue.drop_front.Goals as goal

pub returns-then-count-gt-FIFO_SIZE-clause-items : goal.returns-then-count-gt-FIFO_SIZE-clause-items
returns-then-count-gt-FIFO_SIZE-clause-items g c =
    c.drop_others.ensures.items ∙
    all_moved c.args.count c.args.items.now c.copy_within.new.self c.requires.places c.copy_within.ensures.after

pub returns-else-count-gt-FIFO_SIZE-clause-items : goal.returns-else-count-gt-FIFO_SIZE-clause-items
returns-else-count-gt-FIFO_SIZE-clause-items g c =
    first_moved 16 c.args.count c.args.items.now c.copy_within.new.self (omega arith) (omega arith) c.copy_within.ensures.after
