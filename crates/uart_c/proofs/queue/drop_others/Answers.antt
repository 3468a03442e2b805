use Rattle.std.proofs.Common.{arith}
use Rattle.uart_c.proofs.Queues.{block_moved}
use Rattle.uart_c.proofs.queue.drop_others.Goals as goal

pub loop-block-preserved : goal.loop-block-preserved
loop-block-preserved g c =
    block_moved c.loop-block.block _ c.args.items.now c.loop-block.items c.copy_within.new.self (omega arith) c.requires.places
    c.loop-block.auto.block (omega arith) c.loop-block.invariant c.copy_within.ensures.after
