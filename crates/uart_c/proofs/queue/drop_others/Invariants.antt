use Rattle.std.proofs.Common.{◌≡◌, ◌++◌, ◌-◌, ◌*◌, drop, take}
use Rattle.uart_c.proofs.queue.drop_others.Given as goal

-- the items before the block have moved down
abbrev pub invariant-loop-block : goal.invariant-loop-block
invariant-loop-block g l =
    l.items ≡ take (16 * l.block - 1) (take 15 l.fn.items ++ drop 16 l.fn.items) ++ drop (16 * l.block - 1) l.fn.items
