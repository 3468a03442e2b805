use Rattle.std.proofs.Common.{◌≡◌, ◌≤◌, ◌++◌, length, drop}
use Rattle.uart_chip.proofs.characters.Characters.filled.Given as goal

-- the items that are in, and then those that are left, are all
abbrev pub invariant-loop-item : goal.invariant-loop-item
invariant-loop-item g l = record {
  told : l.characters.items ++ drop l.item-index l.items.items ≡ l.items.items;
  fits : length l.items.items ≤ 16;
  same : l.characters.size ≡ g.Q.Fifo.size_of l.fn.queue;
}
