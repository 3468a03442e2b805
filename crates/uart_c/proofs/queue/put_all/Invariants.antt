use Rattle.std.proofs.Common.{◌≡◌, ◌≤◌, ◌++◌, drop, take, length}
use Rattle.uart_c.proofs.queue.put_all.Given as goal

-- the items that are in, and then those that are left, are all
abbrev pub invariant-loop-item : goal.invariant-loop-item
invariant-loop-item g l = record {
  put : take l.len l.items ++ drop l.item-index l.fn.all ≡ l.fn.all;
  size : length l.items ≡ length l.fn.items;
  fits : length l.fn.all ≤ length l.fn.items;
  len : l.len ≤ length l.fn.items;
}
