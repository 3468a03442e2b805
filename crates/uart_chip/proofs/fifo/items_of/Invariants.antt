use Rattle.std.proofs.Common.{◌≡◌, ◌≤◌, take, length}
use Rattle.arrayvec.specs.ArrayVec.{array_vec_len}
use Rattle.uart_chip.proofs.fifo.items_of.Given as goal

abbrev pub invariant-loop-i : goal.invariant-loop-i
invariant-loop-i g l = record {
  told : l.items.items ≡ take l.i (g.Q.Fifo.items l.queue);
  len : array_vec_len l.items ≡ l.i;
  end : l.i-end ≡ length (g.Q.Fifo.items l.queue);
  fits : l.i-end ≤ 16;
}
