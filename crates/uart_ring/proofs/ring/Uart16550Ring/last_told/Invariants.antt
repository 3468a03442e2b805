use Rattle.std.proofs.Common.{◌≡◌, ◌≤◌, None, length, drop}
use Rattle.uart_ring.specs.Queue.{latest}
use Rattle.uart_ring.specs.Receive.{last_told}
use Rattle.uart_ring.proofs.ring.Uart16550Ring.last_told.Given as goal

-- the bytes that are left, after what was found so far, tell what all of them tell
abbrev pub invariant-loop-place : goal.invariant-loop-place
invariant-loop-place g l = record {
  within : l.place ≤ length l.self.receive.items;
  told : last_told l.told (drop l.place l.self.receive.items) ≡ last_told None (latest l.self.unlooked l.self.receive.items);
}
