use Rattle.std.proofs.Common.{◌≡◌, ◌≤◌, length, take, drop}
use Rattle.uart_ring.specs.Notes.{bytes_of, errors_of}
use Rattle.uart_ring.specs.Queue.{latest}
use Rattle.uart_ring.proofs.ring.noted.copy_with_errors.Given as goal

abbrev pub invariant-loop-place : goal.invariant-loop-place
invariant-loop-place l = record {
  within : l.place ≤ length l.bytes.items;
  bytes : bytes_of (take l.place l.slots) ≡ take l.place l.bytes.items;
  errors : errors_of (take l.place l.slots) ≡ take l.place (latest (length l.bytes.items) l.noted.items);
  rest : drop l.place l.slots ≡ drop l.place l.fn.slots;
}
