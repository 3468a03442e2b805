use Rattle.std.proofs.Common.{◌≡◌, ◌≤◌, All, length, map, take}
use Rattle.uart_c.specs.Canonical.{IsFlag}
use Rattle.uart_c.specs.Queue.{character_of, fifo_size_of}
use Rattle.uart_c.specs.declared.queue.TheConstants.{FIFO_ROOM}
use Rattle.uart_spec.specs.FifoSize.{characters}
use Rattle.uart_c.proofs.queue.UartCharacters.restore.Given as goal

abbrev pub invariant-loop-character : goal.invariant-loop-character
invariant-loop-character l = record {
  put : map character_of (take l.self.len l.self.items) ≡ map character_of (take l.character-index l.waiting);
  size : length l.self.items ≡ FIFO_ROOM;
  fits : length l.waiting ≤ characters (fifo_size_of l.fn.fifo_size);
  len : l.self.len ≡ l.character-index;
  flags : All (λ character. IsFlag character.is_looped) (take l.self.len l.self.items);
}
