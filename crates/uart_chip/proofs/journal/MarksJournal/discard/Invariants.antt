use Rattle.std.proofs.Common.{◌≡◌, length, drop}
use Rattle.uart_chip.specs.Receiver.{discard}
use Rattle.uart_chip.proofs.journal.MarksJournal.discard.Given as goal

-- the characters that are left will leave the marks that all of them leave
abbrev pub invariant-loop-i : goal.invariant-loop-i
invariant-loop-i g l = record {
  told : discard (drop l.i (g.Q.Fifo.items l.characters)) l.self ≡ discard (g.Q.Fifo.items l.characters) l.fn.self;
  end : l.i-end ≡ length (g.Q.Fifo.items l.characters);
}
