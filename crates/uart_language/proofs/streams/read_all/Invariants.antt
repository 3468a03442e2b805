use Rattle.std.proofs.Common.{◌≡◌, ◌≤◌, ◌-◌, length}
use Rattle.std.specs.Io.KnownBytes.{Consumes}
use Rattle.uart_language.specs.declared.limits.TheConstants.{MOST_READ}
use Rattle.uart_language.proofs.streams.read_all.Given as goal

abbrev pub invariant-loop-chunk : goal.invariant-loop-chunk
invariant-loop-chunk g l = record {
  consumed : Consumes (g.R.Input.remaining l.fn.reader) (g.R.Input.remaining l.reader) l.text.items;
  works : g.R.Input.has_failed l.reader ≡ g.R.Input.has_failed l.fn.reader;
  bound : length l.text.items ≤ MOST_READ;
}

abbrev pub decreases-loop-chunk : goal.decreases-loop-chunk
decreases-loop-chunk g l = MOST_READ - length l.text.items
