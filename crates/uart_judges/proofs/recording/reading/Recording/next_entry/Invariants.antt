use Rattle.std.proofs.Common.{◌≤◌, ◌-◌}
use Rattle.uart_judges.specs.Streams.{ahead}
use Rattle.uart_judges.proofs.Steps.{Goes}
use Rattle.uart_judges.proofs.recording.reading.Recording.next_entry.Given as goal

abbrev pub invariant-lines : goal.invariant-lines
invariant-lines g l = record {
  onward : l.fn.self.place.number ≤ l.self.place.number;
  goes : Goes l.fn.self.place (ahead l.fn.self.window (g.R.Read.remaining l.fn.self.reader))
      l.self.place (ahead l.self.window (g.R.Read.remaining l.self.reader));
}

abbrev pub decreases-lines : goal.decreases-lines
decreases-lines g l = 0xffff_ffff_ffff_ffff - l.self.place.number
