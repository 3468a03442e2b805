use Rattle.std.proofs.Common.{◌≡◌}
use Rattle.std.specs.Io.KnownBytes.{Keeps}
use Rattle.uart_judges.specs.Streams.{ahead}
use Rattle.uart_judges.proofs.recording.reading.Recording.fill_line.Given as goal

abbrev pub invariant-fills : goal.invariant-fills
invariant-fills g l = record {
  place : l.self.place ≡ l.fn.self.place;
  kept : Keeps (ahead l.fn.self.window (g.R.Read.remaining l.fn.self.reader)) (ahead l.self.window (g.R.Read.remaining l.self.reader));
}
