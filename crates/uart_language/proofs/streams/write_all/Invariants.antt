use Rattle.std.proofs.Common.{◌≡◌, ◌≤◌, ◌-◌, length, take}
use Rattle.std.specs.Io.KnownBytes.{Appends}
use Rattle.uart_language.proofs.streams.write_all.Given as goal

abbrev pub invariant-loop-done : goal.invariant-loop-done
invariant-loop-done g l =
    Appends (g.W.Output.contents l.fn.writer) (g.W.Output.contents l.writer) (take l.done l.bytes)
    × (g.W.Output.has_failed l.writer ≡ g.W.Output.has_failed l.fn.writer) × (l.done ≤ length l.bytes)

abbrev pub decreases-loop-done : goal.decreases-loop-done
decreases-loop-done g l = length l.bytes - l.done
