use Rattle.std.proofs.Common.{take}
use Rattle.uart_port.specs.Playing.{writer_of}
use Rattle.uart_port.proofs.Plays.{IsBegun}
use Rattle.uart_port.proofs.playing.play.Given as goal

abbrev pub invariant-loop-i : goal.invariant-loop-i
invariant-loop-i g l =
    IsBegun g.F.PortFile.step l.fn.uart (take l.i l.calls) (g.W.Write.contents (writer_of l.fn.report))
    (g.W.Write.contents (writer_of l.report)) l.uart
