use Rattle.std.proofs.Common.{sym}
use Rattle.uart_chip.proofs.Errors.{any_of_all}
use Rattle.uart_chip.proofs.characters.Characters.has_errors.Goals as goal

pub returns : goal.returns
returns g c = rw (c.self.invariant, ← c.self.view_is) (sym (any_of_all (g.Q.Fifo.items c.self.inside.queue)))
