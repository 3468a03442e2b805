use Rattle.uart_chip.proofs.Errors.{any_of_count}
use Rattle.uart_chip.proofs.characters.Characters.has_unreported_errors.Goals as goal

pub returns : goal.returns
returns g c =
    let xs = g.Q.Fifo.items c.self.inside.queue in
    rw (c.known.ensures, c.self.invariant, ← c.self.view_is) (any_of_count xs c.args.is_front_reported)
