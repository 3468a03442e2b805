use Rattle.std.proofs.Common.{rules, ◌<◌, length, sym, arith}
use Rattle.uart_spec.specs.FifoSize.{characters}
use Rattle.uart_chip.proofs.Errors.{count_put, count_fits}
use Rattle.uart_chip.proofs.Sizes.{at_most_256}
use Rattle.uart_chip.proofs.characters.CharactersFifoCharacter.push.Goals as goal

pub overflow_add-self : goal.overflow_add-self
overflow_add-self g c =
    let xs = g.Q.Fifo.items c.self.inside.queue in
    let size = g.Q.Fifo.size_of c.self.inside.queue in
    let few : length xs < characters size = search rules in
    let most = at_most_256 size in
    let e = count_fits xs c.args.item c.self.inside.errors c.self.invariant (omega (arith, few, most)) in
    rw c.error_weight.ensures (omega (arith, e))

pub invariant_of-self : goal.invariant_of-self
invariant_of-self g c =
    let xs = g.Q.Fifo.items c.self.inside.queue in
    rw (c.error_weight.ensures, c.self.invariant, c.push.ensures.items) (sym (count_put xs c.args.item))
