use Rattle.std.proofs.Common.{ℕ, ap, sym, ◌∙◌}
use Rattle.uart_c.proofs.Quick.{quiet_told, quiet_todo}
use Rattle.uart_c.specs.Port.{nothing_but, told_of}
use Rattle.uart_c.specs.State.{chip_of}
use Rattle.uart_c.proofs.port.report.Goals as goal

pub returns-then-leaves_nothing-clause-told : goal.returns-then-leaves_nothing-clause-told
returns-then-leaves_nothing-clause-told c =
    quiet_told c.args.kind c.args.was_up (chip_of c.args.port.now.chip) (told_of c.args.port.now.told)
    (sym c.leaves_nothing.ensures ∙ c.if-leaves_nothing.true)

pub returns-then-leaves_nothing-clause-todo : goal.returns-then-leaves_nothing-clause-todo
returns-then-leaves_nothing-clause-todo c =
    c.nothing_but.ensures ∙ (ap (λ (ready : ℕ). nothing_but ready) c.len.ensures ∙
    quiet_todo c.args.kind c.args.was_up (chip_of c.args.port.now.chip) (told_of c.args.port.now.told)
    (sym c.leaves_nothing.ensures ∙ c.if-leaves_nothing.true))

pub returns-else-leaves_nothing-clause-canonical : goal.returns-else-leaves_nothing-clause-canonical
returns-else-leaves_nothing-clause-canonical c w = c.decide.ensures.canonical w.0
