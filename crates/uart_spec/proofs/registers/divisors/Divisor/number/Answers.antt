use Rattle.std.proofs.Common.{◌∙◌}
use Rattle.uart_spec.proofs.DivisorLemmas.{number_once, number_divides, number_every}
use Rattle.uart_spec.proofs.registers.divisors.Divisor.number.Goals as goal

pub returns-clause-divides : goal.returns-clause-divides
returns-clause-divides c = rw c.discriminant.ensures (number_divides c.args.self)

pub returns-clause-once : goal.returns-clause-once
returns-clause-once c other same = number_once other c.args.self (same ∙ c.discriminant.ensures)

pub returns-clause-every : goal.returns-clause-every
returns-clause-every c = number_every
