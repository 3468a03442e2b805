use Rattle.uart_link.proofs.Names.{arith, sym}
use Rattle.uart_link.proofs.News.{is_new, known_new}
use Rattle.uart_link.proofs.device.CabledChip.new_sized.Goals as goal

pub invariant_of-result : goal.invariant_of-result
invariant_of-result c = (
  omega arith,
  omega (arith, c.in-Ok-with_capacity.ensures.exact),
  known_new _ _ _ _ _ _ _ _ c.in-Ok.ensures c.in-Ok-with_capacity.ensures.items (sym c.in_default.ensures),
)

pub returns-clause-built : goal.returns-clause-built
returns-clause-built c = is_new _ _ _ _ _ _ _ _ c.in-Ok.ensures c.in-Ok-with_capacity.ensures.items
