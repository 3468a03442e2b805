use Rattle.std.proofs.Common.{append_assoc}
use Rattle.uart_language.proofs.rendering.push_dump.Goals as goal

pub returns : goal.returns
returns c =
    simp append_assoc at
    (rw (
      c.in_ok-extend_from_slice.ensures.items,
      c.in_ok-push_register-3.ensures,
      c.in_ok-push_register-2.ensures,
      c.in_ok-push_register.ensures,
      c.in_ok-push_setup.ensures,
      c.bits.ensures,
      c.bits-2.ensures,
      c.from.ensures,
      c.divisor.ensures,
    ) at c.push_number.ensures)
