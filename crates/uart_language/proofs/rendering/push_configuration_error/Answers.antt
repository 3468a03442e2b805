use Rattle.std.proofs.Common.{append_assoc}
use Rattle.uart_language.proofs.rendering.push_configuration_error.Goals as goal

pub returns-in_ok-extend_from_slice-in-ModemControl :
    goal.returns-in_ok-extend_from_slice-in-ModemControl
returns-in_ok-extend_from_slice-in-ModemControl c =
    rw c.in-ModemControl.is
    (simp append_assoc at
    (rw (
      c.in_ok-extend_from_slice-in-ModemControl.ensures.items,
      c.bits-in-ModemControl.ensures,
      c.bits-in-ModemControl-2.ensures,
    ) at c.push_registers-in-ModemControl.ensures))
