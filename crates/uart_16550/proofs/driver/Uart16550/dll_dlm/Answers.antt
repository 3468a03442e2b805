use Rattle.std.proofs.Common.{◌≡◌}
use Rattle.uart_spec.specs.declared.registers.line_control.TheConstants.LCR
use Rattle.uart_16550.proofs.Making.{made_only, made_among}
use Rattle.uart_16550.proofs.driver.Uart16550.dll_dlm.Goals as goal

pub returns : goal.returns
returns g c =
    let dlab : c.bits.result ≡ LCR.DLAB.0 = c.bits.ensures tt in
    made_among (λ l t. (_, rw dlab at t.is))
    (made_only _ _ (made_only _ _ (made_only _ _ (made_only _ _ c.read_register-lcr.ensures c.write_register.ensures)
    c.read_register-dll.ensures) c.read_register-dlm.ensures) c.write_register-2.ensures)
