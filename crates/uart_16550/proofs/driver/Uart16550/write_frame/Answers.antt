use Rattle.std.proofs.Common.{◌≡◌, ◌∙◌, bit_or}
use Rattle.uart_spec.specs.declared.registers.line_control.TheConstants.LCR
use Rattle.uart_16550.proofs.Making.{made_among, made_only}
use Rattle.uart_16550.proofs.driver.Uart16550.write_frame.Goals as goal

pub returns : goal.returns
returns g c =
    let first : c.bits.result ≡ bit_or c.args.frame.0 LCR.DLAB.0 = c.bits.ensures tt ∙ c.union.ensures tt in
    let last : c.bits-2.result ≡ c.args.frame.0 = c.bits-2.ensures tt in
    made_among (λ l t. record { is = rw (first, last) at t.is })
    (made_only _ _ (made_only _ _ (made_only _ _
    c.write_register.ensures c.write_register-2.ensures) c.write_register-3.ensures) c.write_register-4.ensures)
