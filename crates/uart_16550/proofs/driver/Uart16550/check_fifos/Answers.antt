use Rattle.std.proofs.Common.{◌≡◌, ◌≢◌, ◌∙◌, Bool, ap, sym}
use Rattle.uart_spec.specs.Bits.{has}
use Rattle.uart_spec.specs.declared.errors.ConfigurationError.TheVariants.{Fifos}
use Rattle.uart_spec.specs.declared.registers.interrupt_status.TheConstants.ISR
use Rattle.uart_16550.proofs.Checks.{same_switch, other_switch}
use Rattle.uart_16550.proofs.Making.{made_among, made_only}
use Rattle.uart_16550.proofs.driver.Uart16550.check_fifos.Goals as goal

pub returns-then-shown-expected : goal.returns-then-shown-expected
returns-then-shown-expected g c =
    let on = c.args.self.now.fifo_enabled in
    let shown = c.fifo_enabled-shown.ensures in
    let differs = other_switch c.fifo_enabled-shown.result on c.if-shown-expected.true in
    let other : has c.isr.result.0 ISR.FIFOS_ENABLED.0 ≢ on = λ same. differs (shown ∙ same) in
    made_among (λ l t. (c.isr.result.0, other, ap (λ (x : Bool). Fifos on x) shown, rw (c.bits.ensures tt) at t.is))
    (made_only _ _ (made_only _ _ c.write_register.ensures c.isr.ensures) c.write_register-2.ensures)

pub returns : goal.returns
returns g c =
    let on = c.args.self.now.fifo_enabled in
    let same = sym c.fifo_enabled-shown.ensures ∙ same_switch c.fifo_enabled-shown.result on c.if-shown-expected.false in
    made_among (λ l t. (c.isr.result.0, same, rw (c.bits.ensures tt) at t.is))
    (made_only _ _ (made_only _ _ c.write_register.ensures c.isr.ensures) c.write_register-2.ensures)
