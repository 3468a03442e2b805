use Rattle.std.proofs.Common.{inr, sym, ◌∙◌}
use Rattle.uart_spec.specs.declared.registers.offsets.TheConstants as offsets
use Rattle.uart_spec.specs.declared.registers.modem_control.TheConstants.MCR
use Rattle.uart_spec.specs.declared.registers.modem_status.TheConstants.MSR
use Rattle.uart_16550.proofs.Making.{made_then, made_asks, made_among}
use Rattle.uart_16550.proofs.driver.Uart16550.is_clear_to_send.Goals as goal

pub returns : goal.returns
returns g c =
    let mcr = sym (c.from_bits_retain.ensures tt) in
    made_among (λ l t. inr t)
    (made_then
    (made_asks offsets.MCR _ MCR.LOOP_BACK.0 _ c.read_register.ensures ((rw mcr (sym (c.contains.ensures tt))) ∙ c.if-contains.false))
    (made_asks offsets.MSR _ MSR.CTS.0 _ c.read_msr.ensures (sym (c.contains-2.ensures tt))))
