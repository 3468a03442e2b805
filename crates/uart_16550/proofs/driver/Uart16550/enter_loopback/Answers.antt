use Rattle.std.proofs.Common.{refl}
use Rattle.uart_spec.specs.declared.registers.offsets.TheConstants as offsets
use Rattle.uart_spec.specs.declared.registers.modem_control.TheConstants.MCR
use Rattle.uart_16550.specs.Driver.{with_fifo}
use Rattle.uart_16550.proofs.Making.{made_then, made_only}
use Rattle.uart_16550.proofs.Doings.{did_then, did_made, did_set}
use Rattle.uart_16550.proofs.Loopbacks.{made_value}
use Rattle.uart_16550.proofs.driver.Uart16550.enter_loopback.Goals as goal

pub returns : goal.returns
returns g c =
    let on = c.set_fifo-self.result in
    let d = c.set_fifo-self.new.self in
    let writes =
    made_only _ _ c.write_register.ensures (made_value offsets.MCR _ MCR.LOOP_BACK.0 (c.bits.ensures tt) c.write_register-2.ensures) in
    did_then (did_made (made_then (made_only _ _ c.read_msr-before.ensures writes) c.set_fifo-self.ensures))
    (did_set _ (with_fifo on) d (record d { fifo_enabled = on }) refl refl)
