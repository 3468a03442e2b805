use Rattle.std.proofs.Common.{◌≡◌, true, sym}
use Rattle.uart_spec.specs.declared.registers.offsets.TheConstants as offsets
use Rattle.uart_spec.specs.declared.registers.line_status.TheConstants.LSR
use Rattle.uart_16550.specs.Driver.{settings}
use Rattle.uart_16550.proofs.Making.{made_then, made_checked, made_asks}
use Rattle.uart_16550.proofs.driver.Uart16550.ready_to_send.Goals as goal

pub returns-then-not-is_clear_to_send : goal.returns-then-not-is_clear_to_send
returns-then-not-is_clear_to_send g c =
    let checked : (settings c.args.self.now).checks ≡ true = cc in
    let ready = made_asks offsets.LSR _ LSR.THR_EMPTY.0 _ c.read_lsr.ensures (sym (c.if-not-contains.ensures tt)) in
    made_checked checked (made_then ready c.if-not-is_clear_to_send.ensures)

pub returns : goal.returns
returns g c =
    let checked : (settings c.args.self.now).checks ≡ true = cc in
    let ready = made_asks offsets.LSR _ LSR.THR_EMPTY.0 _ c.read_lsr.ensures (sym (c.if-not-contains.ensures tt)) in
    made_checked checked (made_then ready c.if-not-is_clear_to_send.ensures)
