use Rattle.std.proofs.Common.{◌≡◌, ◌∙◌, ℕ, ap, rules}
use Rattle.uart_chip.specs.Receiver.{ReceiverState}
use Rattle.uart_chip.specs.Status.{receiver_status}
use Rattle.uart_spec.specs.Bits.{has_any}
use Rattle.uart_spec.specs.declared.registers.line_status.TheConstants.LSR
use Rattle.uart_live.proofs.Dues.{errors_shown}
use Rattle.uart_live.proofs.due.has_line_errors.Goals as goal

pub returns : goal.returns
returns g c =
    let asked : c.intersects.result ≡ has_any c.status.result.0 LSR.LINE_ERRORS.0 = search rules in
    asked ∙
    (ap (λ (n : ℕ). has_any n LSR.LINE_ERRORS.0)
    (c.status.ensures ∙ ap (λ (r : ReceiverState). receiver_status r.queue r.is_overrun r.is_front_reported) c.receiver.ensures) ∙
    errors_shown (g.P.ChipParts.state c.args.parts.now))
