use Rattle.std.proofs.Common.{◌∙◌, ℕ, [], ap, refl, sym, bit_or, unwrap_or}
use Rattle.uart_spec.specs.declared.config.Config.{Config}
use Rattle.uart_spec.specs.declared.registers.fifo_control.TheConstants.FCR
use Rattle.uart_spec.specs.declared.registers.fifo_trigger_level.FifoTriggerLevel.TheVariants.{One}
use Rattle.uart_spec.specs.declared.registers.line_control.TheConstants.LCR
use Rattle.uart_spec.specs.declared.registers.offsets.TheConstants as offsets
use Rattle.uart_16550.specs.Setup.{level_bits}
use Rattle.uart_16550.specs.Sizing.{Shows64}
use Rattle.uart_16550.proofs.Loopbacks.{made_value}
use Rattle.uart_16550.proofs.Making.{made_then, made_only, made_among}
use Rattle.uart_16550.proofs.Doings.{did_made}
use Rattle.uart_16550.proofs.driver.Uart16550.enable_64_byte_fifos.Goals as goal

pub returns-then-not-self : goal.returns-then-not-self
returns-then-not-self g c = record { list = []; path = refl; does = (c.if-not-self.true, refl, refl) }

pub returns-then-not-wait_for : goal.returns-then-not-wait_for
returns-then-not-wait_for g c =
    let waits = did_made (made_then (made_only _ _ c.lcr-lcr.ensures c.ier-ier.ensures) c.if-not-wait_for.ensures) in
    record { list = waits.list; path = waits.path; does = (c.if-not-self.false, _, _, waits.does) }

pub returns : goal.returns
returns g c =
    let begun = made_then (made_only _ _ c.lcr-lcr.ensures c.ier-ier.ensures) c.if-not-wait_for.ensures in
    let configured = ap (λ (k : Config). level_bits (unwrap_or k.fifo_trigger_level One)) begun.config in
    let level = c.level_control_of-control.ensures ∙ ap level_bits c.fifo_level.ensures ∙ configured in
    let opened =
    c.bits.ensures tt ∙ c.union-opened.ensures tt ∙ ap (λ (n : ℕ). bit_or n LCR.DLAB.0) (c.difference.ensures tt) in
    let asking = c.bits-2.ensures tt ∙ c.union.ensures tt ∙ ap (λ (n : ℕ). bit_or n FCR.FIFO_64_ENABLE.0) level in
    let writes =
    made_only _ _ (made_only _ _ (made_only _ _ (made_only _ _ c.write_register.ensures
    (made_value offsets.LCR _ _ opened c.write_register-2.ensures)) (made_value offsets.FCR _ _ asking c.write_register-3.ensures))
    (made_value offsets.LCR _ _ (c.bits-3.ensures tt) c.write_register-4.ensures))
    (made_value offsets.FCR _ _ (c.bits-4.ensures tt ∙ level) c.write_register-5.ensures) in
    let asked = made_among {M = Shows64 _} (λ l t. (_, sym c.is_64_shown-on.ensures, t.is)) c.isr.ensures in
    let restored = made_value offsets.IER _ _ (c.bits-5.ensures tt) c.write_register-6.ensures in
    let all = did_made (made_then begun (made_then writes (made_then asked restored))) in
    record { list = all.list; path = all.path; does = (c.if-not-self.false, _, _, all.does) }
