use Rattle.std.proofs.Common.{◌≡◌, ◌∙◌, ℕ, [], ◌∷◌, ap, sym}
use Rattle.uart_spec.specs.declared.registers.offsets.TheConstants as offsets
use Rattle.uart_spec.specs.declared.registers.interrupt_status.TheConstants.ISR
use Rattle.uart_spec.specs.declared.access.Access.TheVariants.{Write}
use Rattle.uart_16550.specs.Init.{fifo_bits}
use Rattle.uart_16550.proofs.Making.{made_then, made_asks, made_among}
use Rattle.uart_16550.proofs.driver.Uart16550.set_fifo.Goals as goal

pub returns-in-Some : goal.returns-in-Some
returns-in-Some g c =
    let bits : c.bits.result ≡ fifo_bits c.args.level = c.bits.ensures tt ∙ c.fifo_control_of.ensures in
    let written =
    made_among
    (λ l t. record {
      is = t.is ∙
          ap (λ (x : ℕ). Write offsets.FCR x ∷ []) (bits ∙ ap fifo_bits c.in-Some.is);
    }) c.write_register.ensures in
    let asked = made_asks offsets.ISR _ ISR.FIFOS_ENABLED.0 _ c.isr.ensures (sym c.fifo_enabled.ensures) in
    made_among (λ l t. rw c.in-Some.is t) (made_then written asked)
