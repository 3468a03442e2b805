use Rattle.std.proofs.Common.{◌∙◌, ℕ, ap, refl, subst, bit_or}
use Rattle.uart_spec.specs.declared.config.Config.{Config}
use Rattle.uart_spec.specs.declared.registers.modem_control.TheConstants.MCR
use Rattle.uart_16550.specs.Driver.{Fields, with_config}
use Rattle.uart_16550.specs.Init.{Ends}
use Rattle.uart_16550.proofs.Doings.{did_then, did_made, did_set, did_among}
use Rattle.uart_16550.proofs.Inits.{begun}
use Rattle.uart_16550.proofs.driver.Uart16550.set_up.Goals as goal

pub returns-then-not-check_present : goal.returns-then-not-check_present
returns-then-not-check_present g c =
    did_among (λ f l after t. (c.args.divisor, c.requires, t))
    (did_then (did_set _ (with_config c.args.config) c.args.self.now _ refl refl) (did_made c.if-not-check_present.ensures))

pub returns-then-not-wait_for : goal.returns-then-not-wait_for
returns-then-not-wait_for g c =
    let control =
    c.bits.ensures tt ∙ c.union-modem_control.ensures tt ∙ ap (λ (x : ℕ). bit_or x MCR.OUT_2_INT_ENABLE.0) (c.union.ensures tt) in
    let on = c.set_fifo-self.result in
    did_among (λ f l after t. (c.args.divisor, on, c.requires, t))
    (did_then
    (begun c.args.config c.args.divisor _ _ on c.frame_of-frame.ensures control c.if-not-check_present.ensures
    c.set_line.ensures c.set_fifo-self.ensures c.drain.ensures c.write_register.ensures)
    (did_made c.if-not-wait_for.ensures))

pub returns : goal.returns
returns g c =
    let control =
    c.bits.ensures tt ∙ c.union-modem_control.ensures tt ∙ ap (λ (x : ℕ). bit_or x MCR.OUT_2_INT_ENABLE.0) (c.union.ensures tt) in
    let on = c.set_fifo-self.result in
    let config = c.if-not-wait_for.ensures.config ∙ c.write_register.ensures.config ∙ ap (λ (f : Fields). f.config) c.drain.ensures.does.1
    ∙ c.set_fifo-self.ensures.config ∙ c.set_line.ensures.config ∙ c.if-not-check_present.ensures.config in
    did_among (λ f l after t. (c.args.divisor, on, c.requires, t))
    (did_then
    (begun c.args.config c.args.divisor _ _ on c.frame_of-frame.ensures control c.if-not-check_present.ensures
    c.set_line.ensures c.set_fifo-self.ensures c.drain.ensures c.write_register.ensures)
    (did_then (did_made c.if-not-wait_for.ensures)
    (did_among (λ f l after t. let E : Config → Type 0 = λ k. Ends k f l after in subst E config t) c.finish_init.ensures)))
