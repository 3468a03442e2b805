use Rattle.std.proofs.Common.{◌∙◌, true, false, ap, refl, subst, inl, inr}
use Rattle.uart_spec.specs.declared.config.Config.{Config}
use Rattle.uart_16550.specs.Driver.{Fields, with_config}
use Rattle.uart_16550.specs.Init.{Ends}
use Rattle.uart_16550.proofs.Making.{made_then}
use Rattle.uart_16550.proofs.Doings.{did_then, did_made, did_set, did_among}
use Rattle.uart_16550.proofs.Inits.{made_set_up, waited}
use Rattle.uart_16550.proofs.driver.Uart16550.set_up_with.Goals as goal

pub returns-then-not-is_present : goal.returns-then-not-is_present
returns-then-not-is_present g c =
    did_among (λ f l after t. (c.args.divisor, c.requires, t))
    (did_then (did_set _ (with_config c.args.config) c.args.self.now _ refl refl) (did_made c.if-not-is_present.ensures))

pub returns-then-not-is_emptied : goal.returns-then-not-is_emptied
returns-then-not-is_emptied g c =
    let busy = waited _ _ false c.is_first.ensures c.if-not-is_emptied.ensures in
    did_among (λ f l after t. (c.args.divisor, c.requires, inl t))
    (did_then (did_set _ (with_config c.args.config) c.args.self.now _ refl refl)
    (did_made (made_then c.if-not-is_present.ensures busy)))

pub returns-then-not-is_emptied-2 : goal.returns-then-not-is_emptied-2
returns-then-not-is_emptied-2 g c =
    let empty = waited _ _ true c.is_first.ensures c.if-not-is_emptied.ensures in
    let busy = waited _ _ false c.is_last.ensures c.if-not-is_emptied-2.ensures in
    let on = c.set_fifo-self.result in
    did_among (λ f l after t. (c.args.divisor, c.requires, inr (on, t)))
    (did_then (did_set _ (with_config c.args.config) c.args.self.now _ refl refl)
    (did_then (did_made (made_then c.if-not-is_present.ensures empty))
    (did_then
    (made_set_up c.args.setup.now c.args.config c.args.divisor _ on c.frame_of-frame.ensures c.set_line.ensures c.set_fifo-self.ensures
    c.drain.ensures c.set_modem_control.ensures)
    (did_made busy))))

pub returns : goal.returns
returns g c =
    let empty = waited _ _ true c.is_first.ensures c.if-not-is_emptied.ensures in
    let emptied = waited _ _ true c.is_last.ensures c.if-not-is_emptied-2.ensures in
    let on = c.set_fifo-self.result in
    let config = c.if-not-is_emptied-2.ensures.config ∙ c.set_modem_control.ensures.config
    ∙ ap (λ (f : Fields). f.config) c.drain.ensures.does.1
    ∙ c.set_fifo-self.ensures.config ∙ c.set_line.ensures.config ∙ c.if-not-is_emptied.ensures.config
    ∙ c.if-not-is_present.ensures.config in
    did_among (λ f l after t. (c.args.divisor, on, c.requires, t))
    (did_then (did_set _ (with_config c.args.config) c.args.self.now _ refl refl)
    (did_then (did_made (made_then c.if-not-is_present.ensures empty))
    (did_then
    (made_set_up c.args.setup.now c.args.config c.args.divisor _ on c.frame_of-frame.ensures c.set_line.ensures c.set_fifo-self.ensures
    c.drain.ensures c.set_modem_control.ensures)
    (did_then (did_made emptied)
    (did_among (λ f l after t. let E : Config → Type 0 = λ k. Ends k f l after in subst E config t) c.finish_init.ensures)))))
