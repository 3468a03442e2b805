use Rattle.std.proofs.Common.{◌∙◌, ℕ, Bool, ap, refl}
use Rattle.uart_spec.specs.declared.config.Config.{Config}
use Rattle.uart_16550.specs.Grammar.{Only}
use Rattle.uart_16550.specs.Driver.{fields, with_interrupts, with_fifo}
use Rattle.uart_16550.specs.Setup.{fifo_writes, stays_on}
use Rattle.uart_16550.proofs.Making.{made_among, made_only}
use Rattle.uart_16550.proofs.Doings.{did_then, did_made, did_set}
use Rattle.uart_16550.proofs.driver.Uart16550.quiesce.Goals as goal

pub returns : goal.returns
returns g c =
    let before = c.args.self.now in
    let action = c.args.fifos in
    let none = ap (λ (x : ℕ). with_interrupts x (fields before)) (c.from_bits_retain-self.ensures tt) in
    let outputs = made_only _ _ c.write_register.ensures c.set_modem_control.ensures in
    let level = ap (λ (k : Config). k.fifo_trigger_level) outputs.config in
    let fifos = made_among {M = Only (fifo_writes action before.fifo_enabled before.config.fifo_trigger_level)}
    (λ l t. record { is = rw (outputs.fifo, level) at t.is }) c.change_fifos-self.ensures.made in
    let on = c.change_fifos-self.ensures.on ∙ ap (stays_on action) outputs.fifo in
    let switched = ap (λ (x : Bool). with_fifo x (fields c.change_fifos-self.new.self)) on in
    let did = did_then (did_set _ (with_interrupts 0) before _ refl none)
    (did_then (did_made (made_only _ _ outputs fifos))
    (did_set _ (with_fifo (stays_on action before.fifo_enabled)) c.change_fifos-self.new.self
    (record c.change_fifos-self.new.self { fifo_enabled = c.change_fifos-self.result }) refl switched)) in
    record { list = did.list; path = did.path; does = did.does }
