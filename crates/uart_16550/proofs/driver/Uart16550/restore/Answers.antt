use Rattle.std.proofs.Common.{◌≡◌, ◌∙◌, ℕ, Bool, [], ◌∷◌, ap, refl}
use Rattle.bitflags.specs.Sets.{without}
use Rattle.uart_spec.specs.Bits.{has}
use Rattle.uart_spec.specs.Dump.{divisor_of}
use Rattle.uart_spec.specs.declared.config.Config.{Config}
use Rattle.uart_spec.specs.declared.registers.interrupt_status.TheConstants.ISR
use Rattle.uart_spec.specs.declared.registers.line_control.TheConstants.LCR
use Rattle.uart_spec.specs.declared.registers.offsets.TheConstants as offsets
use Rattle.uart_spec.specs.declared.access.Access.TheVariants.{Write}
use Rattle.uart_16550.specs.Grammar.{Only}
use Rattle.uart_16550.specs.Driver.{with_interrupts, with_fifo}
use Rattle.uart_16550.specs.Frame.{unlooped}
use Rattle.uart_16550.specs.Init.{line_writes}
use Rattle.uart_16550.specs.Setup.{level_of, dumped_level, last_writes}
use Rattle.uart_16550.proofs.Making.{made_among, made_only, made_then}
use Rattle.uart_16550.proofs.Doings.{did_then, did_made, did_set}
use Rattle.uart_16550.proofs.Inits.{leveled}
use Rattle.uart_16550.proofs.driver.Uart16550.restore.Goals as goal

pub returns : goal.returns
returns g c =
    let dump = c.args.dump.now in
    let on = c.set_fifo-on.result in
    let frame = without 8 dump.lcr.0 LCR.DLAB.0 in
    let line = made_among {M = Only (line_writes (divisor_of dump) frame)}
    (λ l t. record { is = rw (c.divisor.ensures, c.difference.ensures tt) at t.is }) c.set_line.ensures in
    let level : c.level_of-level.result ≡ dumped_level dump c.args.self.now.config =
    c.level_of-level.ensures
    ∙ ap (λ (x : Bool). level_of x c.set_line.new.self.config.fifo_trigger_level) c.fifo_enabled.ensures
    ∙ ap (λ (k : Config). level_of (has dump.isr.0 ISR.FIFOS_ENABLED.0) k.fifo_trigger_level) c.set_line.ensures.config in
    let fifo = leveled _ (dumped_level dump c.args.self.now.config) on level c.set_fifo-on.ensures in
    let last = made_among {M = Only (last_writes dump)}
    (λ l t. record { is = rw (c.bits.ensures tt) at t.is })
    (made_only _ _ (made_only _ _ c.set_modem_control.ensures c.write_register.ensures) c.write_register-2.ensures) in
    let did = did_then (did_set _ (with_interrupts dump.ier.0) c.args.self.now _ refl refl)
    (did_then (did_made (made_then line (made_then fifo last))) (did_set _ (with_fifo on) c.write_register-2.new.self
    (record c.write_register-2.new.self { fifo_enabled = on }) refl refl)) in
    record { list = did.list; path = did.path; does = (on, did.does) }
