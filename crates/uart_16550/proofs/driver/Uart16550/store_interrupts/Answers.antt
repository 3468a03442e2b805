use Rattle.std.proofs.Common.{◌≡◌, ◌∙◌, ℕ, [], ◌∷◌, ap, refl}
use Rattle.uart_spec.specs.declared.registers.offsets.TheConstants as offsets
use Rattle.uart_spec.specs.declared.access.Access.TheVariants.{Write}
use Rattle.uart_16550.proofs.Doings.{did_unsaved}
use Rattle.uart_16550.proofs.driver.Uart16550.store_interrupts.Goals as goal

pub returns : goal.returns
returns g c =
    let written = did_unsaved _ refl refl c.write_register.ensures in
    let bits : c.bits.result ≡ c.args.enabled.0 = c.bits.ensures tt in
    record {
      list = written.list;
      path = written.path;
      does = (written.does.0.is ∙ ap (λ (x : ℕ). Write offsets.IER x ∷ []) bits, written.does.1);
    }
