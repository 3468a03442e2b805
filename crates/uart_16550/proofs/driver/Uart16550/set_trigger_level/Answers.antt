use Rattle.std.proofs.Common.{ℕ, [], ◌∷◌, ◌∙◌, ap, refl}
use Rattle.uart_spec.specs.declared.registers.offsets.TheConstants as offsets
use Rattle.uart_spec.specs.declared.access.Access.TheVariants.{Write}
use Rattle.uart_16550.specs.Grammar.{Only}
use Rattle.uart_16550.specs.Setup.{level_bits, with_level}
use Rattle.uart_16550.proofs.Making.{made_among}
use Rattle.uart_16550.proofs.Doings.{did_then, did_made, did_set}
use Rattle.uart_16550.proofs.driver.Uart16550.set_trigger_level.Goals as goal

pub returns : goal.returns
returns g c =
    let written = made_among {M = Only (Write offsets.FCR (level_bits c.args.level) ∷ [])}
    (λ l t. record { is = t.is ∙ ap (λ (x : ℕ). Write offsets.FCR x ∷ []) (c.bits.ensures tt ∙ c.level_control_of.ensures) })
    c.write_register.ensures in
    let did = did_then (did_set _ (with_level c.args.level) c.args.self.now _ refl refl) (did_made written) in
    record { list = did.list; path = did.path; does = (c.if-not-self.false, did.does) }
