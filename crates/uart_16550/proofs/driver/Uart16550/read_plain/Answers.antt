use Rattle.std.proofs.Common.{refl, [], ◌∷◌}
use Rattle.uart_spec.specs.declared.access.Access.TheVariants.{Read}
use Rattle.uart_16550.proofs.driver.Uart16550.read_plain.Goals as goal

pub returns : goal.returns
returns g c =
    record {
      list = Read c.args.offset c.read.result ∷ [];
      path = (c.read.new.self, c.read.ensures, refl);
      does = (record { is = refl }, refl);
    }
