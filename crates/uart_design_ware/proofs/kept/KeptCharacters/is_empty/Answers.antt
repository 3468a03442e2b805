use Rattle.std.proofs.Common.{refl, arith}
use Rattle.std.proofs.lemmas.List.{length-take-le}
use Rattle.uart_design_ware.proofs.kept.KeptCharacters.is_empty.Goals as goal

pub returns : goal.returns
returns c =
    let fits = length-take-le c.self.inside.count c.self.inside.cells (omega (arith, c.self.invariant.0, c.self.invariant.1)) in
    rw (← c.self.view_is, fits) refl
