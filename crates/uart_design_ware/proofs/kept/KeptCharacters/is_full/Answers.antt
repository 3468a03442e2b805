use Rattle.std.proofs.Common.{refl, arith}
use Rattle.std.proofs.lemmas.List.{length-take-le}
use Rattle.uart_design_ware.proofs.kept.KeptCharacters.is_full.Goals as goal

pub returns-clause-full : goal.returns-clause-full
returns-clause-full c =
    let fits = length-take-le c.self.inside.count c.self.inside.cells (omega (arith, c.self.invariant.0, c.self.invariant.1)) in
    rw (← c.self.view_is, fits) refl
