use Rattle.std.proofs.Common.{ℕ, List, [], refl, sym, ap, subst}
use Rattle.uart_design_ware.specs.declared.kept.KeptCharacter.{KeptCharacter}
use Rattle.uart_design_ware.specs.Held.{Held, held}
use Rattle.uart_design_ware.specs.Serving.{FirstOr}
use Rattle.uart_design_ware.proofs.state.DesignWare.read_data.Goals as goal

pub returns-in_default : goal.returns-in_default
returns-in_default g c =
    let old = c.args.self.now in
    let answer = c.load.result in
    let none = c.in_default.ensures.0 in
    let does = rw (c.in_default.ensures.1, ← none) at c.load.ensures.does in
    let P : List KeptCharacter → Type 0 = λ kept. FirstOr kept answer (held old) c.load.ensures.list (held c.load.new.self) in
    record { list = c.load.ensures.list; path = c.load.ensures.path; does = subst P (sym none) does }

pub returns : goal.returns
returns g c =
    let old = c.args.self.now in
    let first = c.in-Some.character in
    let others = c.pop.new.self in
    let after : Held = record (held old) { kept = others; cleared = c.insert.new.self.0 } in
    let P : List KeptCharacter → Type 0 = λ kept. FirstOr kept first.byte (held old) [] after in
    let set = ap (λ (n : ℕ). record (held old) { kept = others; cleared = n }) (c.insert.ensures tt) in
    record { list = []; path = refl; does = subst P (sym c.in-Some.ensures) (refl, (refl, set)) }
