-- A write of LCR is never out of reach.
use Rattle.std.proofs.Common.{◌≡◌, ℕ, Bool, true, false, List, ◌++◌, sym, ◌∙◌, ap, subst}
use Rattle.uart_spec.specs.declared.access.Access.{Access}
use Rattle.uart_spec.specs.declared.registers.offsets.TheConstants as offsets
use Rattle.uart_design_ware.specs.Held.{Held}
use Rattle.uart_design_ware.specs.Doing.{Nothing, If}
use Rattle.uart_design_ware.specs.Line.{WritesLine}
use Rattle.uart_design_ware.specs.Serving.{Performs, WritesPlain}

meant_of : (mistaken : Bool) (line : ℕ) (h : Held) (l : List Access) (after : Held) → mistaken ≡ false →
    If (λ h. mistaken) Nothing (WritesPlain offsets.LCR line) h l after → WritesLine line h l after
meant_of true line h l after wrong t = absurd cc
meant_of false line h l after is t = t

pub line_is_meant : (line : ℕ) (h : Held) (l : List Access) (after : Held) → Performs offsets.LCR line h l after → WritesLine line h l after
line_is_meant line h l after t =
    let n = t.1 in
    let looked = n.first.1 in
    let whole : l ≡ n.back = n.whole ∙ ap (λ (x : List Access). x ++ n.back) looked.0 in
    let P : Held → Type 0 = (λ x. WritesLine line x n.back after) in
    let Q : List Access → Type 0 = (λ x. WritesLine line h x after) in
    subst Q (sym whole) (subst P looked.1 (meant_of t.0 line n.mid n.back after n.first.0 n.second))
