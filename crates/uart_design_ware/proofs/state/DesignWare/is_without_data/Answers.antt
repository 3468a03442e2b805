use Rattle.std.proofs.Common.{◌≡◌, false, refl, sym}
use Rattle.uart_design_ware.specs.Doing.{Nothing, Next, AnyOf, Where, If}
use Rattle.uart_design_ware.specs.Faults.{LooksIfMistaken}
use Rattle.uart_design_ware.specs.Serving.{LooksForData, is_empty}
use Rattle.uart_design_ware.proofs.Doings.{did_then, did_any, did_if, did_else}
use Rattle.uart_design_ware.proofs.state.DesignWare.is_without_data.Goals as goal

pub returns : goal.returns
returns g c =
    let none = c.shows_no_data.result in
    let looked = AnyOf (λ mistaken. Next (LooksIfMistaken mistaken)
    (If (λ h. mistaken) (Where (none ≡ false) Nothing) (LooksForData none))) in
    did_if is_empty looked (Where (none ≡ false) Nothing) (sym c.if-not-is_empty.ensures) (did_any false (did_then c.if-is_mistaken.ensures
    (did_else (λ h. false) (Where (none ≡ false) Nothing) (LooksForData none) refl c.shows_no_data.ensures)))
