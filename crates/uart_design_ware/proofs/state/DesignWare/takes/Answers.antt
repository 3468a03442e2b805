use Rattle.std.proofs.Common.{◌≡◌, false, refl}
use Rattle.uart_design_ware.specs.Doing.{Nothing, Where}
use Rattle.uart_design_ware.specs.Line.{TriesLine}
use Rattle.uart_design_ware.proofs.Doings.{did_then, did_any, did_else}
use Rattle.uart_design_ware.proofs.state.DesignWare.takes.Goals as goal

pub returns : goal.returns
returns g c =
    let taken = c.tries.result in
    did_any false (did_then c.if-is_busy.ensures
    (did_else (λ h. false) (Where (taken ≡ false) Nothing) (TriesLine c.args.line.0 taken) refl c.tries.ensures))
