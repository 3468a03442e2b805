use Rattle.std.proofs.Common.{◌≡◌, false, refl}
use Rattle.uart_design_ware.specs.Doing.{Nothing, Where}
use Rattle.uart_design_ware.specs.Serving.{ReadsRegister}
use Rattle.uart_design_ware.proofs.Doings.{did_then, did_any, did_else}
use Rattle.uart_design_ware.proofs.serving.DesignWareBackend.read.Goals as goal

pub returns : goal.returns
returns g c =
    let offset = c.args.register_offset in
    let answer = c.read_meant.result in
    did_any false (did_then c.if-is_out_of_reach.ensures
    (did_else (λ h. false) (Where (answer ≡ 0) Nothing) (ReadsRegister offset answer) refl c.read_meant.ensures))
