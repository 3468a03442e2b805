use Rattle.std.proofs.Common.{false, refl}
use Rattle.uart_design_ware.specs.Doing.{Nothing}
use Rattle.uart_design_ware.specs.Serving.{WritesPlain}
use Rattle.uart_design_ware.proofs.Doings.{did_then, did_any, did_else}
use Rattle.uart_design_ware.proofs.state.DesignWare.write_meant.Goals as goal

pub returns : goal.returns
returns g c =
    did_any false (did_then c.if-is_out_of_reach.ensures
    (did_else (λ h. false) Nothing (WritesPlain c.args.offset c.args.value) refl c.write_plain.ensures))
