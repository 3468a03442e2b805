use Rattle.std.proofs.Common.{true, refl}
use Rattle.uart_spec.specs.declared.registers.offsets.TheConstants as offsets
use Rattle.uart_design_ware.specs.Doing.{Nothing, Reads, AnyOf}
use Rattle.uart_design_ware.proofs.Doings.{did_then, did_any, did_if}
use Rattle.uart_design_ware.proofs.state.DesignWare.end_timeout.Goals as goal

pub returns : goal.returns
returns g c =
    did_then c.if-not-is_without_data.ensures
    (did_if (λ h. true) (AnyOf (λ byte. Reads offsets.DATA byte)) Nothing refl (did_any c.load.result c.load.ensures))
