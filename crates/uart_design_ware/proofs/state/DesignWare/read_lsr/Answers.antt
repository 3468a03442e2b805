use Rattle.std.proofs.Common.{ℕ, subst}
use Rattle.uart_design_ware.specs.Doing.{Did}
use Rattle.uart_design_ware.specs.Serving.{ShowsFor}
use Rattle.uart_design_ware.proofs.Doings.{did_then, did_any}
use Rattle.uart_design_ware.proofs.state.DesignWare.read_lsr.Goals as goal

pub returns : goal.returns
returns g c =
    let looked = c.look-lsr in
    let mistaken = c.is_mistaken-is_mistaken in
    let P : ℕ → Type 0 = λ n.
    Did g.R.Backend.step (λ h. ShowsFor h.kept n c.show.result.0 h) mistaken.new.self c.show.new.self in
    did_any looked.result.0 (did_then looked.ensures (did_any mistaken.result
    (did_then mistaken.ensures (subst P c.line_state.ensures c.show.ensures))))
