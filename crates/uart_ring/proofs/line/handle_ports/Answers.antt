use Rattle.std.proofs.Common.{◌≡◌, ℕ, List, length, subst}
use Rattle.uart_ring.specs.Line.{InTurn, IsSame, LowersPort, RaisesAt}
use Rattle.uart_ring.specs.declared.line.LinePort.{LinePort}
use Rattle.uart_ring.proofs.Lines.{serves_length}
use Rattle.uart_ring.proofs.line.handle_ports.Goals as goal

pub returns : goal.returns
returns g c =
    let low : List (LinePort g.row.B.Denot) = c.lower_each-has_served.new.ports in
    let same : length low ≡ length c.args.ports.now =
    serves_length (LowersPort g.B.Backend.step c.args.limit c.args.rounds) IsSame _ _ _ _ c.lower_each-has_served.ensures in
    let P : ℕ → Type 0 = λ n. InTurn (RaisesAt g.B.Backend.step) n low c.raise_each.new.ports in
    record { all_low = low; lowers = c.lower_each-has_served.ensures; raises = subst P same c.raise_each.ensures }
