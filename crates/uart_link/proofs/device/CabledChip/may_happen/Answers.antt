use Rattle.uart_link.proofs.Schedules.{come_settled}
use Rattle.uart_link.proofs.device.CabledChip.may_happen.Goals as goal

pub returns : goal.returns
returns c =
    let n = come_settled c.args.self.now c.self.inside.uart _ c.self.inside.remaining c.self.view_is c.self.invariant.2 in
    rw n c.may_happen.ensures
