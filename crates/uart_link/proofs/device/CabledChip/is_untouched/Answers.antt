use Rattle.uart_link.proofs.Names.{◌≡◌, length, arith, common_steps}
use Rattle.uart_link.proofs.News.{untouched}
use Rattle.uart_link.proofs.device.CabledChip.is_untouched.Goals as goal

pub returns : goal.returns
returns c = λ yes wire.
    let here = c.self.inside in
    let unused : here.remaining ≡ length here.uart.receiver.marks = grind (arith, common_steps, yes) in
    untouched c.args.self.now here.uart here.events.items here.cursor here.remaining c.self.view_is c.self.invariant.2 (omega arith)
    unused wire
