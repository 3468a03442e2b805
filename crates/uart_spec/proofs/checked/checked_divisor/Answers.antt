use Rattle.std.proofs.Common.{refl}
use Rattle.uart_spec.proofs.CheckedLemmas.{divisor_of_same}
use Rattle.uart_spec.proofs.checked.checked_divisor.Goals as goal

pub returns-in-Ok : goal.returns-in-Ok
returns-in-Ok c =
    let r = c.calc_divisor.result in
    divisor_of_same c.args.frequency c.args.baud_rate c.args.prescaler_division_factor c.in-Ok.factor r c.in-Ok.ensures.same
    c.in-Ok.ensures.ok ((c.calc_divisor.ensures r).0 refl)
