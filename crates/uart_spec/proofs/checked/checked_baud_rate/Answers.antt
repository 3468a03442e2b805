use Rattle.std.proofs.Common.{refl, arith}
use Rattle.uart_spec.proofs.CheckedLemmas.{rate_of_same}
use Rattle.uart_spec.proofs.checked.checked_baud_rate.Goals as goal

pub returns-in-Ok : goal.returns-in-Ok
returns-in-Ok c =
    let r = c.calc_baud_rate.result in
    rate_of_same c.args.frequency c.args.divisor c.args.prescaler_division_factor c.in-Ok.factor r c.in-Ok.ensures.same
    (record {
      one = omega (arith, c.if-frequency-ne0.true);
      other = omega (arith, c.if-divisor-ne0.true);
      factor = c.in-Ok.ensures.ok;
    })
    ((c.calc_baud_rate.ensures r).0 refl)
