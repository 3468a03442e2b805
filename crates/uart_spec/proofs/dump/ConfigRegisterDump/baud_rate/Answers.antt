use Rattle.std.proofs.Common.{◌∙◌, refl, Ok, Err}
use Rattle.uart_spec.proofs.dump.ConfigRegisterDump.baud_rate.Goals as goal

pub returns-in-Ok : goal.returns-in-Ok
returns-in-Ok c =
    let number = c.from_integer.ensures.number in
    let gives = (c.in-Ok.ensures (Ok c.in-Ok.rate)).0 refl in
    (rw (number, ← c.divisor-divisor.ensures) gives, λ named is same. c.from_integer.ensures.named named is (same ∙ number))

pub returns-in-Err : goal.returns-in-Err
returns-in-Err c =
    let gives = (c.in-Err.ensures (Err c.in-Err.error)).0 refl in
    rw (← c.divisor-divisor.ensures) gives
