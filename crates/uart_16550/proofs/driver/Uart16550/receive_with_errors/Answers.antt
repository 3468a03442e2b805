use Rattle.uart_spec.specs.declared.received.Received.{Received}
use Rattle.std.proofs.Common.{◌<◌, ◌+◌, length, take, inr, arith, refl, ◌∙◌}
use Rattle.std.proofs.lemmas.List.{take-set, take_more_set, length-take, drop-set-lt}
use Rattle.std.proofs.lemmas.Grind.{drop_more_same}
use Rattle.uart_16550.specs.Receive.{HitWithErrors}
use Rattle.uart_16550.proofs.Making.{made_none, made_then, made_among, made_more}
use Rattle.uart_16550.proofs.driver.Uart16550.receive_with_errors.Goals as goal

pub loop-taken-init : goal.loop-taken-init
loop-taken-init g c = record { made = made_none; rest = refl }

pub returns-in-Err-clause-made : goal.returns-in-Err-clause-made
returns-in-Err-clause-made g c =
    let fewer : length (take c.loop-taken.taken c.loop-taken.slots) < length c.args.slots.now = omega (arith, length-take {A = Received}) in
    rw take-set (made_among (λ l t. inr (fewer, t)) (made_then c.loop-taken.invariant.made c.in-Err.ensures))

pub loop-taken-preserved : goal.loop-taken-preserved
loop-taken-preserved g c =
    let k = c.loop-taken.taken in
    let within : k < length c.loop-taken.slots = omega arith in
    record {
      made = rw (take_more_set c.loop-taken.slots k c.in-Ok.received within)
          (made_more HitWithErrors _ _ c.loop-taken.invariant.made c.in-Ok.ensures);
      rest = drop-set-lt (k + 1) c.loop-taken.slots k c.in-Ok.received (omega arith) ∙ drop_more_same _ _ k c.loop-taken.invariant.rest;
    }
