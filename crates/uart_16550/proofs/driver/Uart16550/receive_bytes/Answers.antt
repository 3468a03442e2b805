use Rattle.std.proofs.Common.{◌<◌, ℕ, ◌+◌, length, take, inr, arith, refl, ◌∙◌}
use Rattle.std.proofs.lemmas.List.{take-set, take_more_set, length-take, drop-set-lt}
use Rattle.std.proofs.lemmas.Grind.{drop_more_same}
use Rattle.uart_16550.specs.Receive.{Hit}
use Rattle.uart_16550.proofs.Making.{made_none, made_then, made_among, made_more}
use Rattle.uart_16550.proofs.driver.Uart16550.receive_bytes.Goals as goal

pub loop-count-init : goal.loop-count-init
loop-count-init g c = record { made = made_none; rest = refl }

pub returns-in-Err-clause-made : goal.returns-in-Err-clause-made
returns-in-Err-clause-made g c =
    let fewer : length (take c.loop-count.count c.loop-count.buffer) < length c.args.buffer.now = omega (arith, length-take {A = ℕ}) in
    rw take-set (made_among (λ l t. inr (fewer, t)) (made_then c.loop-count.invariant.made c.in-Err.ensures))

pub loop-count-preserved : goal.loop-count-preserved
loop-count-preserved g c =
    let k = c.loop-count.count in
    let within : k < length c.loop-count.buffer = omega arith in
    record {
      made = rw (take_more_set c.loop-count.buffer k c.in-Ok.byte within) (made_more Hit _ _ c.loop-count.invariant.made c.in-Ok.ensures);
      rest = drop-set-lt (k + 1) c.loop-count.buffer k c.in-Ok.byte (omega arith) ∙ drop_more_same _ _ k c.loop-count.invariant.rest;
    }
