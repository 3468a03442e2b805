use Rattle.std.proofs.Common.{◌≡◌, ◌<◌, ℕ, ◌+◌, length, take, arith, refl, ◌∙◌}
use Rattle.std.proofs.lemmas.List.{take-set, take_more_set, length-take, drop-set-lt}
use Rattle.std.proofs.lemmas.Grind.{drop_more_same}
use Rattle.uart_16550.specs.Receive.{Awaited}
use Rattle.uart_16550.proofs.Making.{made_none, made_then, made_among, made_more}
use Rattle.uart_16550.proofs.driver.Uart16550.receive_bytes_exact.Goals as goal

pub loop-done-init : goal.loop-done-init
loop-done-init g c = record { made = made_none; rest = refl }

pub returns-in-None-clause-made : goal.returns-in-None-clause-made
returns-in-None-clause-made g c =
    let fewer : length (take c.loop-done.done c.loop-done.buffer) < length c.args.buffer.now = omega (arith, length-take {A = ℕ}) in
    let done : c.loop-done.done ≡ length (take c.loop-done.done c.loop-done.buffer) = omega (arith, length-take {A = ℕ}) in
    rw take-set (made_among (λ l t. (fewer, done, t)) (made_then c.loop-done.invariant.made c.in-None.ensures))

pub loop-done-preserved : goal.loop-done-preserved
loop-done-preserved g c =
    let k = c.loop-done.done in
    let within : k < length c.loop-done.buffer = omega arith in
    record {
      made =
          rw (take_more_set c.loop-done.buffer k c.in-Some.byte within)
          (made_more Awaited _ _ c.loop-done.invariant.made c.in-Some.ensures);
      rest = drop-set-lt (k + 1) c.loop-done.buffer k c.in-Some.byte (omega arith) ∙ drop_more_same _ _ k c.loop-done.invariant.rest;
    }
