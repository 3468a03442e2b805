use Rattle.std.proofs.Common.{◌≡◌, ◌<◌, ℕ, ◌+◌, ◌++◌, [], ◌∷◌, List, length, take, arith, refl, ◌∙◌, ap}
use Rattle.std.proofs.lemmas.List.{take-set, take_more_set, length-take, drop-set-lt, map-append}
use Rattle.std.proofs.lemmas.Grind.{drop_more_same}
use Rattle.uart_16550.specs.Patience.{Awaited, ByteAfter, misses_of, keeps_waiting}
use Rattle.uart_16550.proofs.Making.{made_none, made_then, made_among, made_fits, made_more}
use Rattle.uart_16550.proofs.Waiting.{folds_append, asked_more}
use Rattle.uart_16550.proofs.driver.Uart16550.receive_bytes_while.Goals as goal

pub loop-done-init : goal.loop-done-init
loop-done-init g c = record { received = []; bytes = refl; asked = refl; made = made_none; rest = refl }

pub returns-in-Err-clause-made : goal.returns-in-Err-clause-made
returns-in-Err-clause-made g c =
    let inv = c.loop-done.invariant in
    let fewer : length (take c.loop-done.done c.loop-done.buffer) < length c.args.buffer.now = omega (arith, length-take {A = ℕ}) in
    let done : c.loop-done.done ≡ length (take c.loop-done.done c.loop-done.buffer) = omega (arith, length-take {A = ℕ}) in
    let wait = c.in-Err.ensures in
    record {
      said = keeps_waiting (misses_of inv.received) ++ wait.said;
      asked = folds_append _ _ _ _ (keeps_waiting (misses_of inv.received)) wait.said inv.asked wait.asked;
      made = rw take-set
          (made_among (λ l t. (inv.received, wait.said, inv.bytes, fewer, done, refl, t)) (made_then inv.made wait.made));
    }

pub loop-done-preserved : goal.loop-done-preserved
loop-done-preserved g c =
    let inv = c.loop-done.invariant in
    let k = c.loop-done.done in
    let within : k < length c.loop-done.buffer = omega arith in
    let wait = c.in-Ok.ensures in
    let one : Awaited ℕ = record { misses = wait.made.fits.0; item = c.in-Ok.byte } in
    record {
      received = inv.received ++ one ∷ [];
      bytes = rw map-append
          (take_more_set c.loop-done.buffer k c.in-Ok.byte within ∙ ap (λ (xs : List ℕ). xs ++ c.in-Ok.byte ∷ []) inv.bytes);
      asked = asked_more _ _ _ _ inv.received one wait.said inv.asked wait.made.fits.1 wait.asked;
      made = made_more ByteAfter inv.received one inv.made (made_fits wait.made wait.made.fits.2);
      rest = drop-set-lt (k + 1) c.loop-done.buffer k c.in-Ok.byte (omega arith) ∙ drop_more_same _ _ k inv.rest;
    }
