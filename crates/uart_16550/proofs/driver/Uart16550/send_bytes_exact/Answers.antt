use Rattle.std.proofs.Common.{◌≡◌, ◌<◌, ◌≤◌, ◌+◌, ◌++◌, [], ◌∷◌, ℕ, length, take, drop, arith, refl, length-drop, ◌∙◌, ap}
use Rattle.std.proofs.lemmas.List.{take_rest, drop-drop}
use Rattle.uart_16550.specs.Grammar.{Settings}
use Rattle.uart_16550.specs.Transmit.{Round, burst_size}
use Rattle.uart_16550.specs.Driver.{Made, settings}
use Rattle.uart_16550.proofs.Languages.{cut_more}
use Rattle.uart_16550.proofs.Making.{made_then, made_among, made_none, made_settings, made_more}
use Rattle.uart_16550.proofs.driver.Uart16550.send_bytes_exact.Goals as goal

pub loop-done-init : goal.loop-done-init
loop-done-init g c = record { within = omega arith; pieces = []; cut = refl; made = made_none }

pub returns-in_default-clause-made : goal.returns-in_default-clause-made
returns-in_default-clause-made g c =
    let inv = c.loop-done.invariant in
    let rest = drop c.loop-done.done c.args.bytes.now in
    let left : 0 < length rest = omega (arith, length-drop {A = ℕ}) in
    let sums : c.loop-done.done + length rest ≡ length c.args.bytes.now = omega (arith, length-drop {A = ℕ}) in
    made_among (λ l t. (inv.pieces, rest, inv.cut, left, sums, t)) (made_then inv.made c.in_default.ensures.made)

pub loop-done-preserved : goal.loop-done-preserved
loop-done-preserved g c =
    let inv = c.loop-done.invariant in
    let set = settings c.args.self.now in
    let rest = drop c.loop-done.done c.args.bytes.now in
    let left : 0 < length rest = omega (arith, length-drop {A = ℕ}) in
    let sent = c.in-Some.ensures.made in
    let size : c.in-Some.count ≡ burst_size set rest =
    (rw take_rest at sent.fits.0) ∙ ap (λ (s : Settings). burst_size s rest) (made_settings inv.made) in
    let some : c.in-Some.count ≤ length rest = omega (arith, size) in
    let piece = take (burst_size set rest) rest in
    let round : Made g.B.Backend.step (Round piece) c.loop-done.self c.send_some.new.self =
    made_among (λ l t. let round = rw take_rest at t.1 in rw (← size) round) sent in
    record {
      within = omega (arith, length-drop {A = ℕ}, some);
      pieces = inv.pieces ++ piece ∷ [];
      cut = rw (← drop-drop, size) (cut_more set _ inv.pieces rest inv.cut left);
      made = made_more Round inv.pieces piece inv.made round;
    }
