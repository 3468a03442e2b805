use Rattle.std.proofs.Common.{◌≡◌, ◌<◌, ◌≤◌, ◌+◌, ◌++◌, [], ◌∷◌, ℕ, Bool, true, List, length, take, drop}
use Rattle.std.proofs.Common.{arith, refl, length-drop, ◌∙◌, ap, subst}
use Rattle.std.proofs.lemmas.List.{take_rest, drop-drop, map-append}
use Rattle.uart_16550.specs.Grammar.{Settings, Then, Times, Only}
use Rattle.uart_16550.specs.Transmit.{SendHit, SendMiss, burst_size, data_writes}
use Rattle.uart_16550.specs.Patience.{WaitsWhile, Awaited, RoundAfter, items_of, misses_of, keeps_waiting}
use Rattle.uart_16550.specs.Driver.{Made, settings}
use Rattle.uart_16550.proofs.Languages.{cut_more, then_later}
use Rattle.uart_16550.proofs.Making.{made_then, made_among, made_fits, made_none, made_settings, made_more}
use Rattle.uart_16550.proofs.Waiting.{folds_append, asked_more}
use Rattle.uart_16550.proofs.driver.Uart16550.send_bytes_while.Goals as goal

pub loop-done-init : goal.loop-done-init
loop-done-init g c = record { within = omega arith; rounds = []; cut = refl; asked = refl; made = made_none }

pub returns-in-Err-clause-made : goal.returns-in-Err-clause-made
returns-in-Err-clause-made g c =
    let inv = c.loop-done.invariant in
    let rest = drop c.loop-done.done c.args.bytes.now in
    let left : 0 < length rest = omega (arith, length-drop {A = ℕ}) in
    let sums : c.loop-done.done + length rest ≡ length c.args.bytes.now = omega (arith, length-drop {A = ℕ}) in
    let wait = c.in-Err.ensures in
    record {
      said = keeps_waiting (misses_of inv.rounds) ++ wait.said;
      asked = folds_append _ _ _ _ (keeps_waiting (misses_of inv.rounds)) wait.said inv.asked wait.asked;
      made = made_among (λ l t. (inv.rounds, wait.said, rest, inv.cut, left, sums, refl, t)) (made_then inv.made wait.made);
    }

pub loop-done-preserved : goal.loop-done-preserved
loop-done-preserved g c =
    let inv = c.loop-done.invariant in
    let set = settings c.args.self.now in
    let rest = drop c.loop-done.done c.args.bytes.now in
    let left : 0 < length rest = omega (arith, length-drop {A = ℕ}) in
    let wait = c.in_default.ensures in
    let made = wait.made in
    let misses : ℕ = made.fits.0 in
    let size : c.write_burst-done.result ≡ burst_size set rest =
    (rw take_rest at c.write_burst-done.ensures.size) ∙
    ap (λ (s : Settings). burst_size s rest) (made_settings made ∙ made_settings inv.made) in
    let some : c.write_burst-done.result ≤ length rest = omega (arith, size) in
    let piece = take (burst_size set rest) rest in
    let round : Awaited (List ℕ) = record { misses = misses; item = piece } in
    let waited : Made g.B.Backend.step (Then (Times misses SendMiss) SendHit) c.loop-done.self c.wait_to_send_while.new.self =
    made_fits made made.fits.2.1 in
    let wrote : Made g.B.Backend.step (Only (data_writes piece)) c.wait_to_send_while.new.self c.write_burst-done.new.self =
    made_among (λ l t. let written = rw take_rest at t in rw (← size) written) c.write_burst-done.ensures.made in
    let sent : Made g.B.Backend.step (RoundAfter round) c.loop-done.self c.write_burst-done.new.self =
    made_among (λ l t. (made.fits.2.0, then_later (Times misses SendMiss) SendHit _ (settings c.loop-done.self) l t))
    (made_then waited wrote) in
    record {
      within = omega (arith, length-drop {A = ℕ}, some);
      rounds = inv.rounds ++ round ∷ [];
      cut = rw (map-append, ← drop-drop, size) (cut_more set _ (items_of inv.rounds) rest inv.cut left);
      asked = asked_more _ _ _ _ inv.rounds round wait.said inv.asked made.fits.1 wait.asked;
      made = made_more RoundAfter inv.rounds round inv.made sent;
    }
