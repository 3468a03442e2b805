use Rattle.std.proofs.Common.{◌≡◌, ◌<◌, ◌++◌, ◌∷◌, [], ℕ, get_or, length, refl, arith, ◌∙◌}
use Rattle.std.proofs.lemmas.List.{take_more, take_more_set, take_all, length-set}
use Rattle.uart_16550.specs.Loopback.{Echo, EchoFails, test_message}
use Rattle.uart_16550.proofs.Making.{made_none, made_then, made_more, made_among}
use Rattle.uart_16550.proofs.Loopbacks.{parted, map_one}
use Rattle.uart_16550.proofs.driver.Uart16550.echo_each.Goals as goal

pub loop-i-init : goal.loop-i-init
loop-i-init g c = record { pairs = []; sent = refl; got = refl; slots = refl; made = made_none }

pub returns-in_err-actual-clause-made : goal.returns-in_err-actual-clause-made
returns-in_err-actual-clause-made g c =
    let i = c.loop-i.i in
    let within : i < length test_message = omega arith in
    let all = rw (← c.loop-i.invariant.sent) at (parted test_message i within) in
    rw c.from_residual.ensures
    (made_among (λ l t. (c.loop-i.invariant.pairs, _, _, all, t))
    (made_then {M = EchoFails (get_or test_message i 0)} c.loop-i.invariant.made c.in_err-actual.ensures))

pub loop-i-preserved : goal.loop-i-preserved
loop-i-preserved g c =
    let i = c.loop-i.i in
    let inv = c.loop-i.invariant in
    let within : i < length test_message = omega arith in
    let here : i < length c.loop-i.actual = omega arith in
    let back = c.in_ok-actual.field-0 in
    let pair : ℕ × ℕ = (get_or test_message i 0, back) in
    record {
      pairs = inv.pairs ++ pair ∷ [];
      sent = rw (take_more test_message i 0 within) (map_one (λ pair. pair.0) inv.pairs pair _ inv.sent);
      got = rw (take_more_set c.loop-i.actual i back here) (map_one (λ pair. pair.1) inv.pairs pair _ inv.got);
      slots = length-set c.loop-i.actual i back ∙ inv.slots;
      made = made_more Echo inv.pairs pair inv.made c.in_ok-actual.ensures;
    }

pub returns-clause-made : goal.returns-clause-made
returns-clause-made g c =
    let inv = c.loop-i.invariant in
    let all : c.loop-i.i ≡ length test_message = omega arith in
    let sent = rw all at inv.sent in
    let got = (rw all at inv.got) ∙ take_all (length test_message) c.loop-i.actual (omega arith) in
    made_among (λ l t. (inv.pairs, sent, got, t)) inv.made
