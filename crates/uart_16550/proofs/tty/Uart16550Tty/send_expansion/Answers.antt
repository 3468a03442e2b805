use Rattle.std.proofs.Common.{◌≡◌, ◌==◌, ◌∷◌, [], false, refl, arith}
use Rattle.std.proofs.lemmas.Bool.Decides.{nat_tests}
use Rattle.uart_16550.specs.Expansion.{expansion_of, backspace, delete, line_feed}
use Rattle.uart_16550.proofs.tty.Uart16550Tty.send_expansion.Goals as goal

pub returns-in_ok-send_one-in-32-to-126-clause-made :
    goal.returns-in_ok-send_one-in-32-to-126-clause-made
returns-in_ok-send_one-in-32-to-126-clause-made g c =
    let no_backspace : (c.args.byte == backspace) ≡ false = grind (arith, nat_tests, c.in-32-to-126) in
    let no_delete : (c.args.byte == delete) ≡ false = grind (arith, nat_tests, c.in-32-to-126) in
    let no_line_feed : (c.args.byte == line_feed) ≡ false = grind (arith, nat_tests, c.in-32-to-126) in
    let plain : expansion_of c.args.byte ≡ c.args.byte ∷ [] = rw (no_backspace, no_delete, no_line_feed) refl in
    rw plain c.in_ok-send_one-in-32-to-126.ensures.made
