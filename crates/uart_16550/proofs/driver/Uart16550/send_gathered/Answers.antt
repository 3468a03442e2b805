use Rattle.std.proofs.Common.{◌<◌, ◌∙◌, ◌++◌, length, length-append, inr, arith, ap, sym}
use Rattle.std.proofs.lemmas.Bool.{false≢true}
use Rattle.std.proofs.lemmas.Bool.Decides.{nat_tests}
use Rattle.std.specs.Prelude.{option_to_list}
use Rattle.uart_16550.specs.Grammar.{Settings}
use Rattle.uart_16550.specs.Transmit.{burst_size}
use Rattle.uart_16550.proofs.Gathering.{some_urgent}
use Rattle.uart_16550.proofs.Making.{made_then, made_among, made_settings}
use Rattle.uart_16550.proofs.driver.Uart16550.send_gathered.Goals.{else-is_none-via-then-is_none+else-first-characters}
use Rattle.uart_16550.proofs.driver.Uart16550.send_gathered.Goals.{then-is_empty, else-is_empty, else-is_none-via-else-is_none}
use Rattle.uart_16550.proofs.driver.Uart16550.send_gathered.Goals as goal

pub returns-clause-made : goal.returns-clause-made
returns-clause-made g c =
    let bytes = option_to_list c.args.urgent ++ (c.args.first.now ++ c.args.second.now) in
    let long = length-append (option_to_list c.args.urgent) (c.args.first.now ++ c.args.second.now) in
    let some : 0 < length bytes = elim c.else-is_none.branch [
      | else-is_none-via-then-is_none+else-first-characters w ↦ elim w.if-is_empty.branch [
        | then-is_empty w' ↦ absurd (false≢true (sym w.if-first-characters.false ∙ w'.value-is ∙ w'.if-is_empty.true))
        | else-is_empty w' ↦
            let second : 0 < length c.args.second.now = grind (arith, nat_tests) in
            omega (arith, second, long, length-append c.args.first.now c.args.second.now)
      ]
      | else-is_none-via-else-is_none w ↦ omega (arith, long, some_urgent c.args.urgent w.if-is_none.ensures)
    ] in
    let size = c.write_gathered.ensures.count ∙ ap (λ (s : Settings). burst_size s bytes) (made_settings c.in-Ok.ensures) in
    made_among (λ l t. inr (inr (some, size, t))) (made_then c.in-Ok.ensures c.write_gathered.ensures.made)
