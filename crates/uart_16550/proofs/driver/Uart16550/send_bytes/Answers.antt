use Rattle.std.proofs.Common.{◌≡◌, ◌<◌, ◌∙◌, length, inl, inr, arith, refl, ap}
use Rattle.std.proofs.lemmas.Bool.Decides.{nat_tests}
use Rattle.uart_16550.specs.Grammar.{Settings}
use Rattle.uart_16550.specs.Transmit.{burst_size}
use Rattle.uart_16550.proofs.Making.{made_then, made_among, made_none, made_settings}
use Rattle.uart_16550.proofs.driver.Uart16550.send_bytes.Goals as goal

pub returns-then-is_empty-clause-made : goal.returns-then-is_empty-clause-made
returns-then-is_empty-clause-made g c =
    let empty : length c.args.buffer.now ≡ 0 = grind (arith, nat_tests) in
    made_among (λ l t. inl (empty, refl, t.is)) made_none

pub returns-clause-made : goal.returns-clause-made
returns-clause-made g c =
    let some : 0 < length c.args.buffer.now = grind (arith, nat_tests) in
    let size = c.write_burst.ensures.size ∙ ap (λ (s : Settings). burst_size s c.args.buffer.now) (made_settings c.in-Ok.ensures) in
    made_among (λ l t. inr (inr (some, size, t))) (made_then c.in-Ok.ensures c.write_burst.ensures.made)
