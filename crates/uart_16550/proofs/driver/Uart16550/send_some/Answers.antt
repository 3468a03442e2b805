use Rattle.std.proofs.Common.{ap, ◌∙◌}
use Rattle.uart_16550.specs.Grammar.{Settings}
use Rattle.uart_16550.specs.Transmit.{burst_size}
use Rattle.uart_16550.proofs.Making.{made_round, made_among, made_settings}
use Rattle.uart_16550.proofs.driver.Uart16550.send_some.Goals as goal

pub returns-clause-made : goal.returns-clause-made
returns-clause-made g c =
    let size =
    c.write_burst.ensures.size ∙ ap (λ (s : Settings). burst_size s c.args.bytes.now) (made_settings c.if-not-wait_to_send.ensures) in
    made_among (λ l t. (size, t)) (made_round _ c.if-not-wait_to_send.ensures c.write_burst.ensures.made)
