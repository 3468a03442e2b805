use Rattle.std.proofs.Common.{[], ◌∷◌, arith}
use Rattle.uart_16550.proofs.Making.{made_none, made_then, made_among, made_round}
use Rattle.uart_16550.proofs.driver.Uart16550.send_one.Goals as goal

pub returns-then-not-wait_to_send-clause-made : goal.returns-then-not-wait_to_send-clause-made
returns-then-not-wait_to_send-clause-made g c =
    made_among (λ l t. (omega arith, t)) (made_then made_none c.if-not-wait_to_send.ensures)

pub returns-clause-made : goal.returns-clause-made
returns-clause-made g c =
    made_then (made_round (c.args.byte ∷ []) c.if-not-wait_to_send.ensures c.write_byte.ensures) made_none
