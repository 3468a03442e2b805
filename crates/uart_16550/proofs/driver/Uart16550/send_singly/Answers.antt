use Rattle.std.proofs.Common.{◌<◌, [], ◌∷◌, length, get_or, arith}
use Rattle.std.proofs.lemmas.List.{take_more}
use Rattle.uart_16550.specs.Transmit.{Round}
use Rattle.uart_16550.proofs.Making.{made_none, made_then, made_more, made_among, made_round}
use Rattle.uart_16550.proofs.driver.Uart16550.send_singly.Goals as goal

pub loop-done-init : goal.loop-done-init
loop-done-init g c = made_none

pub returns-then-not-wait_to_send-clause-made : goal.returns-then-not-wait_to_send-clause-made
returns-then-not-wait_to_send-clause-made g c =
    let some : c.loop-done.done < length c.args.bytes.now = omega arith in
    made_among (λ l t. (some, t)) (made_then c.loop-done.invariant c.if-not-wait_to_send.ensures)

pub loop-done-preserved : goal.loop-done-preserved
loop-done-preserved g c =
    let some : c.loop-done.done < length c.args.bytes.now = omega arith in
    let byte = get_or c.args.bytes.now c.loop-done.done 0 in
    rw (take_more c.args.bytes.now c.loop-done.done 0 some)
    (made_more (λ byte. Round (byte ∷ [])) _ _ c.loop-done.invariant
    (made_round (byte ∷ []) c.if-not-wait_to_send.ensures c.write_byte.ensures))
