use Rattle.std.proofs.Common.{sym, arith}
use Rattle.uart_spec.specs.declared.registers.offsets.TheConstants as offsets
use Rattle.uart_16550.proofs.Making.{made_none, made_then, made_few, made_asks, made_times}
use Rattle.uart_16550.proofs.driver.Uart16550.wait_for.Goals as goal

pub loop-turn-init : goal.loop-turn-init
loop-turn-init g c = made_none

pub returns-then-contains : goal.returns-then-contains
returns-then-contains g c =
    made_then (made_few _ _ (omega arith) c.loop-turn.invariant)
    (made_asks offsets.LSR _ _ _ c.read_lsr.ensures (sym (c.if-contains.ensures tt)))

pub loop-turn-preserved : goal.loop-turn-preserved
loop-turn-preserved g c =
    made_times _ _ c.loop-turn.invariant (made_asks offsets.LSR _ _ _ c.read_lsr.ensures (sym (c.if-contains.ensures tt)))
