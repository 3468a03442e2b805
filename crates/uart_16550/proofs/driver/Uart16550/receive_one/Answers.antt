use Rattle.std.proofs.Common.{ap, arith}
use Rattle.std.specs.Int.NonZero.{non_zero_u64_get}
use Rattle.uart_16550.specs.Receive.{Miss}
use Rattle.uart_16550.proofs.Making.{made_at_once, made_then, made_few, made_times}
use Rattle.uart_16550.proofs.driver.Uart16550.receive_one.Goals as goal

pub returns-in-Ok : goal.returns-in-Ok
returns-in-Ok g c = made_at_once Miss c.in-Ok.ensures

pub returns-in-Ok-try_receive_byte : goal.returns-in-Ok-try_receive_byte
returns-in-Ok-try_receive_byte g c =
    made_then
    (made_few _ _ (omega (arith, ap non_zero_u64_get c.in_default.ensures.limit)) c.loop-turn.invariant) c.in-Ok-try_receive_byte.ensures

pub loop-turn-preserved : goal.loop-turn-preserved
loop-turn-preserved g c = made_times _ _ c.loop-turn.invariant c.in_default-try_receive_byte.ensures
