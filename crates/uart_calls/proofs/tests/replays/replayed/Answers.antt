use Rattle.uart_calls.specs.Replay.{Replay, ReplayStep}
use Rattle.uart_16550.specs.declared.driver.Uart16550.{Uart16550}
use Rattle.uart_calls.proofs.Replays.{did_replay}
use Rattle.uart_call.specs.declared.call.Answer.{Answer}
use Rattle.uart_calls.specs.Meaning.{Meaning, Called}
use Rattle.uart_calls.specs.Replays.{CallReplayed}
use Rattle.uart_calls.proofs.tests.replays.replayed.Goals as goal

shown : (m : Meaning) (answer : Answer) (old new : Uart16550 Replay) → Called ReplayStep m answer old new → CallReplayed m answer old new
shown (Meaning.means doing answer_of) answer old new p = (p.outcome, p.answered, did_replay p.did)

pub returns : goal.returns
returns c = shown _ _ _ _ c.perform.ensures
