-- What a replay shows about a call.
use Rattle.std.specs.Prelude.{◌≡◌}
use Rattle.uart_calls.specs.Replay.{Replay, Replayed}
use Rattle.uart_16550.specs.declared.driver.Uart16550.{Uart16550}
use Rattle.uart_call.specs.declared.call.Answer.{Answer}
use Rattle.uart_calls.specs.Meaning.{Meaning}

-- the call had some outcome, with this answer, and what a whole replay shows is a list of the call for that outcome
abbrev pub CallReplayed : Meaning → Answer → Uart16550 Replay → Uart16550 Replay → Type 0
CallReplayed (Meaning.means {Outcome = Outcome} doing answer_of) answer old new =
    (outcome : Outcome) × (answer ≡ answer_of outcome) × Replayed (doing outcome) old new
