-- A run has one outcome, and a script one output.
use Rattle.std.specs.Prelude.{◌≡◌, ℕ, List, All, Option, Ok}
use Rattle.std.specs.Io.KnownBytes.{Appends}
use Rattle.uart_16550.specs.Choice.{IsSame}
use Rattle.uart_16550.specs.Tty.{inner_of}
use Rattle.uart_call.specs.declared.call.Call.{Call}
use Rattle.uart_call.specs.declared.call.Answer.{Answer}
use Rattle.uart_call.specs.Calls.{IsRunnable}
use Rattle.uart_run.specs.Run.{State, IsRun}
use Rattle.uart_play.specs.Play.{Outcome}

-- the driver has the same fields, and the machine is in the same state
abbrev pub IsSameState : State → State → Type 0
IsSameState s t = IsSame (inner_of s) (inner_of t)

-- two runs of the same calls from the same state have the same answers, and end in the same state
abbrev pub RunsHaveOneOutcome : Type 0
RunsHaveOneOutcome =
    (s t other_s other_t : State) (calls : List Call) (answers other_answers : List Answer) → All IsRunnable calls →
    IsRun s calls answers t → IsRun other_s calls other_answers other_t → IsSameState s other_s →
    (answers ≡ other_answers) × IsSameState t other_t

-- two plays of the same input that succeeded wrote the same output
abbrev pub ScriptsHaveOneOutput : Type 0
ScriptsHaveOneOutput =
    (input : List ℕ) (old new other_old other_new : Option (List ℕ)) →
    Outcome input (Ok tt) old new → Outcome input (Ok tt) other_old other_new →
    (output : List ℕ) × Appends old new output × Appends other_old other_new output
