-- What playing an input returns and writes.
use Rattle.std.specs.Prelude.{ℕ, List, Option, Result}
use Rattle.std.specs.Prelude.{Ok, Err, ⊤}
use Rattle.std.specs.Io.KnownBytes.{Appends, Keeps}
use Rattle.uart_language.specs.declared.play_error.PlayError.{PlayError}
use Rattle.uart_language.specs.declared.play_error.PlayError.TheVariants as errors
use Rattle.uart_language.specs.Script.{Plan, IsScript, IsFaulty}
use Rattle.uart_language.specs.Streams.{WritesFront}
use Rattle.uart_play.specs.ScriptOutput.{IsOutput}

-- The input is a script, and some of its output is written.
pub record IsPlayed (input : List ℕ) (writes : List ℕ → Type 0) : Type 0 where
  pub plan : Plan
  pub output : List ℕ
  pub script : IsScript input plan
  pub printed : IsOutput plan output
  pub written : writes output

-- The outcome of playing an input: its whole output; or the first fault of an input that is not a script; or a
-- beginning of its output if the writer failed.
abbrev pub Outcome : List ℕ → Result (Unit {0}) PlayError → Option (List ℕ) → Option (List ℕ) → Type 0
Outcome input (Ok done) old new = IsPlayed input (Appends old new)
Outcome input (Err (errors.Refused line cause)) old new = IsFaulty input line cause
Outcome input (Err errors.WriteFault) old new = IsPlayed input (WritesFront old new)
Outcome input (Err other) old new = ⊤

-- nothing is written except for `Ok` and `WriteFault`
abbrev pub WritesNothing : Result (Unit {0}) PlayError → Option (List ℕ) → Option (List ℕ) → Type 0
WritesNothing (Ok done) old new = ⊤
WritesNothing (Err errors.WriteFault) old new = ⊤
WritesNothing (Err other) old new = Keeps old new
