-- The lists of a call, from a driver's fields.
use Rattle.std.specs.Prelude.{◌≡◌, ◌<◌, List, ◌∷◌, ◌++◌, length}
use Rattle.uart_spec.specs.declared.access.Access.{Access}
use Rattle.uart_16550.specs.Driver.{Fields}
use Rattle.uart_16550.specs.State.{fields_of}
use Rattle.uart_call.specs.declared.call.Call.{Call}
use Rattle.uart_call.specs.declared.call.Answer.{Answer}
use Rattle.uart_calls.specs.Meaning.{Meaning, means, meaning, outcome_of, doing_of}
use Rattle.uart_calls.specs.Tape.{request_of}
use Rattle.uart_calls.specs.declared.tape.Request.{Request}
use Rattle.uart_calls.specs.declared.checking.Returned.{Returned}
use Rattle.uart_calls.specs.declared.checking.Turn.{Turn}
use Rattle.uart_calls.specs.declared.checking.Turn.TheVariants.{Asks, Returns}
use Rattle.uart_calls.specs.declared.checking.NextStep.{NextStep}
use Rattle.uart_calls.specs.declared.checking.NextStep.TheVariants.{Asked, Done, Strayed}
use Rattle.uart_calls.specs.declared.checking.Followed.{Followed}

-- the answer that an outcome is returned as
abbrev pub answer_of : (m : Meaning) → outcome_of m → Answer
answer_of (means doing answer) outcome = answer outcome

-- from these fields the call makes this list, with this answer, and those fields are after it
pub record IsListOf (call : Call) (before : Fields) (list : List Access)
    (answer : Answer) (after : Fields) : Type 0 where
  pub outcome : outcome_of (meaning call)
  -- the driver did what the call's row of the table says for this outcome
  pub does : doing_of (meaning call) outcome before list after
  -- the answer is the row's for this outcome
  pub answered : answer ≡ answer_of (meaning call) outcome

-- the call makes this list, with the answer and the driver that are returned
abbrev pub Makes : Call → Fields → List Access → Returned → Type 0
Makes call before list returned = IsListOf call before list returned.answer (fields_of returned.state)

-- some list of the call is the first list and then the second
pub record GoesOn (call : Call) (before : Fields) (front back : List Access) : Type 0 where
  pub answer : Answer
  pub after : Fields
  pub makes : IsListOf call before (front ++ back) answer after

-- some list of the call starts like this
abbrev pub Begins : Call → Fields → List Access → Type 0
Begins call before front = (back : List Access) × GoesOn call before front back

-- some list of the call begins with this list, and then has an access that is made by this request
abbrev pub BeginsAndAsks : Call → Fields → List Access → Request → Type 0
BeginsAndAsks call before front request =
    (access : Access) × (back : List Access) × (request_of access ≡ request) × GoesOn call before front (access ∷ back)

-- what the driver does after these accesses: it returns, or makes this request
abbrev pub IsTurn : Call → Fields → List Access → Turn → Type 0
IsTurn call before front (Returns returned) = Makes call before front returned
IsTurn call before front (Asks request) = BeginsAndAsks call before front request

-- the accesses up to the first that the driver does not make, and what it does then. No list of the call follows this
-- one any farther
pub record IsFollowed (call : Call) (before : Fields) (list : List Access) (followed : Followed) : Type 0 where
  pub front : List Access
  pub back : List Access
  pub whole : list ≡ front ++ back
  pub kept : followed.kept ≡ length front
  pub turn : IsTurn call before front followed.turn
  pub farthest : (longer rest : List Access) → list ≡ longer ++ rest → length front < length longer →
      Begins call before longer → ⊥

-- what comes after a list that was made: the call returned so; or it makes this request next; or no list of the call
-- begins with the list
abbrev pub IsNext : Call → Fields → List Access → NextStep → Type 0
IsNext call before made (Done returned) = Makes call before made returned
IsNext call before made (Asked request) = BeginsAndAsks call before made request
IsNext call before made Strayed = Begins call before made → ⊥
