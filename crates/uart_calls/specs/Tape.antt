-- A recorded list that is played back, access by access.
use Rattle.std.specs.Prelude.{◌≡◌, ◌⊎◌, ℕ, List, [], ◌∷◌, Option, Some, None}
use Rattle.uart_spec.specs.declared.access.Access.{Access}
use Rattle.uart_spec.specs.declared.access.Access.TheVariants.{Read, Write}
use Rattle.uart_calls.specs.declared.tape.Request.{Request}
use Rattle.uart_calls.specs.declared.tape.Request.TheVariants as request

-- what a driver asks for in an access: to read a register, or to write a byte to it
abbrev pub request_of : Access → Request
request_of (Read offset answer) = request.Read offset
request_of (Write offset value) = request.Write offset value

-- the access of a request; a write has no answer
abbrev pub answered : Request → ℕ → Access
answered (request.Read offset) answer = Read offset answer
answered (request.Write offset value) answer = Write offset value

-- what is left of the list, and the first request that is not its next access
pub record Tape : Type 0 where
  pub left : List Access
  pub asked : Option Request

-- the first access of the list is made by this request
abbrev pub GoesOnBy : Request → List Access → Type 0
GoesOnBy request [] = ⊥
GoesOnBy request (access ∷ accesses) = request_of access ≡ request

-- the access is the next one of the list
pub record Takes (old : Tape) (access : Access) (new : Tape) : Type 0 where
  pub none_before : old.asked ≡ None
  pub next : old.left ≡ access ∷ new.left
  pub none : new.asked ≡ None

-- the request that was kept, otherwise this one
abbrev pub first_of : Option Request → Request → Request
first_of None request = request
first_of (Some first) request = first

-- the next access of the list has another request, or the list was already left at an earlier one: the first such
-- request is kept
pub record Strays (old : Tape) (access : Access) (new : Tape) : Type 0 where
  pub stays : new.left ≡ old.left
  pub asked : new.asked ≡ Some (first_of old.asked (request_of access))
  pub strange : old.asked ≡ None → GoesOnBy (request_of access) old.left → ⊥

-- the step of a tape: it takes the access, or strays
abbrev pub Plays : Tape → Access → Tape → Type 0
Plays old access new = Takes old access new ⊎ Strays old access new
