-- A backend that plays back answers and keeps the accesses, and what it shows about a call.
use Rattle.std.specs.Prelude.{◌≡◌, ℕ, Bool, true, ◌&&◌, List, [], ◌∷◌, ◌++◌, nat_lt, length}
use Rattle.uart_spec.specs.Access.{Path}
use Rattle.uart_spec.specs.declared.access.Access.{Access}
use Rattle.uart_spec.specs.declared.access.Access.TheVariants.{Read, Write}
use Rattle.uart_16550.specs.Grammar.{Language}
use Rattle.uart_16550.specs.Driver.{Did, Doing, Made, fields}
use Rattle.uart_16550.specs.Choice.{answers}
use Rattle.uart_16550.specs.declared.driver.Uart16550.{Uart16550}
use Rattle.uart_calls.specs.declared.replay.TheConstants.{REPLAY_ROOM}

-- the answers that are left, the accesses that were made, and whether all of them were kept
pub record Replay : Type 0 where
  pub answers : List ℕ
  pub made : List Access
  pub whole : Bool

-- reads return the bytes of the list in turn, and then 0, whatever the register
abbrev pub AnswersInTurn : List ℕ → Access → List ℕ → Type 0
AnswersInTurn [] (Read offset answer) left = (answer ≡ 0) × (left ≡ [])
AnswersInTurn (byte ∷ bytes) (Read offset answer) left = (answer ≡ byte) × (left ≡ bytes)
AnswersInTurn bytes (Write offset value) left = left ≡ bytes

-- a read returns the next answer, or 0 if none is left; and the access is kept, as long as there is room
pub record ReplayStep (old : Replay) (access : Access) (new : Replay) : Type 0 where
  pub answers : AnswersInTurn old.answers access new.answers
  pub whole : new.whole ≡ (old.whole && nat_lt (length old.made) REPLAY_ROOM)
  pub made : new.whole ≡ true → new.made ≡ old.made ++ access ∷ []

-- the reads of a list return the first of these answers in turn, and the other answers are left
abbrev pub FedBy : (answers : List ℕ) → List Access → (left : List ℕ) → Type 0
FedBy answers [] left = left ≡ answers
FedBy answers (access ∷ accesses) left =
    (between : List ℕ) × AnswersInTurn answers access between × FedBy between accesses left

-- these accesses were added, and their reads returned the answers in turn
pub record Shows (old : Replay) (list : List Access) (new : Replay) : Type 0 where
  pub made : new.made ≡ old.made ++ list
  pub fed : FedBy old.answers list new.answers

-- a replay that is whole shows the accesses that led to it
abbrev pub ReplaysShow : Type 0
ReplaysShow =
    (old new : Replay) (list : List Access) → Path ReplayStep old list new → new.whole ≡ true → Shows old list new

-- if the replay is whole after a call, what it shows is a list of the call
abbrev pub Replayed : Doing → Uart16550 Replay → Uart16550 Replay → Type 0
Replayed G old new =
    new.backend.whole ≡ true →
    (list : List Access) × G (fields old) list (fields new) × Shows old.backend list new.backend

-- a call with outcome b over a replay repeats one with outcome a and this list, if it starts from equal fields, over a
-- replay with what the reads of that list returned: the outcomes and the fields after it are equal, and the replay, if
-- it is whole, shows the list
abbrev pub IsRepeated : {R B : Type 0} → (a b : R) → List Access → (old new : Uart16550 B) →
    (before after : Uart16550 Replay) → Type 0
IsRepeated a b list old new before after =
    -- the two drivers have equal fields
    fields old ≡ fields before →
    -- the replay has the values that the call's reads returned
    before.backend.answers ≡ answers list →
    (a ≡ b) × (fields new ≡ fields after)
    × (after.backend.whole ≡ true → after.backend.made ≡ before.backend.made ++ list)

-- two calls, the second over a replay
abbrev pub Repeats : {R B : Type 0} → (R → Doing) → (B → Access → B → Type 0) → Type 0
Repeats {R} {B} G step =
    (a b : R) (old new : Uart16550 B) (before after : Uart16550 Replay) → (p : Did step (G a) old new) →
    Did ReplayStep (G b) before after → IsRepeated a b p.list old new before after

-- a replay that is fed by a call which saves what its reads clear, and changes nothing else, repeats it
abbrev pub RepeatsSaving : {R B : Type 0} → (R → Language) → (B → Access → B → Type 0) → Type 0
RepeatsSaving {R} {B} L step =
    (a b : R) (old new : Uart16550 B) (before after : Uart16550 Replay) → (p : Made step (L a) old new) →
    Made ReplayStep (L b) before after → IsRepeated a b p.list old new before after
