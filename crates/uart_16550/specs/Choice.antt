-- What the reads of a call determine.
use Rattle.std.specs.Prelude.{◌≡◌, ◌≤◌, ℕ, Bool, List, [], ◌∷◌, ◌++◌, ◌⊎◌, Result, IfOk, IfErr, OnErr}
use Rattle.std.specs.Prelude.{length, take, drop}
use Rattle.uart_spec.specs.declared.errors.StalledError.{StalledError}
use Rattle.uart_spec.specs.declared.access.Access.{Access}
use Rattle.uart_spec.specs.declared.access.Access.TheVariants.{Read, Write}
use Rattle.uart_16550.specs.Grammar.{Language}
use Rattle.uart_16550.specs.Driver.{Did, Doing, Fields, Made, backend_of, fields}
use Rattle.uart_16550.specs.Receive.{Receives, ReceivesWithErrors, ReceivesExact, filled}
use Rattle.uart_spec.specs.declared.received.Received.{Received}
use Rattle.uart_16550.specs.Patience.{ReceivesWhile, filled_while}
use Rattle.uart_16550.specs.declared.patience.WaitError.{WaitError}
use Rattle.uart_16550.specs.Io.{Reads, got}
use Rattle.uart_16550.specs.declared.driver.Uart16550.{Uart16550}

-- That no call has a choice is stated where two lists part, and not over a stream of answers. So the next access never
-- depends on a later answer, which a law over whole streams would allow, and no list is the beginning of another.

-- the lists are the same up to a read of one register, and this read returned one value in the one list and another
-- value in the other
pub record PartAtRead (one other : List Access) : Type 0 where
  pub front : List Access
  pub register : ℕ
  pub answer : ℕ
  pub other_answer : ℕ
  pub rest : List Access
  pub other_rest : List Access
  pub is_one : one ≡ front ++ Read register answer ∷ rest
  pub is_other : other ≡ front ++ Read register other_answer ∷ other_rest
  pub differs : answer ≡ other_answer → ⊥

-- two lists that a call may make from the same fields are the same list, with the same outcome and the same fields
-- after it; or they part at a read: so what the reads have returned so far determines the next access
abbrev pub LeavesNoChoice : {R : Type 0} → (R → Doing) → Type 0
LeavesNoChoice {R} G = (f : Fields) (a b : R) (l m : List Access) (after after' : Fields) →
    -- the call may make the one list from these fields
    G a f l after →
    -- and the other
    G b f m after' → ((a ≡ b) × (l ≡ m) × (after ≡ after')) ⊎ PartAtRead l m

-- what the reads of a list returned, in order
abbrev pub answers : List Access → List ℕ
answers [] = []
answers (Read offset answer ∷ accesses) = answer ∷ answers accesses
answers (Write offset value ∷ accesses) = answers accesses

-- the reads of the list returned the answers at the front of this stream
abbrev pub IsAnsweredFrom : (stream : List ℕ) → List Access → Type 0
IsAnsweredFrom stream accesses = (rest : List ℕ) × (stream ≡ answers accesses ++ rest)

-- two calls of drivers with equal fields, each over its own backend, whose reads returned the front of one stream
-- have the same outcome, the same list, and the same fields after it
abbrev pub Agree : {R B C : Type 0} → (R → Doing) → (B → Access → B → Type 0) → (C → Access → C → Type 0) → Type 0
Agree {R} {B} {C} G step other_step =
    (stream : List ℕ) (a b : R) (old new : Uart16550 B) (other_old other_new : Uart16550 C) →
    (p : Did step (G a) old new) (q : Did other_step (G b) other_old other_new) →
    -- the two drivers have equal fields
    fields old ≡ fields other_old →
    IsAnsweredFrom stream p.list → IsAnsweredFrom stream q.list →
    (a ≡ b) × (p.list ≡ q.list) × (fields new ≡ fields other_new)

-- two calls of drivers with equal fields, each over its own backend, that save what their reads clear and change
-- nothing else, and whose reads returned the front of one stream, have the same outcome, the same list, and the same
-- fields after it
abbrev pub AgreeSaving : {R B C : Type 0} → (R → Language) → (B → Access → B → Type 0) → (C → Access → C → Type 0) →
    Type 0
AgreeSaving {R} {B} {C} L step other_step =
    (stream : List ℕ) (a b : R) (old new : Uart16550 B) (other_old other_new : Uart16550 C) →
    (p : Made step (L a) old new) (q : Made other_step (L b) other_old other_new) →
    -- the two drivers have equal fields
    fields old ≡ fields other_old →
    IsAnsweredFrom stream p.list → IsAnsweredFrom stream q.list →
    (a ≡ b) × (p.list ≡ q.list) × (fields new ≡ fields other_new)

-- a read of a register in one state has one answer and leads to one state, and a write of a value leads to one state
pub record IsFunction {B : Type 0} (step : B → Access → B → Type 0) : Type 0 where
  pub read : (s t u : B) (register a b : ℕ) → step s (Read register a) t → step s (Read register b) u →
      (a ≡ b) × (t ≡ u)
  pub write : (s t u : B) (register value : ℕ) → step s (Write register value) t → step s (Write register value) u →
      t ≡ u

-- the driver has the same fields and a backend in the same state
abbrev pub IsSame : {B : Type 0} → Uart16550 B → Uart16550 B → Type 0
IsSame d e = (fields d ≡ fields e) × (backend_of d ≡ backend_of e)

-- a call of the same driver has one outcome, and leaves the same driver
abbrev pub HasOneOutcome : {R B : Type 0} → (R → Doing) → (B → Access → B → Type 0) → Type 0
HasOneOutcome {R} {B} G step =
    (a b : R) (old new other_old other_new : Uart16550 B) →
    Did step (G a) old new → Did step (G b) other_old other_new → IsSame old other_old →
    (a ≡ b) × IsSame new other_new

-- a call of the same driver that saves what its reads clear and changes nothing else has one outcome, and leaves the
-- same driver
abbrev pub HasOneOutcomeSaving : {R B : Type 0} → (R → Language) → (B → Access → B → Type 0) → Type 0
HasOneOutcomeSaving {R} {B} L step =
    (a b : R) (old new other_old other_new : Uart16550 B) →
    Made step (L a) old new → Made step (L b) other_old other_new → IsSame old other_old →
    (a ≡ b) × IsSame new other_new

-- what `receive_bytes` does to its slots, with its count
abbrev pub ReceivesInto : (old new : List ℕ) → (count : ℕ) → Language
ReceivesInto old new count s l =
    (length new ≡ length old) × (count ≤ length old) × (drop count new ≡ drop count old)
    × Receives (length old) (take count new) s l

-- what `receive_with_errors` does to its slots, with its count
abbrev pub ReceivesWithErrorsInto : (old new : List Received) → (count : ℕ) → Language
ReceivesWithErrorsInto old new count s l =
    (length new ≡ length old) × (count ≤ length old) × (drop count new ≡ drop count old)
    × ReceivesWithErrors (length old) (take count new) s l

-- what `receive_bytes_exact` does to its slots, with its result
abbrev pub ReceivesExactInto : {T : Type 0} → (old new : List ℕ) → Result T StalledError → Language
ReceivesExactInto old new result s l =
    (length new ≡ length old) × IfErr result (λ e. drop e.done new ≡ drop e.done old)
    × ReceivesExact (length old) (filled result new) result s l

-- what `receive_bytes_while` does to its slots, with the answers of its caller and its result
abbrev pub ReceivesWhileInto : {T : Type 0} → (old new : List ℕ) → List Bool → Result T WaitError → Language
ReceivesWhileInto old new said result s l =
    (length new ≡ length old) × IfErr result (λ e. drop e.done new ≡ drop e.done old)
    × ReceivesWhile (length old) (filled_while result new) said result s l

-- what a call does whose caller, asked again and again, would give these answers
abbrev pub AsAnswered : (answers : List Bool) → (List Bool → Language) → Language
AsAnswered answers L s l = (said : List Bool) × (later : List Bool) × (answers ≡ said ++ later) × L said s l

-- what `read` does to its slots, with its result
abbrev pub ReadsInto : (old new : List ℕ) → Result ℕ StalledError → Language
ReadsInto old new result s l =
    (length new ≡ length old) × IfOk result (λ count. count ≤ length old)
    × IfOk result (λ count. drop count new ≡ drop count old) × OnErr result (new ≡ old)
    × Reads (length old) (got result new) result s l
