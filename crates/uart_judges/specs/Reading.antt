-- What the bytes of a trace mean, and the first fault of bytes that are no trace.
use Rattle.std.specs.Prelude.{◌≡◌, ℕ, ◌+◌, Bool, true, false, List, [], ◌∷◌, Option, Some, None, Result, Ok, Err, ⊤}
use Rattle.uart_spec.specs.declared.access.Access.{Access}
use Rattle.uart_call.specs.declared.call.Call.{Call}
use Rattle.uart_language.specs.Sayings.{plain}
use Rattle.uart_language.specs.Text.{lines_of}
use Rattle.uart_judges.specs.TraceLines.{Saying, Nothing, Fresh, Calls, Makes, Returns, says}
use Rattle.uart_judges.specs.declared.traces.cause.TraceFault.{TraceFault}
use Rattle.uart_judges.specs.declared.traces.cause.TraceFault.TheVariants.{NoAnswer, NoCallBefore}
use Rattle.uart_judges.specs.declared.traces.cause.TraceError.{TraceError}
use Rattle.uart_judges.specs.declared.traces.cause.TraceError.TheVariants.{NoTrace, OutOfMemory}
use Rattle.uart_judges.specs.declared.traces.exchange.Exchange.{Exchange}

-- A trace is a grammar of lines, and its first fault a function of the lines. The reader has a loop for each of the
-- two, and neither definition is a copy of it. A law joins them: a trace has no fault. A trace may be empty: a
-- recording of which no call was made strays nowhere. A call without an answer is a fault of its own line, although it
-- is noticed at a later one.

-- ---- the trace

-- What follows the line of a call: its accesses, each with the number of its line, and then its answer with that of its
-- own. The first number is that of the line before; the lines after the answer are left.
pub data Goes : ℕ → List (List ℕ) → List Access → List ℕ → (answer : List ℕ) → (answer_line : ℕ) → List (List ℕ) →
    Type 0 where
  skip : {n : ℕ} {line : List ℕ} {lines : List (List ℕ)} {entries : List Access} {numbers answer : List ℕ} {last : ℕ}
      {left : List (List ℕ)} → says line ≡ Ok Nothing → Goes (n + 1) lines entries numbers answer last left
      → Goes n (line ∷ lines) entries numbers answer last left
  makes : {n : ℕ} {line : List ℕ} {lines : List (List ℕ)} {access : Access} {entries : List Access}
      {numbers answer : List ℕ} {last : ℕ} {left : List (List ℕ)} → says line ≡ Ok (Makes access)
      → Goes (n + 1) lines entries numbers answer last left
      → Goes n (line ∷ lines) (access ∷ entries) ((n + 1) ∷ numbers) answer last left
  returns : {n : ℕ} {line answer : List ℕ} {left : List (List ℕ)} → says line ≡ Ok (Returns answer)
      → Goes n (line ∷ left) [] [] answer (n + 1) left

-- The calls of the lines after the line with this number, in order. The flag says that the next call is the first of a
-- new driver.
pub data AreExchanges : ℕ → Bool → List (List ℕ) → List Exchange → Type 0 where
  ended : {n : ℕ} {first : Bool} → AreExchanges n first [] []
  blank : {n : ℕ} {first : Bool} {line : List ℕ} {lines : List (List ℕ)} {xs : List Exchange}
      → says line ≡ Ok Nothing → AreExchanges (n + 1) first lines xs → AreExchanges n first (line ∷ lines) xs
  renews : {n : ℕ} {first : Bool} {line : List ℕ} {lines : List (List ℕ)} {xs : List Exchange}
      → says line ≡ Ok Fresh → AreExchanges (n + 1) true lines xs → AreExchanges n first (line ∷ lines) xs
  calls : {n : ℕ} {line : List ℕ} {lines left : List (List ℕ)} {x : Exchange} {xs : List Exchange}
      → says line ≡ Ok (Calls (plain x.call))
      → Goes (n + 1) lines x.accesses.items x.access_lines.items x.answer.items x.answer_line left
      → AreExchanges x.answer_line false left xs → AreExchanges n x.is_first (line ∷ lines) (x ∷ xs)

-- the bytes are a trace with these calls, the first of which is made by a new driver
abbrev pub IsTrace : List ℕ → List Exchange → Type 0
IsTrace bytes xs = AreExchanges 0 true (lines_of bytes) xs

-- ---- the first fault

-- a faulty line, and what is wrong with it
pub record Faulty : Type 0 where
  pub line : ℕ
  pub fault : TraceFault

-- the line of the call that has no answer yet, after this line
abbrev pub open_after : ℕ → Saying → Option ℕ → Option ℕ
open_after number (Calls _) waiting = Some number
open_after number (Returns text) waiting = None
open_after number said waiting = waiting

-- what is wrong with a line that means this, at its place: an access or an answer has no call before it, or the call
-- before has no answer, and then that call is faulty
abbrev pub misplaced : ℕ → Saying → Option ℕ → Option Faulty
misplaced number (Makes access) None = Some (record { line = number; fault = NoCallBefore })
misplaced number (Returns text) None = Some (record { line = number; fault = NoCallBefore })
misplaced number (Calls _) (Some before) = Some (record { line = before; fault = NoAnswer })
misplaced number Fresh (Some before) = Some (record { line = before; fault = NoAnswer })
misplaced number said waiting = None

-- what is wrong with a line by itself, or else at its place
abbrev pub fault_at : ℕ → Result Saying TraceFault → Option ℕ → Option Faulty
fault_at number (Err fault) waiting = Some (record { line = number; fault = fault })
fault_at number (Ok said) waiting = misplaced number said waiting

-- this fault, or else the other
abbrev pub or_else : Option Faulty → Option Faulty → Option Faulty
or_else (Some faulty) other = Some faulty
or_else None other = other

-- where the last call has no answer
abbrev pub fault_at_end : Option ℕ → Option Faulty
fault_at_end (Some before) = Some (record { line = before; fault = NoAnswer })
fault_at_end None = None

-- the line of a call without an answer, after a line that means this
abbrev pub open_by : ℕ → Result Saying TraceFault → Option ℕ → Option ℕ
open_by number (Ok said) waiting = open_after number said waiting
open_by number (Err fault) waiting = waiting

-- the first fault of the lines after the line with this number, of which a call may have no answer yet
unfoldable pub first_fault : ℕ → Option ℕ → List (List ℕ) → Option Faulty
first_fault n waiting [] = fault_at_end waiting
first_fault n waiting (line ∷ lines) =
    or_else (fault_at (n + 1) (says line) waiting) (first_fault (n + 1) (open_by (n + 1) (says line) waiting) lines)

-- the first fault of these bytes, if they are no trace
abbrev pub fault_of : List ℕ → Option Faulty
fault_of bytes = first_fault 0 None (lines_of bytes)

-- ---- what the parts of the reader return

-- the first of the lines means this, and the others are left
pub record ReadsLine (lines : List (List ℕ)) (said : Saying) (left : List (List ℕ)) : Type 0 where
  pub line : List ℕ
  pub first : lines ≡ line ∷ left
  pub means : says line ≡ Ok said

-- the first of the lines has this number, and is faulty by itself
pub record RefusesLine (number : ℕ) (lines : List (List ℕ)) (error : TraceError) : Type 0 where
  pub line : List ℕ
  pub left : List (List ℕ)
  pub first : lines ≡ line ∷ left
  pub fault : TraceFault
  pub means : says line ≡ Err fault
  pub told : error ≡ NoTrace number fault

-- the error is this fault, or that memory ran out
abbrev pub Refuses : Option Faulty → TraceError → Type 0
Refuses found (NoTrace line fault) = found ≡ Some (record { line = line; fault = fault })
Refuses found OutOfMemory = ⊤

-- this is the call of the line with this number, with what follows it up to its answer; then these lines are left
pub record ReadsExchange (is_first : Bool) (call : Call) (number : ℕ) (lines : List (List ℕ)) (x : Exchange)
    (left : List (List ℕ)) : Type 0 where
  pub first : x.is_first ≡ is_first
  pub called : x.call ≡ call
  pub goes : Goes number lines x.accesses.items x.access_lines.items x.answer.items x.answer_line left
  pub faultless : first_fault number (Some number) lines ≡ first_fault x.answer_line None left
