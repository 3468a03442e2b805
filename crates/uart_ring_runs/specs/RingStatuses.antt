-- What `take_line` and `take_modem` report in a session: drops, line errors and changes of the modem lines.
use Rattle.std.specs.Prelude.{◌≡◌, ◌≢◌, ℕ, List, [], ◌∷◌, ◌++◌}
use Rattle.std.specs.List.{AllByRecursion}
use Rattle.uart_call.specs.declared.call.Call.TheVariants as driver
use Rattle.uart_run.specs.Statuses.{TellsLine, TellsNoOtherDrop, TellsChanges, TellsNoOtherChange}
use Rattle.uart_ring_runs.specs.declared.call.RingCall.{RingCall}
use Rattle.uart_ring_runs.specs.declared.call.RingCall.TheVariants as call
use Rattle.uart_ring_runs.specs.declared.call.RingAnswer.{RingAnswer}
use Rattle.uart_ring_runs.specs.RingRun.{RingState, under, RingLink, line_answer, modem_answer}

-- none of these calls is c, and none is d, which is the driver's call that tells the same and forgets it
abbrev pub NeitherIs : RingCall → RingCall → List RingLink → Type 0
NeitherIs c d links = AllByRecursion (λ link. (link.call ≢ c) × (link.call ≢ d)) links

-- if the calls end with c, and no call before it is c or d, this holds of what the last one returned
abbrev pub TellsAtEnd : RingCall → RingCall → (ℕ → RingAnswer) → List RingLink → (ℕ → Type 0) → Type 0
TellsAtEnd c d answer_of links Told =
    (some : List RingLink) (last : RingLink) (value : ℕ) → links ≡ some ++ last ∷ [] → NeitherIs c d some →
    last.call ≡ c → last.answer ≡ answer_of value → Told value

-- if they also begin with c, this holds of what the last one returned, and of the state after the first
abbrev pub TellsSinceFirst : RingCall → RingCall → (ℕ → RingAnswer) → List RingLink → (RingState → ℕ → Type 0) → Type 0
TellsSinceFirst c d answer_of links Told =
    (first : RingLink) (some : List RingLink) (last : RingLink) (value : ℕ) → links ≡ first ∷ (some ++ last ∷ []) →
    NeitherIs c d some → first.call ≡ c → last.call ≡ c → last.answer ≡ answer_of value → Told first.after value

-- in a session that ends with a `take_line` or a `take_modem`: what that call reports, since the start of the session,
-- as `TellsLine` and `TellsChanges` say it of an `lsr` and an `msr`; and if the session also begins with one, since
-- that one, and nothing else
pub record RingTells (s : RingState) (links : List RingLink) (t : RingState) : Type 0 where
  pub line :
      TellsAtEnd call.TakeLine (call.Driver driver.Lsr) line_answer links (TellsLine (under s) (under t))
  pub only_drops : TellsSinceFirst call.TakeLine (call.Driver driver.Lsr) line_answer links
      (λ first. TellsNoOtherDrop (under first) (under t))
  pub changes :
      TellsAtEnd call.TakeModem (call.Driver driver.Msr) modem_answer links (TellsChanges (under s) (under t))
  pub only_changes : TellsSinceFirst call.TakeModem (call.Driver driver.Msr) modem_answer links
      (λ first. TellsNoOtherChange (under first) (under t))
