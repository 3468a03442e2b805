-- What the accesses of a recording say of a machine, and that no machine explains a difference.
use Rattle.std.specs.Prelude.{◌≡◌, ℕ, zero, suc, Bool, true, false, List, [], ◌∷◌, ◌++◌, replicate, Option, Some, None}
use Rattle.std.specs.Prelude.{IsSome, is_some, ⊤}
use Rattle.uart_spec.specs.Access.{Path}
use Rattle.uart_spec.specs.declared.access.Access.{Access}
use Rattle.uart_spec.specs.declared.access.Access.TheVariants.{Read, Write}
use Rattle.uart_spec.specs.declared.setup.FifoSize.{FifoSize}
use Rattle.uart_events.specs.declared.event.Chip.{Chip}
use Rattle.uart_events.specs.declared.event.Event.{Event}
use Rattle.uart_events.specs.Build.{refusal}
use Rattle.uart_chip.specs.Machine.{MachineState, MachineStep, fresh, cutting, sized}
use Rattle.uart_judges.specs.declared.replay.difference.Difference.{Difference}
use Rattle.uart_judges.specs.declared.replay.difference.Reported.{Reported}
use Rattle.uart_judges.specs.declared.replay.known.Known.{Known}
use Rattle.uart_judges.specs.declared.replay.known.Start.{Start}
use Rattle.uart_judges.specs.declared.replay.known.Start.TheVariants.{Reset, InUse}
use Rattle.uart_judges.specs.declared.replay.rule.Rule.{Rule}
use Rattle.uart_judges.specs.Known.{after_read, after_asking, after_write}
use Rattle.uart_judges.specs.Rules.{broken}

-- ---- machines that explain accesses

-- an access of a recording: one that was made, with its value; or a read whose value is left out
pub data Seen : Type 0 where
  Did : Access → Seen
  Asked : (offset : ℕ) → Seen

-- a read, whose value is left out if it was reported
abbrev pub seen_read : Bool → ℕ → ℕ → Seen
seen_read true offset value = Asked offset
seen_read false offset value = Did (Read offset value)

-- the access leads from a machine to a machine: its events happen, and a read returns what was seen
abbrev pub SeenStep : MachineState → Seen → MachineState → Type 0
SeenStep m (Did access) n = MachineStep m access n
SeenStep m (Asked offset) n = (value : ℕ) × MachineStep m (Read offset value) n

-- the accesses lead from a machine to a machine, one after the other
abbrev pub SeenPath : MachineState → List Seen → MachineState → Type 0
SeenPath m [] n = n ≡ m
SeenPath m (access ∷ accesses) n = (mid : MachineState) × SeenStep m access mid × SeenPath mid accesses n

-- a machine of this model after power-on, with FIFOs of any size and any schedule: ticks, arrivals, changes of lines,
-- in any order, before each access
pub record IsBuilt (model : Chip) (m : MachineState) : Type 0 where
  pub size : FifoSize
  pub char_ticks : ℕ
  pub capacity : ℕ
  pub events : List Event
  pub cuts : Bool
  pub accepted : refusal char_ticks capacity events ≡ None
  pub built : m ≡ sized size (cutting cuts (fresh model char_ticks capacity events))

-- a machine of this model that was built, after any accesses
pub record IsUsed (model : Chip) (m : MachineState) : Type 0 where
  pub first : MachineState
  pub accesses : List Access
  pub built : IsBuilt model first
  pub path : Path MachineStep first accesses m

-- a machine at the start of a recording
abbrev pub Begins : Chip → Start → MachineState → Type 0
Begins model Reset m = IsBuilt model m
Begins model InUse m = IsUsed model m

-- no machine, whatever its schedule, explains these accesses and then returns this value
abbrev pub NoneReturns : Chip → Start → List Seen → ℕ → ℕ → Type 0
NoneReturns model start seen offset value =
    (m n o : MachineState) → Begins model start m → SeenPath m seen n → MachineStep n (Read offset value) o → ⊥

-- ---- what is known, and what is reported

-- what is known after an access
abbrev pub known_after : Known → Seen → Known
known_after k (Did (Read offset value)) = after_read offset value k
known_after k (Did (Write offset value)) = after_write offset value k
known_after k (Asked offset) = after_asking offset k

-- what is known after accesses
abbrev pub known_from : Known → List Seen → Known
known_from k [] = k
known_from k (access ∷ accesses) = known_from (known_after k access) accesses

-- the difference at a read with this broken rule
abbrev pub difference_by : ℕ → ℕ → Option Rule → Option Difference
difference_by offset value None = None
difference_by offset value (Some rule) = Some (record { offset = offset; recorded = value; rule = rule })

-- what is reported for a read that returned this value
abbrev pub difference : ℕ → ℕ → Known → Option Difference
difference offset value k = difference_by offset value (broken offset value k)

-- ---- a read that is made again and again

-- what is known after a read that returned this value
abbrev pub known_read : ℕ → ℕ → Known → Known
known_read offset value k = known_after k (seen_read (is_some (difference offset value k)) offset value)

-- what is known after so many equal reads in turn
unfoldable pub known_reads : ℕ → ℕ → ℕ → Known → Known
known_reads zero offset value k = k
known_reads (suc n) offset value k = known_reads n offset value (known_read offset value k)

-- what is reported for each of so many equal reads in turn
unfoldable pub differences : ℕ → ℕ → ℕ → Known → List (Option Difference)
differences zero offset value k = []
differences (suc n) offset value k = difference offset value k ∷ differences n offset value (known_read offset value k)

-- the first, and then each of the others, of so many
abbrev pub each_of : ℕ → Reported → List (Option Difference)
each_of zero reported = []
each_of (suc n) reported = reported.first ∷ replicate n reported.others

-- for each of these reads in turn: if it is reported, no machine explains the accesses before it and then returns this
abbrev pub AreSound : Chip → Start → List Seen → ℕ → ℕ → List (Option Difference) → Type 0
AreSound model start seen offset value [] = ⊤
AreSound model start seen offset value (reported ∷ rest) =
    (IsSome reported → NoneReturns model start seen offset value)
    × AreSound model start (seen ++ seen_read (is_some reported) offset value ∷ []) offset value rest
