-- Several ports on one interrupt line: each is handled and lets its own line fall; once all are low, each may raise its
-- line again.
use Rattle.std.specs.Prelude.{◌≡◌, ◌||◌, ◌+◌, ℕ, zero, suc, nat_lt, Bool, false, List, [], ◌∷◌, Result, Ok, Err}
use Rattle.std.specs.Prelude.{MatchOption}
use Rattle.uart_spec.specs.declared.access.Access.{Access}
use Rattle.uart_spec.specs.declared.access.Access.TheVariants.{Read}
use Rattle.uart_spec.specs.declared.registers.offsets.TheConstants as offsets
use Rattle.uart_spec.specs.declared.setup.FifoSize.{FifoSize}
use Rattle.uart_16550.specs.Grammar.{Only}
use Rattle.uart_16550.specs.Driver.{Doing, Saving}
use Rattle.uart_16550.specs.Status.{Enables}
use Rattle.uart_ring.specs.Ring.{RingDoing, RingDid, OnDriver, Stays, RingNext, unchanged}
use Rattle.uart_ring.specs.Storm.{TurnsOff, TriesToHandle}
use Rattle.uart_ring.specs.Bounded.{most_of_change, most_of_try_handle}
use Rattle.uart_ring.specs.declared.line.LinePort.{LinePort}
use Rattle.uart_ring.specs.declared.ring.line.Lowered.{Lowered}
use Rattle.uart_ring.specs.declared.ring.service.Handled.{Handled}
use Rattle.uart_ring.specs.declared.ring.storm.StuckError.{StuckError}

-- ---- one port

-- one read of IER, which shows what is enabled
abbrev pub ShowsEnabled : ℕ → Doing
ShowsEnabled bits = Saving (Only (Read offsets.IER bits ∷ []))

-- `lower_line`: a `try_handle`; then IER is read, and all interrupts are disabled
abbrev pub LowersLine : (limit rounds : ℕ) → Lowered → RingDoing
LowersLine limit rounds lowered =
    RingNext (TriesToHandle limit rounds lowered.handled)
    (RingNext (OnDriver (ShowsEnabled lowered.enabled.0) unchanged) (OnDriver TurnsOff unchanged))

-- `raise_line`: these interrupts are enabled; of a chip that is stuck none
abbrev pub RaisesLine : ℕ → RingDoing
RaisesLine bits f l after =
    MatchOption f.stuck (OnDriver (Enables bits) unchanged f l after) (λ error. Stays f l after)

-- how many accesses the first half makes at most, and both together
abbrev pub most_of_lower : (limit : ℕ) → FifoSize → ℕ
most_of_lower limit size = most_of_try_handle limit size + (1 + most_of_change)

abbrev pub most_of_port : (limit : ℕ) → FifoSize → ℕ
most_of_port limit size = most_of_lower limit size + most_of_change

-- an interrupt was served
abbrev pub has_served : Result Handled StuckError → Bool
has_served (Ok handled) = nat_lt 0 handled.served
has_served (Err error) = false

-- ---- the ports of a line, one after the other

-- this happens at each port below the number, in the order of their numbers
abbrev pub InTurn : {S : Type 0} → (ℕ → S → S → Type 0) → (number : ℕ) → S → S → Type 0
InTurn Does zero a b = b ≡ a
InTurn {S} Does (suc n) a b = (mid : S) × InTurn Does n a mid × Does n mid b

-- the same, and whether an interrupt was served at one of them
abbrev pub ServesInTurn : {S : Type 0} → (ℕ → Bool → S → S → Type 0) → (number : ℕ) → Bool → S → S → Type 0
ServesInTurn Does zero served a b = (served ≡ false) × (b ≡ a)
ServesInTurn {S} Does (suc n) served a b =
    (before : Bool) × (here : Bool) × (mid : S)
    × ServesInTurn Does n before a mid × Does n here mid b × (served ≡ (before || here))

-- `handle_line`: first the line of each port is lowered, and from then on that of each is raised. In between is a
-- moment at which all are low
pub record HandlesLine {S : Type 0} (Lowers : ℕ → Bool → S → S → Type 0) (Raises : ℕ → S → S → Type 0)
    (number : ℕ) (served : Bool) (old new : S) : Type 0 where
  pub all_low : S
  pub lowers : ServesInTurn Lowers number served old all_low
  pub raises : InTurn Raises number all_low new

-- ---- ports in a list

-- each goes so, in its place
abbrev pub EachGoes : {A : Type 0} → (A → A → Type 0) → List A → List A → Type 0
EachGoes Goes [] [] = Unit {0}
EachGoes Goes [] (y ∷ ys) = ⊥
EachGoes Goes (x ∷ xs) [] = ⊥
EachGoes Goes (x ∷ xs) (y ∷ ys) = Goes x y × EachGoes Goes xs ys

-- the one of this number goes so, and each of the others so
abbrev pub AtPort : {A : Type 0} → (Goes Others : A → A → Type 0) → (port : ℕ) → List A → List A → Type 0
AtPort Goes Others port [] ys = ⊥
AtPort Goes Others port (x ∷ xs) [] = ⊥
AtPort Goes Others zero (x ∷ xs) (y ∷ ys) = Goes x y × EachGoes Others xs ys
AtPort Goes Others (suc port) (x ∷ xs) (y ∷ ys) = Others x y × AtPort Goes Others port xs ys

-- it is the same
abbrev pub IsSame : {A : Type 0} → A → A → Type 0
IsSame x y = y ≡ x

-- the line of the port is lowered, and what was done there is noted; the result is whether an interrupt was served
pub record LowersPort {B : Type 0} (step : B → Access → B → Type 0) (limit rounds : ℕ) (served : Bool)
    (old new : LinePort B) : Type 0 where
  pub did : RingDid step (LowersLine limit rounds new.lowered) old.ring new.ring
  pub tells : served ≡ has_served new.lowered.handled

-- the line of the port is raised, with the interrupts that were enabled when it was lowered
pub record RaisesPort {B : Type 0} (step : B → Access → B → Type 0) (old new : LinePort B) : Type 0 where
  pub did : RingDid step (RaisesLine old.lowered.enabled.0) old.ring new.ring
  pub keeps : new.lowered ≡ old.lowered

-- the line of the port of this number is lowered, or raised, and the other ports stay as they are
abbrev pub LowersAt : {B : Type 0} → (B → Access → B → Type 0) → (limit rounds port : ℕ) → Bool →
    (old new : List (LinePort B)) → Type 0
LowersAt step limit rounds port served = AtPort (LowersPort step limit rounds served) IsSame port

abbrev pub RaisesAt : {B : Type 0} → (B → Access → B → Type 0) → (port : ℕ) → (old new : List (LinePort B)) → Type 0
RaisesAt step = AtPort (RaisesPort step) IsSame

-- `handle_ports`: first the line of each port of a slice is lowered, and from then on that of each is raised. In
-- between is a moment at which all are low
abbrev pub HandlesPorts : {B : Type 0} → (B → Access → B → Type 0) → (limit rounds number : ℕ) → Bool →
    (old new : List (LinePort B)) → Type 0
HandlesPorts step limit rounds = HandlesLine (LowersAt step limit rounds) (RaisesAt step)
