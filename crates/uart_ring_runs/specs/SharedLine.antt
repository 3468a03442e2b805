-- A line that several ports share, at a controller that detects edges: it is high as long as one of the chips
-- interrupts.
use Rattle.std.specs.Prelude.{◌≡◌, ◌⊎◌, ◌||◌, ℕ, Bool, true, false, List, [], ◌∷◌}
use Rattle.uart_events.specs.declared.event.Event.{Event}
use Rattle.uart_spec.specs.Access.{Path}
use Rattle.uart_spec.specs.declared.access.Access.{Access}
use Rattle.uart_chip.specs.Chip.{is_dlab_set}
use Rattle.uart_chip.specs.Machine.{MachineState, MachineStep, before_mark}
use Rattle.uart_ring.specs.Ring.{RingFields}
use Rattle.uart_ring.specs.Line.{LowersLine, InTurn, AtPort}
use Rattle.uart_ring.specs.declared.line.LinePort.{LinePort}
use Rattle.uart_ring.specs.declared.ring.line.Lowered.{Lowered}
use Rattle.uart_ring_runs.specs.Edges.{is_line_up}
use Rattle.uart_ring_runs.specs.RingRun.{ring_machine}

-- the chips of a line at one moment, in the order of their ports
abbrev pub Moment : Type 0
Moment = List MachineState

-- the machine of a port
abbrev pub port_machine : LinePort MachineState → MachineState
port_machine p = ring_machine p.ring

-- the line is high: the line of one of the chips is
abbrev pub is_shared_line_up : Moment → Bool
is_shared_line_up [] = false
is_shared_line_up (m ∷ ms) = is_line_up m || is_shared_line_up ms

-- DLAB of each chip is off
abbrev pub AreDlabsOff : Moment → Type 0
AreDlabsOff [] = Unit {0}
AreDlabsOff (m ∷ ms) = (is_dlab_set m.chip.latches ≡ false) × AreDlabsOff ms

-- ---- things happen at any time

-- The schedule of a machine says what happens to its chip before each of its own accesses. While one port of a line is
-- handled, time passes for the others. So here anything may happen to each chip at any time, beside what its schedule
-- says.

-- some events have happened to the chip: ticks passed, characters arrived, its modem lines changed
pub record Happened (m n : MachineState) : Type 0 where
  pub events : List Event
  pub chip : n ≡ record m { chip = before_mark events m.chip }

-- an access of a chip, to which some events have happened before
pub record AtAnyTime (m : MachineState) (access : Access) (n : MachineState) : Type 0 where
  pub late : MachineState
  pub happened : Happened m late
  pub step : MachineStep late access n

-- a `lower_line` was made at the chip by rings that hold anything, and some events happened between its accesses, and
-- behind the last one
pub record WasLowered (limit rounds : ℕ) (m n : MachineState) : Type 0 where
  pub before : RingFields
  pub after : RingFields
  pub lowered : Lowered
  pub list : List Access
  pub does : LowersLine limit rounds lowered before list after
  pub last : MachineState
  pub path : Path AtAnyTime m list last
  pub happened : Happened last n

-- the first half of a `handle_line`: the lines of so many ports were lowered, one after the other, and anything has
-- happened to the other chips meanwhile
abbrev pub WereLowered : (limit rounds number : ℕ) → Moment → Moment → Type 0
WereLowered limit rounds number = InTurn (AtPort (WasLowered limit rounds) Happened) number

-- ---- the course of a line

-- the last of some moments
abbrev pub last_of : Moment → List Moment → Moment
last_of moment [] = moment
last_of moment (later ∷ course) = last_of later course

-- the line rose in this course of moments: it was low at one of them, and high at the next
abbrev pub RisesIn : Moment → List Moment → Type 0
RisesIn moment [] = ⊥
RisesIn moment (later ∷ course) =
    ((is_shared_line_up moment ≡ false) × (is_shared_line_up later ≡ true)) ⊎ RisesIn later course
