-- The chip's interrupt line at a controller that detects edges: it calls the handler because the line rose, and not
-- because the line is high.
use Rattle.std.specs.Prelude.{◌≡◌, ◌⊎◌, Bool, true, false, is_some, List, [], ◌∷◌}
use Rattle.uart_spec.specs.Access.{Path}
use Rattle.uart_spec.specs.declared.access.Access.{Access}
use Rattle.uart_chip.specs.Chip.{interrupt}
use Rattle.uart_chip.specs.Machine.{MachineState, MachineStep}
use Rattle.uart_ring_runs.specs.RingRun.{RingState, RingLink, RingChain, ring_machine}

-- the line is high: an interrupt is enabled and pending
abbrev pub is_line_up : MachineState → Bool
is_line_up m = is_some (interrupt m.chip)

-- the line was low before one of these accesses, or after the last one
abbrev pub IsDownDuring : (l : List Access) (m n : MachineState) → Path MachineStep m l n → Type 0
IsDownDuring [] m n path = is_line_up n ≡ false
IsDownDuring (access ∷ accesses) m n path = (is_line_up m ≡ false) ⊎ IsDownDuring accesses path.0 n path.2

-- the line rose: it was low before one of these accesses, and high after it. What the schedule has before the access,
-- and what the access itself does, come in between
abbrev pub RisesDuring : (l : List Access) (m n : MachineState) → Path MachineStep m l n → Type 0
RisesDuring [] m n path = ⊥
RisesDuring (access ∷ accesses) m n path =
    ((is_line_up m ≡ false) × (is_line_up path.0 ≡ true)) ⊎ RisesDuring accesses path.0 n path.2

-- the line rose in the course of these calls: it was low before one of them, and high after it
abbrev pub RisesInCalls : List RingLink → Type 0
RisesInCalls [] = ⊥
RisesInCalls (link ∷ links) =
    ((is_line_up (ring_machine link.before) ≡ false) × (is_line_up (ring_machine link.after) ≡ true))
    ⊎ RisesInCalls links

-- a call that made these accesses loses no edge: the line was low meanwhile; and if it is high after the call, or after
-- any ring calls that follow, then it has risen since the call began
pub record LosesNoEdge (l : List Access) (s t : RingState) (path : Path MachineStep (ring_machine s) l (ring_machine t))
    : Type 0 where
  pub was_down : IsDownDuring l (ring_machine s) (ring_machine t) path
  pub has_risen : (calls : List RingLink) (u : RingState) → RingChain t calls u → is_line_up (ring_machine u) ≡ true →
      RisesDuring l (ring_machine s) (ring_machine t) path ⊎ RisesInCalls calls
