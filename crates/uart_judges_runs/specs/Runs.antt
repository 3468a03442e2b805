-- Sessions over the software chip under a schedule.
use Rattle.std.specs.Prelude.{◌≡◌, false, List, [], ◌∷◌, ◌++◌}
use Rattle.uart_spec.specs.Access.{Path}
use Rattle.uart_spec.specs.declared.access.Access.{Access}
use Rattle.uart_16550.specs.Driver.{Fields}
use Rattle.uart_call.specs.declared.call.Call.{Call}
use Rattle.uart_call.specs.declared.call.Answer.{Answer}
use Rattle.uart_calls.specs.Lists.{IsListOf}
use Rattle.uart_chip.specs.Chip.{is_dlab_set, is_loopback}
use Rattle.uart_chip.specs.Machine.{MachineState, MachineStep}
use Rattle.uart_judges_runs.specs.Calls.{IsSteady}

-- DLAB and loopback are off, and the FIFOs are on exactly if the driver takes them to be on
pub record IsOpenTo (f : Fields) (m : MachineState) : Type 0 where
  pub dlab : is_dlab_set m.chip.latches ≡ false
  pub loopback : is_loopback m.chip.latches ≡ false
  pub fifo : m.chip.fifo ≡ f.fifo

-- one call, with its accesses, and what follows it
pub record IsCalled (call : Call) (Follows : Fields → MachineState → List Access → Type 0) (f : Fields)
    (m : MachineState) (accesses : List Access) : Type 0 where
  pub front : List Access
  pub back : List Access
  pub answer : Answer
  pub after : Fields
  pub mid : MachineState
  -- these are its accesses, and then those of what follows
  pub whole : accesses ≡ front ++ back
  pub steady : IsSteady call
  pub list : IsListOf call f front answer after
  pub path : Path MachineStep m front mid
  pub follows : Follows after mid back

-- the driver makes these calls in turn, from these fields, and they lead from the one machine to the other, by whatever
-- its schedule has
abbrev pub IsSession : List Call → Fields → MachineState → List Access → MachineState → Type 0
IsSession [] f m accesses n = (accesses ≡ []) × (n ≡ m)
IsSession (call ∷ calls) f m accesses n =
    IsCalled call (λ after mid back. IsSession calls after mid back n) f m accesses
