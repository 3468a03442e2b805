-- A run of a script: which accesses each of its calls makes.
use Rattle.std.specs.Prelude.{◌≡◌, true, List, []}
use Rattle.uart_spec.specs.Access.{Path}
use Rattle.uart_spec.specs.declared.access.Access.{Access}
use Rattle.uart_call.specs.declared.call.Call.{Call}
use Rattle.uart_call.specs.declared.call.Call.TheVariants as call
use Rattle.uart_spec.specs.declared.config.TheConstants.Config.{DEFAULT}
use Rattle.uart_16550.specs.Driver.{Doing, Fields}
use Rattle.uart_calls.specs.Meaning.{Meaning, means, meaning}
use Rattle.uart_chip.specs.Machine.{MachineState, MachineStep, at_mark}
use Rattle.uart_language.specs.Script.{Plan}
use Rattle.uart_play.specs.ScriptOutput.{first_machine}
use Rattle.uart_run.specs.Chains.{RunOf}

-- a machine, and the fields of the driver over it
pub record State : Type 0 where
  pub machine : MachineState
  pub driver : Fields

-- the driver did what belongs to some outcome, by these accesses, each of which the machine made
pub record Makes {Outcome : Type 0} (doing : Outcome → Doing) (accesses : List Access) (s t : State) : Type 0 where
  pub outcome : Outcome
  pub path : Path MachineStep s.machine accesses t.machine
  pub does : doing outcome s.driver accesses t.driver

-- a call with this meaning was made by these accesses
abbrev pub IsMadeBy : Meaning → List Access → State → State → Type 0
IsMadeBy (means doing answer_of) accesses s t = Makes doing accesses s t

-- the call `Next`: the machine goes on to its mark, no access is made, and the driver stays as it is
pub record GoesOn (accesses : List Access) (s t : State) : Type 0 where
  pub none : accesses ≡ []
  pub machine : t.machine ≡ at_mark s.machine
  pub driver : t.driver ≡ s.driver

-- what a call does, and the accesses that it makes: `Next` goes on to its mark, and the driver makes every other call
abbrev pub CallStep : State → Call → List Access → State → Type 0
CallStep s call.Next accesses t = GoesOn accesses s t
CallStep s other accesses t = IsMadeBy (meaning other) accesses s t

-- the machine of the script after power-on, under a new driver with the limit of the script, which takes the FIFOs for
-- the size that the script sets
abbrev pub first_state : Plan → State
first_state plan = record {
  machine = first_machine plan;
  driver = record { config = DEFAULT; fifo = true; size = plan.driver_fifo_size; lsr = 0; msr = 0; limit = plan.limit };
}

-- the script ran, and these are the accesses of each of its calls in turn
pub record IsRecorded (plan : Plan) (accesses : List (List Access)) : Type 0 where
  pub last : State
  pub ran : RunOf CallStep (first_state plan) plan.calls accesses last
