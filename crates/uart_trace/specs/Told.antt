-- What a listener is told of a run.
use Rattle.std.specs.Prelude.{◌≡◌, List, [], ◌∷◌, Option, Some, None}
use Rattle.uart_spec.specs.Access.{Path}
use Rattle.uart_spec.specs.declared.access.Access.{Access}
use Rattle.uart_call.specs.declared.call.Call.{Call}
use Rattle.uart_16550.specs.Driver.{backend_of, fields}
use Rattle.uart_16550.specs.Tty.{inner_of}
use Rattle.uart_16550.specs.declared.tty.Uart16550Tty.{Uart16550Tty}
use Rattle.uart_chip.specs.Machine.{MachineState}
use Rattle.uart_language.specs.Script.{Plan}
use Rattle.uart_run.specs.Chains.{RunOf}
use Rattle.uart_trace.specs.Run.{CallStep, IsRecorded, State, first_state}
use Rattle.uart_trace.specs.declared.recorder.Recorder.{Recorder}

-- proved: Each access is the device's, and the listener is told of it
-- on: `Backend` of `Recorder`

-- the device of a recorder, and its listener until that is taken
abbrev pub device_of : {B L : Type 0} → Recorder B L → B
device_of r = r.device

abbrev pub listener_of : {B L : Type 0} → Recorder B L → Option L
listener_of r = r.listener

-- a listener that is there changes in this way
abbrev pub Changes : {L : Type 0} → (L → L → Type 0) → Option L → Option L → Type 0
Changes change None new = new ≡ None
Changes {L} change (Some old) new = (after : L) × (new ≡ Some after) × change old after

-- the device made the access, and the listener was told of it
pub record Hears {B L : Type 0} (step : B → Access → B → Type 0) (hears : L → Access → L → Type 0)
    (old : Recorder B L) (access : Access) (new : Recorder B L) : Type 0 where
  pub made : step (device_of old) access (device_of new)
  pub told : Changes (λ before after. hears before access after) (listener_of old) (listener_of new)

-- a listener was told of a call: that it begins, each of its accesses in order, and that it has returned
pub record IsToldCall {L : Type 0} (begins : L → L → Type 0) (hears : L → Access → L → Type 0)
    (ends : L → L → Type 0) (old : L) (accesses : List Access) (new : L) : Type 0 where
  pub begun : L
  pub heard : L
  pub first : begins old begun
  pub each : Path hears begun accesses heard
  pub last : ends heard new

-- a listener was told of calls in turn, which made these accesses
abbrev pub IsTold : {L : Type 0} → (L → L → Type 0) → (L → Access → L → Type 0) → (L → L → Type 0) →
    L → List (List Access) → L → Type 0
IsTold begins hears ends old [] new = new ≡ old
IsTold {L} begins hears ends old (accesses ∷ more) new =
    (mid : L) × IsToldCall begins hears ends old accesses mid × IsTold begins hears ends mid more new

-- a listener was told of all calls of a run of the script, with all their accesses
pub record IsToldRun {L : Type 0} (begins : L → L → Type 0) (hears : L → Access → L → Type 0) (ends : L → L → Type 0)
    (plan : Plan) (old new : L) : Type 0 where
  pub accesses : List (List Access)
  pub recorded : IsRecorded plan accesses
  pub told : IsTold begins hears ends old accesses new

-- ---- what the parts of `tell` do

-- a driver under its terminal, over a machine and a listener
abbrev pub Terminal : Type 0 → Type 0
Terminal L = Uart16550Tty (Recorder MachineState L)

-- its machine and its driver, and its listener
abbrev pub state_of : {L : Type 0} → Terminal L → State
state_of s = record { machine = device_of (backend_of (inner_of s)); driver = fields (inner_of s) }

abbrev pub heard_by : {L : Type 0} → Terminal L → Option L
heard_by s = listener_of (backend_of (inner_of s))

-- the state in which a script begins, with this listener
pub record Begins {L : Type 0} (plan : Plan) (given : L) (s : Terminal L) : Type 0 where
  pub state : state_of s ≡ first_state plan
  pub listener : heard_by s ≡ Some given

-- a call was made, and the listener was told of its accesses
pub record Makes {L : Type 0} (hears : L → Access → L → Type 0) (s : Terminal L) (call : Call) (t : Terminal L) :
    Type 0 where
  pub accesses : List Access
  pub step : CallStep (state_of s) call accesses (state_of t)
  pub told : Changes (λ before after. Path hears before accesses after) (heard_by s) (heard_by t)

-- a call was made, and the listener was told of it from its beginning to its end
pub record Tells {L : Type 0} (begins : L → L → Type 0) (hears : L → Access → L → Type 0) (ends : L → L → Type 0)
    (s : Terminal L) (call : Call) (t : Terminal L) : Type 0 where
  pub accesses : List Access
  pub step : CallStep (state_of s) call accesses (state_of t)
  pub told : Changes (λ before after. IsToldCall begins hears ends before accesses after) (heard_by s) (heard_by t)

-- the same of calls in turn
pub record TellsInTurn {L : Type 0} (begins : L → L → Type 0) (hears : L → Access → L → Type 0) (ends : L → L → Type 0)
    (s : Terminal L) (calls : List Call) (t : Terminal L) : Type 0 where
  pub accesses : List (List Access)
  pub ran : RunOf CallStep (state_of s) calls accesses (state_of t)
  pub told : Changes (λ before after. IsTold begins hears ends before accesses after) (heard_by s) (heard_by t)
