-- What one call of a run does.
use Rattle.uart_run.proofs.Names.{◌≢◌, refl, Call, Answer, Performed, MachineStep, State, CallStep}
use Rattle.uart_call.specs.declared.call.Call.TheVariants as call

-- the driver makes each call but `Next`
pub step_performed : (s t : State) (c : Call) (answer : Answer) → c ≢ call.Next → Performed MachineStep s c answer t →
    CallStep s c answer t
step_performed s t call.Next answer other h = absurd (other refl)
step_performed s t c answer other h = h
