-- A proof that a call is runnable is unique, so that it can be kept beside a call.
use Rattle.std.proofs.Props.{props}
use Rattle.uart_call.specs.Calls.{IsRunnable}
use Rattle.uart_call.specs.declared.call.Call.{Call}
use Rattle.uart_call.specs.declared.call.Call.TheVariants as call

pub runnable_is_one : (call : Call) → IsProp (IsRunnable call)
runnable_is_one (call.Init config) = hlevel props
runnable_is_one (call.InitWith config setup) = hlevel props
runnable_is_one (call.Receive count) = hlevel props
runnable_is_one (call.ReceiveExact count) = hlevel props
runnable_is_one (call.ReceiveWithErrors count) = hlevel props
runnable_is_one (call.Read count) = hlevel props
runnable_is_one other = hlevel props
