-- Calls of a driver.
use Rattle.std.specs.Prelude.{◌≤◌, ⊤}
use Rattle.uart_spec.specs.Config.{IsComputable}
use Rattle.uart_call.specs.declared.call.Call.{Call}
use Rattle.uart_call.specs.declared.call.Call.TheVariants as call
use Rattle.uart_call.specs.declared.call.TheConstants.{CALL_BYTES}

-- a count is at most that of a call's bytes, and a configuration is computable
abbrev pub IsRunnable : Call → Type 0
IsRunnable (call.Init config) = IsComputable config
IsRunnable (call.InitWith config setup) = IsComputable config
IsRunnable (call.SetFrame config) = IsComputable config
IsRunnable (call.SetFrameWhenIdle config) = IsComputable config
IsRunnable (call.Receive count) = count ≤ CALL_BYTES
IsRunnable (call.ReceiveExact count) = count ≤ CALL_BYTES
IsRunnable (call.ReceiveWithErrors count) = count ≤ CALL_BYTES
IsRunnable (call.Read count) = count ≤ CALL_BYTES
IsRunnable other = ⊤
