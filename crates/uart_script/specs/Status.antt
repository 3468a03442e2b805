-- The statuses of the program.
use Rattle.std.specs.Prelude.{ℕ, Result, Ok, Err}
use Rattle.uart_language.specs.declared.play_error.PlayError.{PlayError}
use Rattle.uart_language.specs.declared.play_error.PlayError.TheVariants.{Refused, ReadFault, WriteFault}
use Rattle.uart_language.specs.declared.play_error.PlayError.TheVariants.{OutOfMemory}

-- 1 for a script that is refused, 2 for a reader or writer that failed, 3 for out of memory
abbrev pub error_status : PlayError → ℕ
error_status (Refused line cause) = 1
error_status ReadFault = 2
error_status WriteFault = 2
error_status OutOfMemory = 3

-- the status of each end, and 0 if the script was played
abbrev pub status_of : {T : Type 0} → Result T PlayError → ℕ
status_of (Ok x) = 0
status_of (Err e) = error_status e
