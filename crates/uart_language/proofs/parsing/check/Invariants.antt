use Rattle.std.proofs.Common.{◌≡◌, ◌+◌, ◌≤◌, length}
use Rattle.uart_language.specs.declared.limits.TheConstants.{MOST_LINES}
use Rattle.uart_language.specs.Text.{lines_of}
use Rattle.uart_language.specs.Words.{fault_of}
use Rattle.uart_language.specs.Reading.{sayings_from, sayings_after_first}
use Rattle.uart_language.proofs.parsing.check.Given as goal

abbrev pub invariant-loop-rest : goal.invariant-loop-rest
invariant-loop-rest l =
    (fault_of (sayings_from l.limited l.number (lines_of l.rest)) ≡ fault_of (sayings_after_first (lines_of l.bytes)))
    × (l.number ≤ MOST_LINES + 1)

abbrev pub decreases-loop-rest : goal.decreases-loop-rest
decreases-loop-rest l = length l.rest
