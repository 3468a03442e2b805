-- What is told of a finding where the FIFOs hold more than the judge takes them for: what `Known::adapted` of
-- geesetrunk
-- makes of it, with `--fifo` or `--chip`.
use Rattle.std.specs.Prelude.{ℕ, ◌==◌, ◌&&◌, not, if◌then◌else◌, Option, Some, None, min, nat_le, nat_lt}
use Rattle.uart_spec.specs.declared.baud.TheConstants.{FIFO_SIZE}
use Rattle.uart_judges.specs.declared.audit.finding.Finding.{Finding}
use Rattle.uart_judges.specs.declared.audit.finding.Finding.TheVariants.{SentBeyondRoom}

-- of FIFOs with room for so many bytes: bytes beyond the room of a FIFO of 16 are beyond theirs, or they fit. All else
-- is as the judge finds it
abbrev pub of_fifos : (space : ℕ) → Finding → Option Finding
of_fifos space (SentBeyondRoom sent room) =
    if not (room == FIFO_SIZE) then Some (SentBeyondRoom sent room)
    else if nat_lt FIFO_SIZE space && nat_le sent space then None
    else Some (SentBeyondRoom sent (min space 255))
of_fifos space finding = Some finding
