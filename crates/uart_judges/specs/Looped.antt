-- What was written in loopback and can still come back.
use Rattle.std.specs.Prelude.{ℕ, ◌+◌, ◌-◌, ◌==◌, Bool, true, false, not, ◌&&◌, nat_lt, if◌then◌else◌, replicate}
use Rattle.std.specs.Prelude.{Option, Some, None, is_none, slice_set, take, List}
use Rattle.std.specs.List.{copy_within, position}
use Rattle.uart_judges.specs.declared.replay.looped.Looped.{Looped}
use Rattle.uart_judges.specs.declared.replay.looped.TheConstants.{MOST_LOOPED}

-- anything can come back
abbrev pub unknown : Looped
unknown = record { is_known = false; bytes = replicate MOST_LOOPED 0; count = 0 }

-- nothing can come back
abbrev pub nothing : Looped
nothing = record { is_known = true; bytes = replicate MOST_LOOPED 0; count = 0 }

-- LSR shows that nothing can come back: from there on it is known. What is known already stays: a chip may show an
-- empty transmitter while a byte is still on its way
abbrev pub begun : Bool → Looped → Looped
begun is_empty l = if is_empty && not l.is_known then nothing else l

-- the bytes that can come back, the oldest first
abbrev pub pending : Looped → List ℕ
pending l = take l.count l.bytes

-- these and one more byte; of more than there are places for nothing is known
abbrev pub and : Looped → ℕ → Looped
and l byte =
    if l.is_known && nat_lt l.count MOST_LOOPED
    then record l { bytes = slice_set l.bytes l.count byte; count = l.count + 1 }
    else unknown

-- where the oldest byte of this value is
abbrev pub place_of : Looped → ℕ → Option ℕ
place_of l byte = position (λ looped. looped == byte) (pending l)

-- this byte cannot come back
abbrev pub excludes : Looped → ℕ → Bool
excludes l byte = l.is_known && is_none (place_of l byte)

-- the bytes behind this place
abbrev pub behind : Looped → Option ℕ → Looped
behind l None = l
behind l (Some place) =
    record l { bytes = copy_within l.bytes (place + 1) MOST_LOOPED 0; count = l.count - (place + 1) }

-- what can come back after this byte: those before it were lost
abbrev pub after : Looped → ℕ → Looped
after l byte = behind l (place_of l byte)
