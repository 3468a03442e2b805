-- The characters that arrived and were not read, as far as the recording says so.
use Rattle.std.specs.Prelude.{ℕ, ◌+◌, ◌-◌, ◌==◌, Bool, true, false, nat_lt, if◌then◌else◌, List, [], ◌∷◌}
use Rattle.std.specs.Prelude.{replicate, drop, Option, Some, None, slice_set}
use Rattle.std.specs.List.{copy_within}
use Rattle.uart_spec.specs.Bits.{has}
use Rattle.uart_spec.specs.declared.registers.fifo_control.TheConstants.FCR as fcr_bits
use Rattle.uart_spec.specs.declared.registers.line_status.LSR.{LSR}
use Rattle.uart_spec.specs.declared.registers.line_status.TheConstants.LSR as lsr_bits
use Rattle.uart_judges.specs.Steps.{loops_back, may_empty, step_empties}
use Rattle.uart_judges.specs.declared.audit.action.Action.{Action}
use Rattle.uart_judges.specs.declared.audit.action.Action.TheVariants.{Arrives, ControlsFifo, LooksAtLine, Receives}
use Rattle.uart_judges.specs.declared.audit.action.Action.TheVariants.{Sends, MayReceive, MaySend}
use Rattle.uart_judges.specs.declared.audit.step.Step.{Step}
use Rattle.uart_judges.specs.declared.audit.unread.Arrived.{Arrived}
use Rattle.uart_judges.specs.declared.audit.unread.TheConstants.{MOST_UNREAD}
use Rattle.uart_judges.specs.declared.audit.unread.Unread.{Unread}

-- places, all of them free
abbrev pub free : List (Option Arrived)
free = replicate MOST_UNREAD None

-- nothing is known
abbrev pub unknown : Unread
unknown = record { is_known = false; characters = free; count = 0; is_front_seen = false }

-- no character waits
abbrev pub nothing : Unread
nothing = record { is_known = true; characters = free; count = 0; is_front_seen = false }

abbrev pub first_of : List (Option Arrived) → Option Arrived
first_of [] = None
first_of (x ∷ rest) = x

-- the oldest character, if it is known, and the one behind it
abbrev pub front : Unread → Option Arrived
front u = first_of u.characters

abbrev pub second : Unread → Option Arrived
second u = first_of (drop 1 u.characters)

-- what is left behind the oldest character: each moves to the place before it, and the last place is free
abbrev pub behind : Unread → Unread
behind u =
    record u {
      characters = slice_set (copy_within u.characters 1 MOST_UNREAD 0) (MOST_UNREAD - 1) None;
      count = u.count - 1;
      is_front_seen = false;
    }

-- one more in the first free place; if there is none, it is lost
abbrev pub and : Unread → Arrived → Unread
and u new =
    if nat_lt u.count MOST_UNREAD
    then record u { characters = slice_set u.characters u.count (Some new); count = u.count + 1 }
    else u

-- with FIFO one more; without it replaces the one before; if that is not known, one alone is known
abbrev pub arrived_after : Unread → Option Bool → Option Arrived → Arrived → Unread
arrived_after u (Some true) oldest new = and u new
arrived_after u (Some false) oldest new = and nothing new
arrived_after u None None new = and u new
arrived_after u None (Some oldest) new = unknown

abbrev pub after_arrival : Unread → Option Bool → Arrived → Unread
after_arrival u fifo new = if u.is_known then arrived_after u fifo (front u) new else u

-- a character waits: if none arrived by the recording, it does not have all of them
abbrev pub seen : Unread → Option Arrived → Unread
seen u None = unknown
seen u (Some oldest) = record u { is_front_seen = true }

-- after a read of LSR
abbrev pub after_look : Unread → LSR → Unread
after_look u lsr = if has lsr.0 lsr_bits.DATA_READY.0 then seen u (front u) else nothing

-- a read of DATA takes the oldest character; after another byte nothing is known
abbrev pub taken : Unread → Option Arrived → ℕ → Unread
taken u None byte = u
taken u (Some oldest) byte = if oldest.byte == byte then behind u else unknown

abbrev pub after_read : Unread → ℕ → Unread
after_read u byte = taken u (front u) byte

-- a read of offset 0 may have taken the oldest character, and then nothing is known
abbrev pub maybe_taken : Unread → Option Arrived → Unread
maybe_taken u None = u
maybe_taken u (Some oldest) = unknown

-- after a write of FCR
abbrev pub after_control : Unread → Step → Unread
after_control u s =
    if step_empties fcr_bits.RX_FIFO_RESET.0 s then nothing
    else if may_empty fcr_bits.RX_FIFO_RESET.0 s then unknown
    else u

-- after a step: what comes back in loopback is not followed
abbrev pub unread_after : Unread → Step → Action → Unread
unread_after u s (LooksAtLine lsr) = after_look u lsr
unread_after u s (Receives byte) = after_read u byte
unread_after u s (ControlsFifo fcr) = after_control u s
unread_after u s (Sends byte) = if loops_back s.setup.modem then unknown else u
unread_after u s MayReceive = maybe_taken u (front u)
unread_after u s MaySend = if loops_back s.setup.modem then unknown else u
unread_after u s (Arrives byte errors) =
    if loops_back s.setup.modem then unknown
    else after_arrival u s.setup.has_fifo (record { byte = byte; errors = errors })
unread_after u s _ = u

abbrev pub next_unread : Unread → Step → Unread
next_unread u s = unread_after u s s.action
