-- From the chip to the receive ring, and from there to the caller.
use Rattle.std.specs.Prelude.{◌≡◌, ◌==◌, ◌||◌, ℕ, Bool, true, false, List, [], ◌∷◌, length, take, min, nat_lt, nat_le}
use Rattle.std.specs.Prelude.{not, Option, Some, None, MatchBool, if◌then◌else◌}
use Rattle.uart_spec.specs.declared.access.Access.{Access}
use Rattle.uart_spec.specs.declared.access.Access.TheVariants.{Read, Write}
use Rattle.uart_spec.specs.Bits.{has}
use Rattle.uart_spec.specs.FifoSize.{characters}
use Rattle.uart_spec.specs.declared.registers.interrupt_enable.TheConstants.IER
use Rattle.uart_spec.specs.declared.registers.modem_control.TheConstants.MCR
use Rattle.uart_spec.specs.declared.registers.offsets.TheConstants as offsets
use Rattle.uart_16550.specs.Driver.{Made, Saving}
use Rattle.uart_16550.specs.Frame.{switched, unlooped}
use Rattle.uart_16550.specs.Grammar.{Language}
use Rattle.uart_16550.specs.Receive.{Receives}
use Rattle.uart_16550.specs.Status.{Enables, Disables}
use Rattle.uart_16550.specs.declared.driver.Uart16550.{Uart16550}
use Rattle.uart_ring.specs.Queue.{Queue, latest}
use Rattle.uart_ring.specs.declared.ring.receive.ReceiveMarks.{ReceiveMarks}
use Rattle.uart_ring.specs.Ring.{RingDoing, OnDriver, Stays, RingNext, IfAny, free, is_full, unchanged}
use Rattle.uart_ring.specs.Ring.{with_last, with_received, without_taken, with_paused, with_told_xoff, looked}
use Rattle.uart_ring.specs.Transmit.{QueuesUrgent, Holds, Releases}

-- the driver's `receive_bytes` into so many slots at the end of a queue: the bytes that came are there then, and the
-- result is how many
pub record ReceivesToEnd {B : Type 0} (step : B → Access → B → Type 0) (slots count : ℕ)
    (old new : Queue) (driver after : Uart16550 B) : Type 0 where
  pub bytes : List ℕ
  pub received : Made step (Receives slots bytes) driver after
  pub appended : new ≡ with_last bytes old
  pub counted : count ≡ length bytes

-- if the receive ring is full, DATA_READY is disabled and receiving is paused
abbrev pub PausesIfFull : RingDoing
PausesIfFull f l after =
    MatchBool (is_full f.receive) (OnDriver (Disables IER.DATA_READY.0) (with_paused true) f l after) (Stays f l after)

-- `receive_bytes` into as many slots as the receive ring has room for, at most as many as a FIFO of the size that is
-- set holds; the bytes are appended to it
abbrev pub FillsReceiveRing : RingDoing
FillsReceiveRing f l after =
    (bytes : List ℕ)
    × RingNext
    (OnDriver (Saving (Receives (min (characters f.driver.size) (free f.receive)) bytes)) (with_received bytes))
    PausesIfFull f l after

-- if receiving is paused, DATA_READY is enabled, and the pause ends
abbrev pub EndsPause : RingDoing
EndsPause f l after =
    MatchBool f.is_paused (OnDriver (Enables IER.DATA_READY.0) (with_paused false) f l after) (Stays f l after)

-- `take`: the bytes are from the front of the receive ring, as many as there are slots and bytes; if there are any, a
-- pause of receiving ends
abbrev pub TakesBytes : ℕ → List ℕ → RingDoing
TakesBytes slots bytes f l after =
    (bytes ≡ take slots f.receive.items) × IfAny (length bytes) EndsPause (without_taken (length bytes) f) l after

-- `clear_receive`: the receive ring is emptied, and the result is how many bytes it had; if it had any, a pause of
-- receiving ends
abbrev pub ClearsReceive : ℕ → RingDoing
ClearsReceive count f l after =
    -- the result is how many bytes the receive ring had
    (count ≡ length f.receive.items) × IfAny count EndsPause (without_taken count f) l after

-- ---- holding the other end back

-- what RTS is to be with so much room for received bytes: off below the one mark, on from the other one on, and in
-- between it stays as it is
abbrev pub rts_at : ReceiveMarks → (room : ℕ) → Option Bool
rts_at marks room =
    if nat_lt room marks.hold then Some false else if nat_le marks.release room then Some true else None

-- this write, if a bit shows otherwise than it is to be
abbrev pub write_if_other : (shown wanted : Bool) → Access → List Access
write_if_other true true write = []
write_if_other false false write = []
write_if_other shown wanted write = write ∷ []

-- RTS is made so: MCR is read, and if it shows RTS otherwise, written as `set_rts` writes it
abbrev pub MakesRts : Bool → Language
MakesRts on s l =
    (mcr : ℕ) × (l ≡ Read offsets.MCR mcr ∷
    write_if_other (has mcr MCR.RTS.0) on (Write offsets.MCR (unlooped (switched on MCR.RTS.0 mcr))))

-- this is made of RTS, or it stays as it is
abbrev pub MakesRtsIfAny : Option Bool → RingDoing
MakesRtsIfAny None = Stays
MakesRtsIfAny (Some on) = OnDriver (Saving (MakesRts on)) unchanged

-- `adjust_rts`: RTS is off if the receive ring has room for fewer bytes than `hold`, on if it has room for `release` or
-- more, and else stays. For this MCR is read, and written only if it shows RTS otherwise
abbrev pub AdjustsRts : ReceiveMarks → RingDoing
AdjustsRts marks f l after = MakesRtsIfAny (rts_at marks (free f.receive)) f l after

-- ---- the same by characters

-- what tells the other end to go on, and to stop
abbrev pub xon : ℕ
xon = 0x11

abbrev pub xoff : ℕ
xoff = 0x13

abbrev pub flow_character : (on : Bool) → ℕ
flow_character true = xon
flow_character false = xoff

-- what of this is told: nothing while an urgent byte waits, and not again what was told last. At first nothing was, and
-- the other end sends
abbrev pub to_tell : (wanted : Option Bool) → (urgent : Option ℕ) → (has_told_xoff : Bool) → Option Bool
to_tell None urgent has_told_xoff = None
to_tell (Some on) (Some byte) has_told_xoff = None
to_tell (Some true) None has_told_xoff = if has_told_xoff then Some true else None
to_tell (Some false) None has_told_xoff = if has_told_xoff then None else Some false

-- the character for this is the urgent byte, and it is what was told last; the result is that character. Or nothing is
-- done
abbrev pub TellsIfAny : Option Bool → Option ℕ → RingDoing
TellsIfAny None told f l after = (told ≡ None) × Stays f l after
TellsIfAny (Some on) told f l after =
    (told ≡ Some (flow_character on)) × QueuesUrgent (flow_character on) None (with_told_xoff (not on) f) l after

-- `adjust_xoff`: the other end is told XOFF if the receive ring has room for fewer bytes than `hold`, and XON if it has
-- room for `release` or more, as a `queue_urgent` sends it. What was told last is not told again, and nothing is told
-- while another urgent byte waits. The result is what was told
abbrev pub AdjustsXoff : ReceiveMarks → Option ℕ → RingDoing
AdjustsXoff marks told f l after =
    TellsIfAny (to_tell (rts_at marks (free f.receive)) f.urgent f.has_told_xoff) told f l after

-- ---- obeying them

-- the byte is XON or XOFF
abbrev pub is_flow_character : ℕ → Bool
is_flow_character byte = (byte == xon) || (byte == xoff)

-- the last XON or XOFF of these bytes, or what was the last one before them
abbrev pub last_told : (before : Option ℕ) → List ℕ → Option ℕ
last_told before [] = before
last_told before (byte ∷ bytes) = last_told (if is_flow_character byte then Some byte else before) bytes

-- XON releases the transmit ring, and XOFF holds it; without one nothing is done
abbrev pub Obeys : Option ℕ → RingDoing
Obeys None f l after = Stays f l after
Obeys (Some byte) f l after = MatchBool (byte == xon) (Releases f l after) (Holds f l after)

-- `obey_xoff`: of the bytes that came into the receive ring since it looked last, and are still there, the last XON or
-- XOFF is obeyed, and is the result. All bytes stay there
abbrev pub ObeysXoff : Option ℕ → RingDoing
ObeysXoff told f l after = (told ≡ last_told None (latest f.unlooked f.receive.items)) × Obeys told (looked f) l after

-- whether the transmit ring is held then: unless the character is XON, or as before without one
abbrev pub held_as_told : Option ℕ → (is_held : Bool) → Bool
held_as_told None is_held = is_held
held_as_told (Some byte) is_held = not (byte == xon)

-- the hold is as this character says; the receive ring is as it was, and no byte in it is new
abbrev pub HoldsAsTold : Option ℕ → RingDoing
HoldsAsTold told f l after =
    (after.is_held ≡ held_as_told told f.is_held) × (after.receive ≡ f.receive) × (after.unlooked ≡ 0)
