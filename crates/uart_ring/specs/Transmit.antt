-- From the transmit ring to the chip.
use Rattle.std.specs.Prelude.{◌≡◌, ℕ, zero, suc, Bool, true, false, List, [], ◌∷◌, length, take, min, Option, Some}
use Rattle.uart_spec.specs.declared.registers.interrupt_enable.TheConstants.IER
use Rattle.uart_16550.specs.Driver.{Doing, Saving, Next}
use Rattle.uart_16550.specs.Transmit.{Sends}
use Rattle.uart_16550.specs.Status.{Enables, Disables}
use Rattle.uart_ring.specs.Ring.{RingDoing, OnDriver, RingSets, IfAny, unchanged, free, waiting, sendable}
use Rattle.uart_ring.specs.Ring.{without_sent, with_queued}
use Rattle.uart_ring.specs.Ring.{cleared, with_urgent, with_hold, with_low_mark, with_low}

-- THR_EMPTY is enabled if bytes are left to be sent, else disabled
abbrev pub ArmsIfLeft : List ℕ → Doing
ArmsIfLeft [] = Disables IER.THR_EMPTY.0
ArmsIfLeft (byte ∷ bytes) = Enables IER.THR_EMPTY.0

-- a pump: `send_bytes` of the bytes that may be sent, which is one burst of them, and those that were sent no longer
-- wait; then THR_EMPTY is enabled or disabled. Without an urgent byte, a hold or a stuck chip these are the bytes of
-- the transmit ring
abbrev pub PumpsSo : (sent : ℕ) → RingDoing
PumpsSo sent f l after =
    OnDriver (Next (Saving (Sends (sendable f) sent)) (ArmsIfLeft (sendable (without_sent sent f))))
    (without_sent sent) f l after

abbrev pub Pumps : RingDoing
Pumps f l after = (sent : ℕ) × PumpsSo sent f l after

-- the same, but without a byte that is sent IER is left as it is
abbrev pub SendsSo : (sent : ℕ) → RingDoing
SendsSo zero f l after = OnDriver (Saving (Sends (sendable f) 0)) unchanged f l after
SendsSo (suc n) f l after = PumpsSo (suc n) f l after

abbrev pub SendsOn : RingDoing
SendsOn f l after = (sent : ℕ) × SendsSo sent f l after

-- `queue`: bytes from the front of the input are added at the end of the transmit ring, as many as it has room for; if
-- there are any, what the chip takes at once is sent
abbrev pub Queues : List ℕ → ℕ → RingDoing
Queues bytes count f l after =
    (count ≡ min (length bytes) (free f.transmit)) × IfAny count Pumps (with_queued (take count bytes) f) l after

-- `resume_transmit`: if bytes wait, what the chip takes at once is sent, and THR_EMPTY is enabled if some are left,
-- else disabled
abbrev pub ResumesTransmit : RingDoing
ResumesTransmit f l after = IfAny (length (waiting f)) Pumps f l after

-- `hold_transmit`: the ring is held, and no access is made
abbrev pub Holds : RingDoing
Holds = RingSets (with_hold true)

-- `release_transmit`: the ring is no longer held, and sending resumes
abbrev pub Releases : RingDoing
Releases f l after = ResumesTransmit (with_hold false f) l after

-- `queue_urgent`: the byte is the urgent one, in place of one that waited, which is returned; and what the chip takes
-- at once is sent
abbrev pub QueuesUrgent : ℕ → Option ℕ → RingDoing
QueuesUrgent byte replaced f l after = (replaced ≡ f.urgent) × Pumps (with_urgent (Some byte) f) l after

-- `clear_transmit`: the transmit ring is emptied without an access, and the result is how many bytes it had
abbrev pub ClearsTransmit : ℕ → RingDoing
ClearsTransmit count f l after = (count ≡ length f.transmit.items) × RingSets cleared f l after

-- `set_low_mark`: the low mark is stored, and no access is made
abbrev pub SetsLowMark : ℕ → RingDoing
SetsLowMark mark = RingSets (with_low_mark mark)

-- `take_low`: whether a fall to the low mark was noted, which is then forgotten
abbrev pub TakesLow : Bool → RingDoing
TakesLow low f l after = (low ≡ f.is_low) × RingSets (with_low false) f l after
