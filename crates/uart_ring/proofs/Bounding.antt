-- That ring calls make few accesses.
use Rattle.std.proofs.Common.{◌≡◌, ◌<◌, ◌≤◌, ◌+◌, ◌-◌, ◌*◌, ℕ, zero, suc, Bool, true, false, min, MatchBool, List, [], ◌∷◌, ◌++◌}
use Rattle.std.proofs.Common.{length, take, length-append, length-take, refl, arith, ap, subst, inl, inr, nat_lt, Option, Some, None}
use Rattle.std.proofs.Common.{Result}
use Rattle.std.specs.Prelude.{MatchOption}
use Rattle.uart_spec.specs.declared.access.Access.{Access}
use Rattle.uart_spec.specs.declared.access.Access.TheVariants.{Write}
use Rattle.uart_spec.specs.FifoSize.{characters}
use Rattle.uart_spec.specs.declared.setup.FifoSize.{FifoSize}
use Rattle.uart_spec.specs.declared.setup.FifoSize.TheVariants.{Sixteen}
use Rattle.uart_spec.specs.declared.errors.ByteSendError.TheVariants.{NoCapacity, RemoteNotClearToSend}
use Rattle.uart_spec.specs.declared.registers.interrupt_enable.TheConstants.IER
use Rattle.uart_spec.specs.declared.registers.interrupt_type.InterruptType.{InterruptType}
use Rattle.uart_spec.specs.declared.registers.interrupt_type.InterruptType.TheVariants.{ReceiverLineStatus, ReceivedDataReady}
use Rattle.uart_spec.specs.declared.registers.interrupt_type.InterruptType.TheVariants.{ReceptionTimeout, TransmitterHoldingRegisterEmpty}
use Rattle.uart_spec.specs.declared.registers.interrupt_type.InterruptType.TheVariants.{ModemStatus, DmaReceptionEndOfTransfer}
use Rattle.uart_spec.specs.declared.registers.interrupt_type.InterruptType.TheVariants.{DmaTransmissionEndOfTransfer}
use Rattle.uart_spec.specs.declared.registers.line_status.TheConstants.LSR
use Rattle.uart_spec.specs.declared.registers.offsets.TheConstants as offsets
use Rattle.uart_16550.specs.Grammar.{Settings, Then, Asks, InOrder}
use Rattle.uart_16550.specs.Driver.{Fields, settings_of}
use Rattle.uart_16550.specs.Receive.{Receives, Hit}
use Rattle.uart_16550.specs.Transmit.{Sends, SendHit, SendMiss, LinesAllow, data_writes}
use Rattle.uart_ring.specs.Ring.{RingFields, IfAny, with_queued, without_taken, RingDoing}
use Rattle.uart_ring.specs.Ring.{free, is_full, waiting, sendable, without_sent, with_hold, with_urgent, with_rounds, RingSets}
use Rattle.uart_ring.specs.Transmit.{ArmsIfLeft, Pumps, Queues, ResumesTransmit, Holds, Releases, QueuesUrgent, ClearsTransmit}
use Rattle.uart_ring.specs.Transmit.{SetsLowMark, TakesLow}
use Rattle.uart_ring.specs.Receive.{PausesIfFull, FillsReceiveRing, EndsPause, TakesBytes, ClearsReceive}
use Rattle.uart_ring.specs.Receive.{write_if_other, rts_at, MakesRtsIfAny, AdjustsRts}
use Rattle.uart_ring.specs.declared.ring.receive.ReceiveMarks.{ReceiveMarks}
use Rattle.uart_spec.specs.Bits.{has}
use Rattle.uart_spec.specs.declared.registers.modem_control.TheConstants.MCR
use Rattle.uart_16550.specs.Frame.{switched, unlooped}
use Rattle.uart_ring.specs.Storm.{counts_as, has_moved, round_limit}
use Rattle.uart_ring.specs.Storm.{every_bit, LooksOnceMore, CountsUnfinished, CountsRound, HandlesRound, StaysStuck, TriesToHandle}
use Rattle.uart_ring.specs.Storm.{Restarts}
use Rattle.uart_ring.specs.Storm.{not_paused}
use Rattle.uart_ring.specs.declared.ring.storm.StuckError.{StuckError}
use Rattle.uart_ring.specs.Status.{TakesLine, TakesModem, DumpsRegisters}
use Rattle.uart_ring.specs.Service.{ServesInterrupt, ServesOne, Stops, IsWithin, ServesUpTo, Services, SendsOnIf, ServesData, ServesTimes}
use Rattle.uart_ring.specs.Handle.{Retriggers, RetriggersUnlessIdle, Handles, SendsAndRetriggers}
use Rattle.uart_ring.specs.declared.ring.service.TheConstants.{MAX_INTERRUPTS}
use Rattle.uart_ring.specs.declared.ring.service.HandleEnd.{HandleEnd}
use Rattle.uart_ring.specs.declared.ring.service.HandleEnd.TheVariants.{Idle, Unknown, Limit}
use Rattle.uart_ring.specs.declared.ring.service.Handled.{Handled}
use Rattle.uart_ring.specs.Lossless.{Implies}
use Rattle.uart_16550.proofs.Languages.{at_least_sixteen, limit_within}
use Rattle.uart_ring.proofs.Losses.{Carries, fills_carry, shows_carry, serves_one_carries, times_carry, serves_up_to_carries, enables_carry}
use Rattle.uart_ring.proofs.Pausing.{ChangesIer, Pausing, joined_with, rid_of}
use Rattle.uart_ring.specs.Bounded.{MakesAtMost, MakesAtMostBySize}
use Rattle.uart_ring.specs.Bounded.{most_of_change, most_of_pump, most_of_receiving, most_of_service, most_of_dump}
use Rattle.uart_ring.specs.Bounded.{most_of_retrigger, most_of_handle, most_of_try_handle, most_of_restart, most_of_adjust}
use Rattle.uart_spec.specs.declared.dump.ConfigRegisterDump.{ConfigRegisterDump}
use Rattle.uart_16550.specs.Status.{Dumps}

-- what was done to the rings leaves the size of the FIFOs
size_kept : (f mid : RingFields) (l : List Access) → Carries f l mid → mid.driver.size ≡ f.driver.size
size_kept f mid l c = ap (λ (s : Settings). s.size) c.settings

-- so many by one size are as many by the same
at_size : {size other : FifoSize} (most : FifoSize → ℕ) (l : List Access) → other ≡ size → length l ≤ most other → length l ≤ most size
at_size most l same few = let L : FifoSize → Type 0 = λ x. length l ≤ most x in subst L same few

-- two lists in turn
pub both : (l m k : List Access) (x y : ℕ) → l ≡ m ++ k → length m ≤ x → length k ≤ y → length l ≤ x + y
both l m k x y whole p q = omega (arith, ap length whole, length-append m k, p, q)

-- ---- the driver's lists

asks_size : (register bits : ℕ) (outcome : Bool) (s : Settings) (l : List Access) → Asks register bits outcome s l → length l ≤ 1
asks_size register bits outcome s l t = omega (arith, ap length t.is)

lines_size : (allowed : Bool) (s : Settings) (l : List Access) → LinesAllow allowed s l → length l ≤ 2
lines_size allowed s l (inl t) = omega (arith, asks_size _ _ _ s l t.1)
lines_size allowed s l (inr t) = both l t.front t.back 1 1 t.whole (asks_size _ _ _ s t.front t.first) (asks_size _ _ _ s t.back t.second)

hit_size : (s : Settings) (l : List Access) → SendHit s l → length l ≤ 3
hit_size s l t = go s.checks t
  where
    go : (checks : Bool) → MatchBool checks (Then (Asks offsets.LSR LSR.THR_EMPTY.0 true) (LinesAllow true) s l)
        (Asks offsets.LSR LSR.THR_EMPTY.0 true s l) → length l ≤ 3
    go true t = both l t.front t.back 1 2 t.whole (asks_size _ _ _ s t.front t.first) (lines_size true s t.back t.second)
    go false t = omega (arith, asks_size _ _ _ s l t)

miss_size : (s : Settings) (l : List Access) → SendMiss s l → length l ≤ 3
miss_size s l (NoCapacity, t) = omega (arith, asks_size _ _ _ s l t)
miss_size s l (RemoteNotClearToSend, t) = go s.checks t
  where
    go : (checks : Bool) → MatchBool checks (Then (Asks offsets.LSR LSR.THR_EMPTY.0 true) (LinesAllow false) s l) ⊥ → length l ≤ 3
    go true t = both l t.front t.back 1 2 t.whole (asks_size _ _ _ s t.front t.first) (lines_size false s t.back t.second)
    go false t = absurd t

writes_size : (bytes : List ℕ) → length (data_writes bytes) ≡ length bytes
writes_size [] = refl
writes_size (byte ∷ bytes) = ap suc (writes_size bytes)

sends_size : (bytes : List ℕ) (sent : ℕ) (s : Settings) (l : List Access) → Sends bytes sent s l → length l ≤ 3 + characters s.size
sends_size bytes sent s l (inl t) = omega (arith, ap length t.2)
sends_size bytes sent s l (inr (inl t)) = omega (arith, miss_size s l t.2)
sends_size bytes sent s l (inr (inr t)) =
    let written : length t.2.back ≤ characters s.size = omega (
      arith,
      t.1,
      limit_within s.fifo s.size,
      ap length t.2.second.is,
      writes_size (take sent bytes),
      length-take sent bytes,
    ) in
    both l t.2.front t.2.back 3 (characters s.size) t.2.whole (hit_size s t.2.front t.2.first) written

hits_size : (bytes : List ℕ) (s : Settings) (l : List Access) → InOrder Hit bytes s l → length l ≡ 2 * length bytes
hits_size [] s l t = ap length t.is
hits_size (byte ∷ bytes) s l t =
    let one : length t.front ≡ 2 = omega (
      arith,
      ap length t.first.whole,
      length-append t.first.front t.first.back,
      ap length t.first.first.is,
      ap length t.first.second.is,
    ) in
    omega (arith, ap length t.whole, length-append t.front t.back, one, hits_size bytes s t.back t.second)

receives_size : (room : ℕ) (bytes : List ℕ) (s : Settings) (l : List Access) → Receives room bytes s l → length l ≤ 2 * room
receives_size room bytes s l (inl (all, t)) = omega (arith, all, hits_size bytes s l t)
receives_size room bytes s l (inr (fewer, t)) =
    omega (
      arith,
      fewer,
      ap length t.whole,
      length-append t.front t.back,
      hits_size bytes s t.front t.first,
      asks_size _ _ _ s t.back t.second,
    )

pub changes_size : (change : ℕ → ℕ) (f : Fields) (l : List Access) (after : Fields) → ChangesIer change f l after → length l ≤ 2
changes_size change f l after (ier, is, changed) = omega (arith, ap length is)

arms_size : (left : List ℕ) (f : Fields) (l : List Access) (after : Fields) → ArmsIfLeft left f l after → length l ≤ 2
arms_size [] f l after t = changes_size (rid_of IER.THR_EMPTY.0) f l after t
arms_size (byte ∷ bytes) f l after t = changes_size (joined_with IER.THR_EMPTY.0) f l after t

-- ---- each piece

pumps_size : Implies Pumps (MakesAtMostBySize most_of_pump)
pumps_size f l after (sent, (t, same)) =
    both l t.front t.back (3 + characters f.driver.size) most_of_change t.whole
    (sends_size (sendable f) sent (settings_of f.driver) t.front t.first.0)
    (arms_size (sendable (without_sent sent f)) t.mid t.back after.driver t.second)

pausing_size : (change : ℕ → ℕ) (paused when : Bool) → Implies (Pausing change paused when) (MakesAtMost most_of_change)
pausing_size change paused true f l after t = changes_size change f.driver l after.driver t.0
pausing_size change paused false f l after t = omega (arith, ap length t.0)

pauses_size : Implies PausesIfFull (MakesAtMost most_of_change)
pauses_size f l after t = pausing_size (rid_of IER.DATA_READY.0) true (is_full f.receive) f l after t

ends_pause_size : Implies EndsPause (MakesAtMost most_of_change)
ends_pause_size f l after t = pausing_size (joined_with IER.DATA_READY.0) false f.is_paused f l after t

fills_size : Implies FillsReceiveRing (MakesAtMostBySize most_of_receiving)
fills_size f l after (bytes, t) =
    let size = characters f.driver.size in
    let most : length t.front ≤ 2 * size = omega (
      arith,
      receives_size (min size (free f.receive)) bytes (settings_of f.driver) t.front t.first.0.0,
    ) in
    both l t.front t.back (2 * size) most_of_change t.whole most (pauses_size t.mid t.back after t.second)

sends_on_size : (room : Bool) → Implies (SendsOnIf room) (MakesAtMostBySize most_of_pump)
sends_on_size true f l after (zero, t) = omega (arith, sends_size (sendable f) 0 (settings_of f.driver) l t.0.0)
sends_on_size true f l after (suc n, t) = pumps_size f l after (suc n, t)
sends_on_size false f l after t = omega (arith, ap length t.0)

-- What a line status leaves over is enough for what is sent behind it later. So what is still to be sent counts as
-- made: as many accesses as a pump makes, if a line status has shown room.
abbrev most_owed : Bool → FifoSize → ℕ
most_owed true size = most_of_pump size
most_owed false size = 0

sends_on_owed : (room : Bool) → Implies (SendsOnIf room) (MakesAtMostBySize (most_owed room))
sends_on_owed true f l after t = sends_on_size true f l after t
sends_on_owed false f l after t = omega (arith, ap length t.0)

none_owed : (left : Bool) (size : FifoSize) → left ≡ false → most_owed left size ≡ 0
none_owed left size is = ap (λ b. most_owed b size) is

owed_most : (room : Bool) (size : FifoSize) → most_owed room size ≤ most_of_pump size
owed_most true size = omega arith
owed_most false size = omega arith

-- this number, and what was owed before, with what is owed then, or fewer
abbrev MakesAtMostOwing : (FifoSize → ℕ) → (room left : Bool) → RingDoing
MakesAtMostOwing most room left f l after = length l + most_owed left f.driver.size ≤ most f.driver.size + most_owed room f.driver.size

serves_data_size : (room left : Bool) → left ≡ false → Implies (ServesData room) (MakesAtMostOwing most_of_receiving room left)
serves_data_size room left is f l after t =
    let same = size_kept f t.mid t.front (fills_carry f t.front t.mid t.first) in
    let sent = at_size (most_owed room) t.back same (sends_on_owed room t.mid t.back after t.second) in
    omega (
      arith,
      none_owed left f.driver.size is,
      fills_size f t.front t.mid t.first,
      sent,
      ap length t.whole,
      length-append t.front t.back,
    )

serves_size : (sends room left : Bool) (interrupt : InterruptType) →
    Implies (ServesInterrupt sends room left interrupt) (MakesAtMostOwing most_of_receiving room left)
serves_size sends room left ReceiverLineStatus f l after (status, told, ((read, is, shown, changed), same)) =
    omega (arith, ap length is, owed_most left f.driver.size, at_least_sixteen f.driver.size)
serves_size sends room left ReceivedDataReady f l after (is, t) = serves_data_size room left is f l after t
serves_size sends room left ReceptionTimeout f l after (is, t) = serves_data_size room left is f l after t
serves_size sends room left TransmitterHoldingRegisterEmpty f l after (is, t) =
    omega (arith, none_owed left f.driver.size is, pumps_size f l after t, at_least_sixteen f.driver.size)
serves_size sends room left ModemStatus f l after (kept, (status, ((read, is, shown, changed), same))) =
    omega (arith, ap (λ b. most_owed b f.driver.size) kept, ap length is)
serves_size sends room left DmaReceptionEndOfTransfer f l after (is, t) =
    omega (arith, ap (λ b. most_owed b f.driver.size) is, ap length t.0)
serves_size sends room left DmaTransmissionEndOfTransfer f l after (is, t) =
    omega (arith, ap (λ b. most_owed b f.driver.size) is, ap length t.0)

-- so many, by one size and by the same
owed_at : {size other : FifoSize} (most : FifoSize → ℕ) (room left : Bool) (n : ℕ) → other ≡ size →
    n + most_owed left other ≤ most other + most_owed room other → n + most_owed left size ≤ most size + most_owed room size
owed_at most room left n same few = let L : FifoSize → Type 0 = λ x. n + most_owed left x ≤ most x + most_owed room x in subst L same few

serves_one_size : (sends room left : Bool) →
    Implies (ServesOne sends room left) (MakesAtMostOwing (λ size. 1 + most_of_receiving size) room left)
serves_one_size sends room left f l after (interrupt, t) =
    let read : length t.front ≤ 1 = omega (arith, ap length t.first.0.2.0.is) in
    let same = size_kept f t.mid t.front (shows_carry (Some interrupt) f t.front t.mid t.first) in
    let rest = owed_at most_of_receiving room left (length t.back) same (serves_size sends room left interrupt t.mid t.back
    after t.second) in
    omega (arith, read, rest, ap length t.whole, length-append t.front t.back)

-- one interrupt more, and those that are left up to the limit
one_more : (size : FifoSize) (n : ℕ) →
    suc n * (1 + most_of_receiving size) ≡ (1 + most_of_receiving size) + n * (1 + most_of_receiving size)
one_more Sixteen n = omega arith
one_more _ n = omega arith

up_to : (size : FifoSize) (limit served : ℕ) → served ≤ limit →
    served * (1 + most_of_receiving size) + (limit - served) * (1 + most_of_receiving size) ≡ limit * (1 + most_of_receiving size)
up_to Sixteen limit served few = omega (arith, few)
up_to _ limit served few = omega (arith, few)

one_left : (size : FifoSize) (limit served : ℕ) → served < limit → 1 ≤ (limit - served) * (1 + most_of_receiving size)
one_left Sixteen limit served few = omega (arith, few)
one_left _ limit served few = omega (arith, few)

times_size : (sends : Bool) (n : ℕ) (room left : Bool) →
    Implies (ServesTimes sends n room left) (MakesAtMostOwing (λ size. n * (1 + most_of_receiving size)) room left)
times_size sends zero room left f l after (is, t) = omega (arith, ap (λ b. most_owed b f.driver.size) is, ap length t.0)
times_size sends (suc n) room left f l after (next, t) =
    let same = size_kept f t.mid t.front (serves_one_carries sends room next f t.front t.mid t.first) in
    omega (
      arith,
      one_more f.driver.size n,
      ap length t.whole,
      length-append t.front t.back,
      serves_one_size sends room next f t.front t.mid t.first,
      owed_at (λ size. n * (1 + most_of_receiving size)) next left (length t.back) same
          (times_size sends n next left t.mid t.back after t.second),
    )

-- ---- each call

-- the last read of ISR is of an interrupt that was not served
stops_size : (limit served : ℕ) (end : HandleEnd) → IsWithin limit served end →
    Implies (Stops end) (MakesAtMostBySize (λ size. (limit - served) * (1 + most_of_receiving size)))
stops_size limit served Idle within f l after ((isr, shown, idle, t), same) =
    omega (arith, one_left f.driver.size limit served within, ap length t.0.is)
stops_size limit served Unknown within f l after ((isr, shown, idle, t), same) =
    omega (arith, one_left f.driver.size limit served within, ap length t.0.is)
stops_size limit served Limit within f l after t = omega (arith, ap length t.0)

within_limit : (limit served : ℕ) (end : HandleEnd) → IsWithin limit served end → served ≤ limit
within_limit limit served Idle within = omega (arith, within)
within_limit limit served _ within = omega (arith, within)

serves_up_to_size : (sends : Bool) (limit : ℕ) (handled : Handled) (room : Bool) → (f : RingFields) (l : List Access) (after : RingFields) →
    ServesUpTo sends limit handled room f l after → length l + most_owed room f.driver.size ≤ limit * (1 + most_of_receiving f.driver.size)
serves_up_to_size sends limit handled room f l after (within, t) =
    let same = size_kept f t.mid t.front (times_carry sends handled.served false room f t.front t.mid t.first) in
    omega (
      arith,
      up_to f.driver.size limit handled.served (within_limit limit handled.served handled.end within),
      ap length t.whole,
      length-append t.front t.back,
      times_size sends handled.served false room f t.front t.mid t.first,
      at_size (λ size. (limit - handled.served) * (1 + most_of_receiving size)) t.back same
          (stops_size limit handled.served handled.end within t.mid t.back after t.second),
    )

pub services_size : (count : ℕ) → Implies (Services count) (MakesAtMostBySize most_of_service)
services_size count f l after (end, room, t) =
    let most = serves_up_to_size false MAX_INTERRUPTS (record { served = count; end = end }) room f l after t in omega (arith, most)

pub retriggers_size : Implies Retriggers (MakesAtMost most_of_retrigger)
retriggers_size f l after (((ier, is), saved), same) = omega (arith, ap length is)

sends_and_retriggers_size : (room : Bool) → Implies (SendsAndRetriggers room) (MakesAtMostBySize (λ size. most_owed room size +
    most_of_retrigger))
sends_and_retriggers_size room f l after t =
    both l t.front t.back (most_owed room f.driver.size) most_of_retrigger t.whole (sends_on_owed room f t.front t.mid t.first)
    (retriggers_size t.mid t.back after t.second)

unless_idle_size : (room : Bool) (end : HandleEnd) →
    Implies (RetriggersUnlessIdle room end) (MakesAtMostBySize (λ size. most_owed room size + most_of_retrigger))
unless_idle_size room Idle f l after t = omega (arith, ap length t.0)
unless_idle_size room Unknown f l after t = sends_and_retriggers_size room f l after t
unless_idle_size room Limit f l after t = sends_and_retriggers_size room f l after t

pub handles_size : (limit : ℕ) (handled : Handled) → Implies (Handles limit handled) (MakesAtMostBySize (most_of_handle limit))
handles_size limit handled f l after (room, t) =
    let same = size_kept f t.mid t.front (serves_up_to_carries true limit handled room f t.front t.mid t.first) in
    let served = serves_up_to_size true limit handled room f t.front t.mid t.first in
    let rest = at_size (λ size. most_owed room size + most_of_retrigger) t.back same
    (unless_idle_size room handled.end t.mid t.back after t.second) in
    omega (arith, served, rest, ap length t.whole, length-append t.front t.back)

any_pumps_size : (count : ℕ) → Implies (IfAny count Pumps) (MakesAtMostBySize most_of_pump)
any_pumps_size zero f l after t = omega (arith, ap length t.0)
any_pumps_size (suc n) f l after t = pumps_size f l after t

pub queues_size : (bytes : List ℕ) (count : ℕ) → Implies (Queues bytes count) (MakesAtMostBySize most_of_pump)
queues_size bytes count f l after (is, t) = any_pumps_size count (with_queued (take count bytes) f) l after t

pub resumes_size : Implies ResumesTransmit (MakesAtMostBySize most_of_pump)
resumes_size f l after t = any_pumps_size (length (waiting f)) f l after t

pub releases_size : Implies Releases (MakesAtMostBySize most_of_pump)
releases_size f l after t = resumes_size (with_hold false f) l after t

pub queues_urgent_size : (byte : ℕ) (replaced : Option ℕ) → Implies (QueuesUrgent byte replaced) (MakesAtMostBySize most_of_pump)
queues_urgent_size byte replaced f l after t = pumps_size (with_urgent (Some byte) f) l after t.1

pub holds_size : Implies Holds (MakesAtMost 0)
holds_size f l after t = omega (arith, ap length t.0)

pub clears_transmit_size : (count : ℕ) → Implies (ClearsTransmit count) (MakesAtMost 0)
clears_transmit_size count f l after t = omega (arith, ap length t.1.0)

pub sets_low_mark_size : (mark : ℕ) → Implies (SetsLowMark mark) (MakesAtMost 0)
sets_low_mark_size mark f l after t = omega (arith, ap length t.0)

pub takes_low_size : (low : Bool) → Implies (TakesLow low) (MakesAtMost 0)
takes_low_size low f l after t = omega (arith, ap length t.1.0)

write_size : (shown on : Bool) (write : Access) → length (write_if_other shown on write) ≤ 1
write_size true true write = omega arith
write_size true false write = omega arith
write_size false true write = omega arith
write_size false false write = omega arith

makes_rts_size : (wanted : Option Bool) → Implies (MakesRtsIfAny wanted) (MakesAtMost most_of_adjust)
makes_rts_size None f l after t = omega (arith, ap length t.0)
makes_rts_size (Some on) f l after (((mcr, is), saved), same) =
    omega (arith, ap length is, write_size (has mcr MCR.RTS.0) on (Write offsets.MCR (unlooped (switched on MCR.RTS.0 mcr))))

pub adjusts_size : (marks : ReceiveMarks) → Implies (AdjustsRts marks) (MakesAtMost most_of_adjust)
adjusts_size marks f l after t = makes_rts_size (rts_at marks (free f.receive)) f l after t

any_ends_pause_size : (count : ℕ) → Implies (IfAny count EndsPause) (MakesAtMost most_of_change)
any_ends_pause_size zero f l after t = omega (arith, ap length t.0)
any_ends_pause_size (suc n) f l after t = ends_pause_size f l after t

pub takes_size : (slots : ℕ) (bytes : List ℕ) → Implies (TakesBytes slots bytes) (MakesAtMost most_of_change)
takes_size slots bytes f l after (is, t) = any_ends_pause_size (length bytes) (without_taken (length bytes) f) l after t

pub takes_line_size : (line : ℕ) → Implies (TakesLine line) (MakesAtMost 1)
takes_line_size line f l after (status, told, ((read, is, shown, changed), same)) = omega (arith, ap length is)

pub takes_modem_size : (modem : ℕ) → Implies (TakesModem modem) (MakesAtMost 1)
takes_modem_size modem f l after (status, told, ((read, is, shown, changed), same)) = omega (arith, ap length is)

pub clears_receive_size : (count : ℕ) → Implies (ClearsReceive count) (MakesAtMost most_of_change)
clears_receive_size count f l after (is, t) = any_ends_pause_size count (without_taken count f) l after t

-- ---- storms

looks_size : (found : Option StuckError) → Implies (LooksOnceMore found) (MakesAtMost (1 + most_of_change))
looks_size None f l after ((isr, shown, idle, t), same) = omega (arith, ap length t.0.is)
looks_size (Some error) f l after t =
    let read : length t.front ≤ 1 = omega (arith, ap length t.first.0.2.0.is) in
    both l t.front t.back 1 most_of_change t.whole read (changes_size (rid_of every_bit) t.mid.driver t.back after.driver t.second.0)

counts_unfinished_size : (rounds : ℕ) (found : Option StuckError) →
    Implies (CountsUnfinished rounds found) (MakesAtMost (1 + most_of_change))
counts_unfinished_size rounds found f l after t = go (nat_lt (suc f.rounds) rounds) t
  where
    go : (more : Bool) → MatchBool more ((found ≡ None) × RingSets (with_rounds (suc f.rounds)) f l after) (LooksOnceMore found f l after) →
        length l ≤ 1 + most_of_change
    go true t = omega (arith, ap length t.1.0)
    go false t = looks_size found f l after t

counts_size : (rounds : ℕ) (end : HandleEnd) (found : Option StuckError) →
    Implies (CountsRound rounds end found) (MakesAtMost (1 + most_of_change))
counts_size rounds Idle found f l after t = omega (arith, ap length t.1.0)
counts_size rounds Unknown found f l after t = counts_unfinished_size rounds found f l after t
counts_size rounds Limit found f l after t = counts_unfinished_size rounds found f l after t

pub tries_size : (limit rounds : ℕ) (result : Result Handled StuckError) →
    Implies (TriesToHandle limit rounds result) (MakesAtMostBySize (most_of_try_handle limit))
tries_size limit rounds result f l after t = go f.stuck t
  where
    go : (was : Option StuckError) → MatchOption was (HandlesRound (round_limit limit) rounds result f l after)
        (λ error. StaysStuck result error f l after) → length l ≤ most_of_try_handle limit f.driver.size
    go None (handled, found, is, t) =
        both l t.front t.back (most_of_handle (round_limit limit) f.driver.size) (1 + most_of_change) t.whole
        (handles_size (round_limit limit) handled f t.front t.mid t.first)
        (counts_size rounds (counts_as (has_moved f t.mid) handled.end) found t.mid t.back after t.second)
    go (Some error) t = omega (arith, changes_size (rid_of every_bit) f.driver l after.driver t.1.0)

dumped_size : (dump : ConfigRegisterDump) (f : Fields) (l : List Access) (after : Fields) → Dumps dump f l after → length l ≤ 12
dumped_size dump f l after d = rw d.is (omega arith)

pub dumps_registers_size : (dump : ConfigRegisterDump) → Implies (DumpsRegisters dump) (MakesAtMostBySize most_of_dump)
dumps_registers_size dump f l after t =
    let same = ap (λ (g : Fields). g.size) t.first.0.keeps in
    both l t.front t.back 12 (most_of_pump f.driver.size) t.whole (dumped_size dump f.driver t.front t.mid.driver t.first.0)
    (at_size most_of_pump t.back same (resumes_size t.mid t.back after t.second))

pub restarts_size : (bits : ℕ) → Implies (Restarts bits) (MakesAtMostBySize most_of_restart)
restarts_size bits f l after t =
    let same = size_kept f t.mid t.front (enables_carry (not_paused f.is_paused bits) f t.front t.mid t.first) in
    both l t.front t.back most_of_change (most_of_pump f.driver.size) t.whole
    (changes_size (joined_with (not_paused f.is_paused bits)) f.driver t.front t.mid.driver t.first.0)
    (at_size most_of_pump t.back same (resumes_size t.mid t.back after t.second))
