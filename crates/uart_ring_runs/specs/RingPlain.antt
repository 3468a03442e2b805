-- Rings that only queue, serve and take: nothing is held, overtakes, is dropped or counted, and they are two queues.
use Rattle.std.specs.Prelude.{◌≡◌, ◌⊎◌, ℕ, true, false, List, [], ◌++◌, map, None}
use Rattle.std.specs.List.{AllByRecursion}
use Rattle.uart_chip.specs.Chip.{cut_of}
use Rattle.uart_chip.specs.Conserved.{out, waiting, kept}
use Rattle.uart_run.specs.Progress.{IsUnchecked}
use Rattle.uart_run.specs.Uncut.{IsUncut, kept_uncut}
use Rattle.uart_ring.specs.Ring.{RingFields, ring_fields}
use Rattle.uart_ring_runs.specs.declared.call.RingCall.{RingCall}
use Rattle.uart_ring_runs.specs.declared.call.RingCall.TheVariants as call
use Rattle.uart_ring_runs.specs.RingRun.{RingState, under, ring_machine, RingLink}
use Rattle.uart_ring_runs.specs.RingBytes.{to_take, queued, taken, KeepsOrder, SendsNothing, ReceivesNothing}
use Rattle.uart_ring_runs.specs.RingArmed.{thr_empty_of, RearmsRing, LeavesThrEmpty}

-- no urgent byte waits, the transmit ring is not held, and the chip is not stuck
abbrev pub AreUntold : RingFields → Type 0
AreUntold f = (f.urgent ≡ None) × (f.is_held ≡ false) × (f.stuck ≡ None)

-- the call holds nothing, lets no byte overtake, drops nothing and counts no round, and a call of the driver sends and
-- receives nothing and leaves the THR-empty interrupt; each of these calls is such a one
abbrev pub IsPlain : RingCall → Type 0
IsPlain call.HoldTransmit = ⊥
IsPlain call.ObeyXoff = ⊥
IsPlain call.ClearReceive = ⊥
IsPlain (call.TryHandle limit rounds) = ⊥
IsPlain (call.Driver c) = SendsNothing c × ReceivesNothing c × LeavesThrEmpty c
IsPlain other = KeepsOrder other

-- no call holds, overtakes, drops or counts rounds, and no call of the driver sends, receives or may take the THR-empty
-- interrupt away
abbrev pub ArePlain : List RingLink → Type 0
ArePlain links = AllByRecursion (λ link. IsPlain link.call) links

-- the bytes in the transmit ring
abbrev pub in_transmit_ring : RingState → List ℕ
in_transmit_ring s = (ring_fields s).transmit.items

-- the transmit ring is empty, or the chip's THR-empty interrupt is enabled and due; a call leaves it so, if it finds it
-- so, or in any case; each of these calls does
abbrev pub IsEmptyOrDue : RingState → Type 0
IsEmptyOrDue s =
    let known = thr_empty_of (ring_machine s) in
    (in_transmit_ring s ≡ []) ⊎ ((known.enabled ≡ true) × (known.due ≡ true))

abbrev pub LeavesEmptyOrDue : RingLink → Type 0
LeavesEmptyOrDue link = IsEmptyOrDue link.before ⊎ RearmsRing link.call link.answer → IsEmptyOrDue link.after

abbrev pub AllLeaveEmptyOrDue : List RingLink → Type 0
AllLeaveEmptyOrDue links = AllByRecursion LeavesEmptyOrDue links

-- what has been sent or is in the transmitter, and then the transmit ring, grew by what was queued; what was taken,
-- then the receive ring, then what is in the receiver, is what was in the receive ring and what was kept since
pub record ConservesPlainBytesUncut (s : RingState) (links : List RingLink) (t : RingState) : Type 0 where
  pub sent : out (ring_machine t) ++ in_transmit_ring t ≡
      out (ring_machine s) ++ (in_transmit_ring s ++ queued links)
  pub kept : taken links ++ (to_take t ++ waiting (ring_machine t)) ≡
      to_take s ++ kept_uncut (ring_machine s) (ring_machine t)

-- the same with characters cut; there are never bytes in the transmit ring with no interrupt to come; and the rings go
-- on so
pub record ConservesPlainly (s : RingState) (links : List RingLink) (t : RingState) : Type 0 where
  pub sent : let cut = map (cut_of (ring_machine s).chip) in
      out (ring_machine t) ++ cut (in_transmit_ring t) ≡
      out (ring_machine s) ++ (cut (in_transmit_ring s) ++ cut (queued links))
  pub kept : taken links ++ (to_take t ++ waiting (ring_machine t)) ≡
      to_take s ++ kept (ring_machine s) (ring_machine t)
  pub uncut : IsUncut (under s) → ConservesPlainBytesUncut s links t
  pub armed : IsUnchecked (under s) → AllLeaveEmptyOrDue links
  pub untold : AreUntold (ring_fields t)
