-- One walk over all that the rings do: what holds of each doing of the driver under them, and of two in turn, holds of each ring call.
use Rattle.uart_ring_runs.proofs.Names.{◌≡◌, ℕ, zero, suc, nat_lt, Bool, true, false, MatchBool, List, [], ◌∷◌, ◌++◌, length, take, min}
use Rattle.uart_ring_runs.proofs.Names.{refl, sym, subst, Option, Some, None, Result, MatchOption, Access, Read, characters, InterruptType}
use Rattle.uart_ring_runs.proofs.Names.{Only, Fields, Doing, Saving, Receives, Sends, Enables, Disables, TakesLsr, TakesMsr, RingDoing}
use Rattle.uart_ring_runs.proofs.Names.{RingFields, OnDriver, Stays, RingSets, IfAny, free, is_full, waiting, sendable}
use Rattle.uart_ring_runs.proofs.Names.{without_sent, without_taken, with_queued, with_hold, with_urgent, with_low_mark, with_low}
use Rattle.uart_ring_runs.proofs.Names.{with_rounds, with_paused, cleared, Implies, ArmsIfLeft, Pumps, Queues, ResumesTransmit, Holds}
use Rattle.uart_ring_runs.proofs.Names.{Releases, QueuesUrgent, ClearsTransmit, SetsLowMark, TakesLow, PausesIfFull, FillsReceiveRing}
use Rattle.uart_ring_runs.proofs.Names.{EndsPause, TakesBytes, ClearsReceive, TakesLine}
use Rattle.uart_ring_runs.proofs.Names.{TakesModem, ServesInterrupt, ServesOne, Stops, SendsOnIf}
use Rattle.uart_ring_runs.proofs.Names.{ServesUpTo, Services, Retriggers, RetriggersUnlessIdle, Handles, every_bit, LooksOnceMore}
use Rattle.uart_ring_runs.proofs.Names.{CountsUnfinished, CountsRound, HandlesRound, StaysStuck, TriesToHandle, Restarts, not_paused}
use Rattle.uart_ring_runs.proofs.Names.{counts_as, has_moved, round_limit, StuckError, MAX_INTERRUPTS, HandleEnd, Idle, Unknown, Limit}
use Rattle.uart_ring_runs.proofs.Names.{Handled, SendsAndRetriggers, ServesData, ServesTimes}
use Rattle.uart_spec.specs.declared.registers.interrupt_enable.TheConstants.IER
use Rattle.uart_spec.specs.declared.registers.interrupt_type.InterruptType.TheVariants as interrupts
use Rattle.uart_spec.specs.declared.registers.offsets.TheConstants as offsets
use Rattle.uart_16550.specs.Status as status

-- whatever this doing of the driver does, the other says of it
abbrev pub Among : Doing → Doing → Type 0
Among G P = (f : Fields) (l : List Access) (after : Fields) → G f l after → P f l after

-- a property of what the driver does: of nothing, of two in turn, and of each doing that the rings ask for
pub record Walks (P : Doing) : Type 0 where
  pub nothing : (f : Fields) → P f [] f
  pub next : (f mid after : Fields) (l m : List Access) → P f l mid → P mid m after → P f (l ++ m) after
  pub sends : (bytes : List ℕ) (sent : ℕ) → Among (Saving (Sends bytes sent)) P
  pub receives : (room : ℕ) (bytes : List ℕ) → Among (Saving (Receives room bytes)) P
  pub enables : (bits : ℕ) → Among (Enables bits) P
  pub disables : (bits : ℕ) → Among (Disables bits) P
  pub lsr : (value : ℕ) → Among (TakesLsr value) P
  pub msr : (value : ℕ) → Among (TakesMsr value) P
  pub isr : (value : ℕ) → Among (Saving (Only (Read offsets.ISR value ∷ []))) P
  pub retriggers : Among (Saving status.Retriggers) P

-- the same of the rings over the driver
abbrev pub InRings : Doing → RingDoing
InRings P f l after = P f.driver l after.driver

module _ (P : Doing) (w : Walks P) where
  -- ---- what the rings do

  pub stays : Implies Stays (InRings P)
  stays f l after (is, same) = rw (is, same) (w.nothing f.driver)

  -- fields of the rings are changed, and the driver does nothing
  sets : (change : RingFields → RingFields) (f : RingFields) (l : List Access) (after : RingFields) → (change f).driver ≡ f.driver →
      RingSets change f l after → InRings P f l after
  sets change f l after same (is, changed) =
      let Q : Fields → Type 0 = λ g. P f.driver [] g in rw (is, changed) (subst Q (sym same) (w.nothing f.driver))

  arms : (left : List ℕ) → Among (ArmsIfLeft left) P
  arms [] f l after t = w.disables IER.THR_EMPTY.0 f l after t
  arms (byte ∷ bytes) f l after t = w.enables IER.THR_EMPTY.0 f l after t

  pumps : Implies Pumps (InRings P)
  pumps f l after (sent, (t, same)) =
      rw t.whole (w.next f.driver t.mid after.driver t.front t.back
      (w.sends (sendable f) sent f.driver t.front t.mid t.first)
      (arms (sendable (without_sent sent f)) t.mid t.back after.driver t.second))

  -- something if a flag is set, and else nothing
  flagged : (flag : Bool) (G : RingDoing) → Implies G (InRings P) → (f : RingFields) (l : List Access) (after : RingFields) →
      MatchBool flag (G f l after) (Stays f l after) → InRings P f l after
  flagged true G k f l after t = k f l after t
  flagged false G k f l after t = stays f l after t

  any : {G : RingDoing} (count : ℕ) → Implies G (InRings P) → Implies (IfAny count G) (InRings P)
  any zero k f l after t = stays f l after t
  any (suc n) k f l after t = k f l after t

  pauses : Implies PausesIfFull (InRings P)
  pauses f l after t =
      flagged (is_full f.receive) (OnDriver (Disables IER.DATA_READY.0) (with_paused true))
      (λ f l after t. w.disables IER.DATA_READY.0 f.driver l after.driver t.0) f l after t

  ends_pause : Implies EndsPause (InRings P)
  ends_pause f l after t =
      flagged f.is_paused (OnDriver (Enables IER.DATA_READY.0) (with_paused false))
      (λ f l after t. w.enables IER.DATA_READY.0 f.driver l after.driver t.0) f l after t

  fills : Implies FillsReceiveRing (InRings P)
  fills f l after (bytes, t) =
      rw t.whole (w.next f.driver t.mid.driver after.driver t.front t.back
      (w.receives (min (characters f.driver.size) (free f.receive)) bytes f.driver t.front t.mid.driver t.first.0)
      (pauses t.mid t.back after t.second))

  pub sends_on : (room : Bool) → Implies (SendsOnIf room) (InRings P)
  sends_on true f l after (zero, t) = w.sends (sendable f) 0 f.driver l after.driver t.0
  sends_on true f l after (suc n, t) = pumps f l after (suc n, t)
  sends_on false f l after t = stays f l after t

  serves_data : (room : Bool) → Implies (ServesData room) (InRings P)
  serves_data room f l after t =
      rw t.whole (w.next f.driver t.mid.driver after.driver t.front t.back (fills f t.front t.mid t.first)
      (sends_on room t.mid t.back after t.second))

  serves : (sends room left : Bool) (interrupt : InterruptType) → Implies (ServesInterrupt sends room left interrupt) (InRings P)
  serves sends room left interrupts.ReceiverLineStatus f l after (status, is, (t, same)) = w.lsr status f.driver l after.driver t
  serves sends room left interrupts.ReceivedDataReady f l after (is, t) = serves_data room f l after t
  serves sends room left interrupts.ReceptionTimeout f l after (is, t) = serves_data room f l after t
  serves sends room left interrupts.TransmitterHoldingRegisterEmpty f l after (is, t) = pumps f l after t
  serves sends room left interrupts.ModemStatus f l after (is, (status, (t, same))) = w.msr status f.driver l after.driver t
  serves sends room left interrupts.DmaReceptionEndOfTransfer f l after (is, t) = stays f l after t
  serves sends room left interrupts.DmaTransmissionEndOfTransfer f l after (is, t) = stays f l after t

  serves_one : (sends room left : Bool) → Implies (ServesOne sends room left) (InRings P)
  serves_one sends room left f l after (interrupt, t) =
      rw t.whole (w.next f.driver t.mid.driver after.driver t.front t.back (w.isr t.first.0.0 f.driver t.front t.mid.driver t.first.0.2)
      (serves sends room left interrupt t.mid t.back after t.second))

  pub times : (sends : Bool) (n : ℕ) (room left : Bool) → Implies (ServesTimes sends n room left) (InRings P)
  times sends zero room left f l after (is, t) = stays f l after t
  times sends (suc n) room left f l after (next, t) =
      rw t.whole (w.next f.driver t.mid.driver after.driver t.front t.back (serves_one sends room next f t.front t.mid t.first)
      (times sends n next left t.mid t.back after t.second))

  stops : (end : HandleEnd) → Implies (Stops end) (InRings P)
  stops Idle f l after ((isr, shown, idle, t), same) = w.isr isr f.driver l after.driver t
  stops Unknown f l after ((isr, shown, idle, t), same) = w.isr isr f.driver l after.driver t
  stops Limit f l after t = stays f l after t

  serves_up_to : (sends : Bool) (limit : ℕ) (handled : Handled) (room : Bool) → Implies (ServesUpTo sends limit handled room) (InRings P)
  serves_up_to sends limit handled room f l after (within, t) =
      rw t.whole (w.next f.driver t.mid.driver after.driver t.front t.back (times sends handled.served false room f t.front t.mid t.first)
      (stops handled.end t.mid t.back after t.second))

  sends_and_retriggers : (room : Bool) → Implies (SendsAndRetriggers room) (InRings P)
  sends_and_retriggers room f l after t =
      rw t.whole (w.next f.driver t.mid.driver after.driver t.front t.back (sends_on room f t.front t.mid t.first)
      (w.retriggers t.mid.driver t.back after.driver t.second.0))

  unless_idle : (room : Bool) (end : HandleEnd) → Implies (RetriggersUnlessIdle room end) (InRings P)
  unless_idle room Idle f l after t = stays f l after t
  unless_idle room Unknown f l after t = sends_and_retriggers room f l after t
  unless_idle room Limit f l after t = sends_and_retriggers room f l after t

  looks : (found : Option StuckError) → Implies (LooksOnceMore found) (InRings P)
  looks None f l after ((isr, shown, idle, t), same) = w.isr isr f.driver l after.driver t
  looks (Some error) f l after t =
      rw t.whole (w.next f.driver t.mid.driver after.driver t.front t.back (w.isr t.first.0.0 f.driver t.front t.mid.driver t.first.0.2)
      (w.disables every_bit t.mid.driver t.back after.driver t.second.0))

  counts_unfinished : (rounds : ℕ) (found : Option StuckError) → Implies (CountsUnfinished rounds found) (InRings P)
  counts_unfinished rounds found f l after t = go (nat_lt (suc f.rounds) rounds) t
    where
      go : (more : Bool) → MatchBool more ((found ≡ None) × RingSets (with_rounds (suc f.rounds)) f l after)
          (LooksOnceMore found f l after) → InRings P f l after
      go true t = sets (with_rounds (suc f.rounds)) f l after refl t.1
      go false t = looks found f l after t

  counts : (rounds : ℕ) (end : HandleEnd) (found : Option StuckError) → Implies (CountsRound rounds end found) (InRings P)
  counts rounds Idle found f l after t = sets (with_rounds 0) f l after refl t.1
  counts rounds Unknown found f l after t = counts_unfinished rounds found f l after t
  counts rounds Limit found f l after t = counts_unfinished rounds found f l after t

  -- ---- each call

  pub services : (count : ℕ) → Implies (Services count) (InRings P)
  services count f l after (end, room, t) = serves_up_to false MAX_INTERRUPTS (record { served = count; end = end }) room f l after t

  pub retriggers : Implies Retriggers (InRings P)
  retriggers f l after t = w.retriggers f.driver l after.driver t.0

  pub handles : (limit : ℕ) (handled : Handled) → Implies (Handles limit handled) (InRings P)
  handles limit handled f l after (room, t) =
      rw t.whole (w.next f.driver t.mid.driver after.driver t.front t.back (serves_up_to true limit handled room f t.front t.mid t.first)
      (unless_idle room handled.end t.mid t.back after t.second))

  pub queues : (bytes : List ℕ) (count : ℕ) → Implies (Queues bytes count) (InRings P)
  queues bytes count f l after (is, t) = any count pumps (with_queued (take count bytes) f) l after t

  pub resumes : Implies ResumesTransmit (InRings P)
  resumes f l after t = any (length (waiting f)) pumps f l after t

  pub holds : Implies Holds (InRings P)
  holds f l after t = sets (with_hold true) f l after refl t

  pub releases : Implies Releases (InRings P)
  releases f l after t = resumes (with_hold false f) l after t

  pub queues_urgent : (byte : ℕ) (replaced : Option ℕ) → Implies (QueuesUrgent byte replaced) (InRings P)
  queues_urgent byte replaced f l after t = pumps (with_urgent (Some byte) f) l after t.1

  pub clears_transmit : (count : ℕ) → Implies (ClearsTransmit count) (InRings P)
  clears_transmit count f l after t = sets cleared f l after refl t.1

  pub clears_receive : (count : ℕ) → Implies (ClearsReceive count) (InRings P)
  clears_receive count f l after t = any count ends_pause (without_taken count f) l after t.1

  pub sets_low_mark : (mark : ℕ) → Implies (SetsLowMark mark) (InRings P)
  sets_low_mark mark f l after t = sets (with_low_mark mark) f l after refl t

  pub takes_low : (low : Bool) → Implies (TakesLow low) (InRings P)
  takes_low low f l after t = sets (with_low false) f l after refl t.1

  pub takes : (slots : ℕ) (bytes : List ℕ) → Implies (TakesBytes slots bytes) (InRings P)
  takes slots bytes f l after (is, t) = any (length bytes) ends_pause (without_taken (length bytes) f) l after t

  pub takes_line : (line : ℕ) → Implies (TakesLine line) (InRings P)
  takes_line line f l after (status, told, (t, same)) = w.lsr status f.driver l after.driver t

  pub takes_modem : (modem : ℕ) → Implies (TakesModem modem) (InRings P)
  takes_modem modem f l after (status, told, (t, same)) = w.msr status f.driver l after.driver t

  pub tries : (limit rounds : ℕ) (result : Result Handled StuckError) → Implies (TriesToHandle limit rounds result) (InRings P)
  tries limit rounds result f l after t = go f.stuck t
    where
      go : (was : Option StuckError) → MatchOption was (HandlesRound (round_limit limit) rounds result f l after)
          (λ error. StaysStuck result error f l after) → InRings P f l after
      go None (handled, found, is, t) =
          rw t.whole (w.next f.driver t.mid.driver after.driver t.front t.back (handles (round_limit limit) handled f t.front t.mid t.first)
          (counts rounds (counts_as (has_moved f t.mid) handled.end) found t.mid t.back after t.second))
      go (Some error) t = w.disables every_bit f.driver l after.driver t.1.0

  pub restarts : (bits : ℕ) → Implies (Restarts bits) (InRings P)
  restarts bits f l after t =
      rw t.whole (w.next f.driver t.mid.driver after.driver t.front t.back
      (w.enables (not_paused f.is_paused bits) f.driver t.front t.mid.driver t.first.0) (resumes t.mid t.back after t.second))
