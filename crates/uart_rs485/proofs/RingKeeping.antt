-- That calls of rings at a bus keep the direction.
use Rattle.std.proofs.Common.{◌≡◌, ◌==◌, ◌++◌, ◌∙◌, ℕ, zero, suc, Bool, true, false, List, [], ◌∷◌, Result, Ok, Err}
use Rattle.std.proofs.Common.{refl, sym, ap, subst, append-nil, if◌then◌else◌, length, take, min, inl, inr}
use Rattle.std.specs.Prelude.{⊤, nat_lt, Option, Some, None, MatchBool, MatchOption, option_to_list}
use Rattle.uart_spec.specs.declared.access.Access.{Access}
use Rattle.uart_spec.specs.declared.access.Access.TheVariants.{Read, Write}
use Rattle.uart_spec.specs.FifoSize.{characters}
use Rattle.uart_spec.specs.declared.registers.interrupt_enable.TheConstants.IER
use Rattle.uart_spec.specs.declared.registers.interrupt_type.InterruptType.{InterruptType}
use Rattle.uart_spec.specs.declared.registers.interrupt_type.InterruptType.TheVariants.{ReceiverLineStatus, ReceivedDataReady}
use Rattle.uart_spec.specs.declared.registers.interrupt_type.InterruptType.TheVariants.{ReceptionTimeout, TransmitterHoldingRegisterEmpty}
use Rattle.uart_spec.specs.declared.registers.interrupt_type.InterruptType.TheVariants.{ModemStatus, DmaReceptionEndOfTransfer}
use Rattle.uart_spec.specs.declared.registers.interrupt_type.InterruptType.TheVariants.{DmaTransmissionEndOfTransfer}
use Rattle.uart_spec.specs.declared.registers.offsets.TheConstants as offsets
use Rattle.uart_16550.specs.Driver.{Fields, settings_of}
use Rattle.uart_ring.specs.Handle.{Handles, Retriggers, RetriggersUnlessIdle, SendsAndRetriggers}
use Rattle.uart_ring.specs.Lossless.{LosesNothing, data_written}
use Rattle.uart_ring.specs.Receive.{ClearsReceive, EndsPause, FillsReceiveRing, TakesBytes}
use Rattle.uart_ring.specs.Ring.{OnDriver, RingSets, unchanged, with_rounds}
use Rattle.uart_ring.specs.Ring.{IfAny, RingDoing, RingFields, free, is_full, sendable, waiting, with_queued, without_sent}
use Rattle.uart_ring.specs.Ring.{without_taken}
use Rattle.uart_ring.specs.Service.{SendsOnIf, ServesData, ServesInterrupt, ServesOne, ServesTimes, ServesUpTo, Stops}
use Rattle.uart_ring.specs.Storm.{CountsRound, CountsUnfinished, HandlesRound, LooksOnceMore, Restarts, ShowsStuck, StaysStuck}
use Rattle.uart_ring.specs.Storm.{TriesToHandle, counts_as, every_bit, has_moved, not_paused, round_limit}
use Rattle.uart_ring.specs.Transmit.{ArmsIfLeft, ClearsTransmit, Pumps, Queues, ResumesTransmit}
use Rattle.uart_ring.specs.declared.ring.service.HandleEnd.{HandleEnd}
use Rattle.uart_ring.specs.declared.ring.service.HandleEnd.TheVariants.{Idle, Unknown, Limit}
use Rattle.uart_ring.specs.declared.ring.service.Handled.{Handled}
use Rattle.uart_ring.specs.declared.ring.storm.StuckError.{StuckError}
use Rattle.uart_ring.proofs.Losses.{clears_receive_loses_nothing, handles_lose_nothing, restarts_lose_nothing, takes_lose_nothing}
use Rattle.uart_ring.proofs.Losses.{takes_line_loses_nothing, tries_lose_nothing}
use Rattle.uart_ring.proofs.Pausing.{ChangesIer, Pausing, joined_with, rid_of}
use Rattle.uart_rs485.specs.Directions.{empty_after_one, sends_after}
use Rattle.uart_rs485.specs.Rings.{DoesRingCall, DoesRingCalls, RingBusCall, RingBusFields, RingCallsKeepDirection, RingKeepsFromNew}
use Rattle.uart_rs485.specs.Rings.{OnRings, RingGivingUpFrees, RingLooks, RingQueues, RingStays, RingTriesToFinish, RingTurns, WaitsToSend}
use Rattle.uart_rs485.specs.Rings.{same, with_rings}
use Rattle.uart_rs485.specs.declared.direction.Direction.{Direction}
use Rattle.uart_rs485.specs.declared.errors.BusyError.{BusyError}
use Rattle.uart_rs485.specs.declared.errors.NotSendingError.{NotSendingError}
use Rattle.uart_rs485.proofs.Allowing.{AllowsAll, allows_append, keeps_all, sends_after-append}
use Rattle.uart_rs485.proofs.Keeping.{Finish, finished, never, turn_allows, written}
use Rattle.uart_rs485.proofs.Quiet.{AllQuiet, receives_quiet, sends_quiet}
use Rattle.uart_rs485.proofs.Turning.{switches_turn, unlooped_off}
use Rattle.uart_rs485.specs.Directions.{turned}

-- ---- accesses that write no MCR

abbrev IsCalm : Access → Type 0
IsCalm (Read offset answer) = ⊤
IsCalm (Write offset value) = (offset == offsets.MCR) ≡ false

abbrev AllCalm : List Access → Type 0
AllCalm [] = ⊤
AllCalm (access ∷ accesses) = IsCalm access × AllCalm accesses

calm-append : (l m : List Access) → AllCalm l → AllCalm m → AllCalm (l ++ m)
calm-append [] m t u = u
calm-append (access ∷ l) m t u = (t.0, calm-append l m t.1 u)

quiet_calm : (l : List Access) → AllQuiet true l → AllCalm l
quiet_calm [] t = tt
quiet_calm (Read offset answer ∷ l) t = (tt, quiet_calm l t.1)
quiet_calm (Write offset value ∷ l) t = (rw t.0.0 refl, quiet_calm l t.1)

-- such a list leaves the direction, and is allowed while the transceiver sends, or if it writes no byte
nothing : (b : Bool) (value : ℕ) (rest : List ℕ) → (if b then value ∷ [] else []) ++ rest ≡ [] → (b ≡ false) × (rest ≡ [])
nothing true value rest is = absurd cc
nothing false value rest is = (refl, is)

calm_stays : (d : Direction) (sends : Bool) (l : List Access) → AllCalm l → sends_after d sends l ≡ sends
calm_stays d sends [] t = refl
calm_stays d sends (Read offset answer ∷ l) t = calm_stays d sends l t.1
calm_stays d sends (Write offset value ∷ l) t = rw t.0 (calm_stays d sends l t.1)

calm_allows : (d : Direction) (sends empty : Bool) (l : List Access) → AllCalm l → (sends ≡ false → data_written l ≡ []) →
    AllowsAll d sends empty l
calm_allows d sends empty [] t none = tt
calm_allows d sends empty (Read offset answer ∷ l) t none =
    (tt, calm_allows d sends (empty_after_one empty (Read offset answer)) l t.1 none)
calm_allows d sends empty (Write offset value ∷ l) t none =
    let rest : sends ≡ false → data_written l ≡ [] = λ off. (nothing (offset == offsets.DATA) value (data_written l) (none off)).1 in
    let other : offset ≡ offsets.MCR → ⊥ = λ at. absurd (not_mcr offset at t.0) in
    let later = calm_allows d sends (empty_after_one empty (Write offset value)) l t.1 rest in
    ((byte sends none, λ at off. absurd (other at), λ at. absurd (other at)), rw t.0 later)
  where
    not_mcr : (offset : ℕ) → offset ≡ offsets.MCR → (offset == offsets.MCR) ≡ false → ⊥
    not_mcr offset at is = let no : true ≡ false = ap (λ (n : ℕ). n == offsets.MCR) (sym at) ∙ is in absurd cc

    byte : (sends : Bool) → (sends ≡ false → data_written (Write offset value ∷ l) ≡ []) → offset ≡ offsets.DATA → sends ≡ true
    byte true none at = refl
    byte false none at =
        let not_data = (nothing (offset == offsets.DATA) value (data_written l) (none refl)).0 in
        let no : true ≡ false = ap (λ (n : ℕ). n == offsets.DATA) (sym at) ∙ not_data in absurd cc

-- ---- what the rings do is calm

abbrev Calm : RingDoing → Type 0
Calm G = (f : RingFields) (l : List Access) (after : RingFields) → G f l after → AllCalm l

changes_calm : (change : ℕ → ℕ) (f : Fields) (l : List Access) (after : Fields) → ChangesIer change f l after → AllCalm l
changes_calm change f l after (ier, is, changed) = rw is (tt, (refl, tt))

arms_calm : (left : List ℕ) (f : Fields) (l : List Access) (after : Fields) → ArmsIfLeft left f l after → AllCalm l
arms_calm [] f l after t = changes_calm (rid_of IER.THR_EMPTY.0) f l after t
arms_calm (byte ∷ bytes) f l after t = changes_calm (joined_with IER.THR_EMPTY.0) f l after t

pumps_calm : Calm Pumps
pumps_calm f l after (sent, (t, same)) = rw t.whole (calm-append t.front t.back
    (quiet_calm t.front (sends_quiet true refl (sendable f) sent (settings_of f.driver) t.front t.first.0))
    (arms_calm (sendable (without_sent sent f)) t.mid t.back after.driver t.second))

any_pumps_calm : (count : ℕ) → Calm (IfAny count Pumps)
any_pumps_calm zero f l after t = rw t.0 tt
any_pumps_calm (suc n) f l after t = pumps_calm f l after t

queues_calm : (bytes : List ℕ) (count : ℕ) → Calm (Queues bytes count)
queues_calm bytes count f l after (is, t) = any_pumps_calm count (with_queued (take count bytes) f) l after t

pausing_calm : (change : ℕ → ℕ) (paused when : Bool) → Calm (Pausing change paused when)
pausing_calm change paused true f l after t = changes_calm change f.driver l after.driver t.0
pausing_calm change paused false f l after t = rw t.0 tt

fills_calm : Calm FillsReceiveRing
fills_calm f l after (bytes, t) = rw t.whole (calm-append t.front t.back
    (quiet_calm t.front
    (receives_quiet true (min (characters f.driver.size) (free f.receive)) bytes (settings_of f.driver) t.front t.first.0.0))
    (pausing_calm (rid_of IER.DATA_READY.0) true (is_full t.mid.receive) t.mid t.back after t.second))

sends_on_calm : (room : Bool) → Calm (SendsOnIf room)
sends_on_calm true f l after (zero, t) = quiet_calm l (sends_quiet true refl (sendable f) 0 (settings_of f.driver) l t.0.0)
sends_on_calm true f l after (suc n, t) = pumps_calm f l after (suc n, t)
sends_on_calm false f l after t = rw t.0 tt

serves_data_calm : (room : Bool) → Calm (ServesData room)
serves_data_calm room f l after t =
    rw t.whole (calm-append t.front t.back (fills_calm f t.front t.mid t.first) (sends_on_calm room t.mid t.back after t.second))

serves_calm : (sends room left : Bool) (interrupt : InterruptType) → Calm (ServesInterrupt sends room left interrupt)
serves_calm sends room left ReceiverLineStatus f l after (status, told, ((read, is, shown, changed), same)) = rw is (tt, tt)
serves_calm sends room left ReceivedDataReady f l after (is, t) = serves_data_calm room f l after t
serves_calm sends room left ReceptionTimeout f l after (is, t) = serves_data_calm room f l after t
serves_calm sends room left TransmitterHoldingRegisterEmpty f l after (is, t) = pumps_calm f l after t
serves_calm sends room left ModemStatus f l after (kept, (status, ((read, is, shown, changed), same))) = rw is (tt, tt)
serves_calm sends room left DmaReceptionEndOfTransfer f l after (is, t) = rw t.0 tt
serves_calm sends room left DmaTransmissionEndOfTransfer f l after (is, t) = rw t.0 tt

serves_one_calm : (sends room left : Bool) → Calm (ServesOne sends room left)
serves_one_calm sends room left f l after (interrupt, t) =
    let looks : AllCalm t.front = rw t.first.0.2.0.is (tt, tt) in
    rw t.whole (calm-append t.front t.back looks (serves_calm sends room left interrupt t.mid t.back after t.second))

times_calm : (sends : Bool) (n : ℕ) (room left : Bool) → Calm (ServesTimes sends n room left)
times_calm sends zero room left f l after (is, t) = rw t.0 tt
times_calm sends (suc n) room left f l after (next, t) =
    rw t.whole (calm-append t.front t.back (serves_one_calm sends room next f t.front t.mid t.first)
    (times_calm sends n next left t.mid t.back after t.second))

stops_calm : (end : HandleEnd) → Calm (Stops end)
stops_calm Idle f l after ((isr, shown, idle, t), same) = rw t.0.is (tt, tt)
stops_calm Unknown f l after ((isr, shown, idle, t), same) = rw t.0.is (tt, tt)
stops_calm Limit f l after t = rw t.0 tt

serves_up_to_calm : (sends : Bool) (limit : ℕ) (handled : Handled) (room : Bool) → Calm (ServesUpTo sends limit handled room)
serves_up_to_calm sends limit handled room f l after (within, t) = rw t.whole (calm-append t.front t.back
    (times_calm sends handled.served false room f t.front t.mid t.first) (stops_calm handled.end t.mid t.back after t.second))

retriggers_calm : Calm Retriggers
retriggers_calm f l after (((ier, is), saved), same) = rw is (tt, (refl, (refl, tt)))

sends_and_retriggers_calm : (room : Bool) → Calm (SendsAndRetriggers room)
sends_and_retriggers_calm room f l after t = rw t.whole (calm-append t.front t.back
    (sends_on_calm room f t.front t.mid t.first) (retriggers_calm t.mid t.back after t.second))

unless_idle_calm : (room : Bool) (end : HandleEnd) → Calm (RetriggersUnlessIdle room end)
unless_idle_calm room Idle f l after t = rw t.0 tt
unless_idle_calm room Unknown f l after t = sends_and_retriggers_calm room f l after t
unless_idle_calm room Limit f l after t = sends_and_retriggers_calm room f l after t

handles_calm : (limit : ℕ) (handled : Handled) → Calm (Handles limit handled)
handles_calm limit handled f l after (room, t) = rw t.whole (calm-append t.front t.back
    (serves_up_to_calm true limit handled room f t.front t.mid t.first) (unless_idle_calm room handled.end t.mid t.back after t.second))

any_ends_pause_calm : (count : ℕ) → Calm (IfAny count EndsPause)
any_ends_pause_calm zero f l after t = rw t.0 tt
any_ends_pause_calm (suc n) f l after t = pausing_calm (joined_with IER.DATA_READY.0) false f.is_paused f l after t

takes_calm : (slots : ℕ) (bytes : List ℕ) → Calm (TakesBytes slots bytes)
takes_calm slots bytes f l after (is, t) = any_ends_pause_calm (length bytes) (without_taken (length bytes) f) l after t

clears_receive_calm : (count : ℕ) → Calm (ClearsReceive count)
clears_receive_calm count f l after (is, t) = any_ends_pause_calm count (without_taken count f) l after t

-- ---- and in a storm

shows_stuck_calm : (error : StuckError) → Calm (OnDriver (ShowsStuck error) unchanged)
shows_stuck_calm error f l after ((isr, shown, t), same) = rw t.0.is (tt, tt)

looks_calm : (found : Option StuckError) → Calm (LooksOnceMore found)
looks_calm None f l after ((isr, shown, idle, t), same) = rw t.0.is (tt, tt)
looks_calm (Some error) f l after t = rw t.whole (calm-append t.front t.back (shows_stuck_calm error f t.front t.mid t.first)
    (changes_calm (rid_of every_bit) t.mid.driver t.back after.driver t.second.0))

counts_unfinished_calm : (rounds : ℕ) (found : Option StuckError) → Calm (CountsUnfinished rounds found)
counts_unfinished_calm rounds found f l after t = go (nat_lt (suc f.rounds) rounds) t
  where
    go : (more : Bool) → MatchBool more ((found ≡ None) × RingSets (with_rounds (suc f.rounds)) f l after) (LooksOnceMore found f l after) →
        AllCalm l
    go true t = rw t.1.0 tt
    go false t = looks_calm found f l after t

counts_calm : (rounds : ℕ) (end : HandleEnd) (found : Option StuckError) → Calm (CountsRound rounds end found)
counts_calm rounds Idle found f l after t = rw t.1.0 tt
counts_calm rounds Unknown found f l after t = counts_unfinished_calm rounds found f l after t
counts_calm rounds Limit found f l after t = counts_unfinished_calm rounds found f l after t

tries_calm : (limit rounds : ℕ) (result : Result Handled StuckError) → Calm (TriesToHandle limit rounds result)
tries_calm limit rounds result f l after t = go f.stuck t
  where
    go : (was : Option StuckError) → MatchOption was (HandlesRound (round_limit limit) rounds result f l after)
        (λ error. StaysStuck result error f l after) → AllCalm l
    go None (handled, found, is, t) =
        rw t.whole (calm-append t.front t.back (handles_calm (round_limit limit) handled f t.front t.mid t.first)
        (counts_calm rounds (counts_as (has_moved f t.mid) handled.end) found t.mid t.back after t.second))
    go (Some error) (is, t) = changes_calm (rid_of every_bit) f.driver l after.driver t.0

resumes_calm : Calm ResumesTransmit
resumes_calm f l after t = any_pumps_calm (length (waiting f)) f l after t

restarts_calm : (bits : ℕ) → Calm (Restarts bits)
restarts_calm bits f l after t = rw t.whole (calm-append t.front t.back
    (changes_calm (joined_with (not_paused f.is_paused bits)) f.driver t.front t.mid.driver t.first.0)
    (resumes_calm t.mid t.back after t.second))

-- ---- each call

-- the accesses are allowed; afterwards a bus is taken to be sending exactly if it is, and only then a byte waits
pub record Kept (d : Direction) (before : Bool) (l : List Access) (after : RingBusFields) : Type 0 where
  pub allows : AllowsAll d before false l
  pub sends : after.sends ≡ sends_after d before l
  pub direction : after.direction ≡ d
  pub waits : WaitsToSend after

abbrev pub KeptFrom : RingBusFields → List Access → RingBusFields → Type 0
KeptFrom f l after = Kept f.direction f.sends l after

stays_kept : (f : RingBusFields) (l : List Access) (after : RingBusFields) → WaitsToSend f → RingStays f l after → KeptFrom f l after
stays_kept f l after waits t = rw t.0 (record {
  allows = tt;
  sends = ap (λ (x : RingBusFields). x.sends) t.1;
  direction = ap (λ (x : RingBusFields). x.direction) t.1;
  waits = subst WaitsToSend (sym t.1) waits;
})

-- nothing waited, so nothing was written, and nothing waits
none_written : (written left waited : List ℕ) → written ++ left ≡ waited ++ [] → waited ≡ [] → (written ≡ []) × (left ≡ [])
none_written [] left waited is none = (refl, is ∙ (append-nil waited ∙ none))
none_written (byte ∷ written) left waited is none =
    let no : byte ∷ (written ++ left) ≡ [] = is ∙ (append-nil waited ∙ none) in absurd cc

-- a call that writes no MCR and loses nothing
calm_kept : (f : RingBusFields) (l : List Access) (after : RingBusFields) (given : List ℕ) (line modem : ℕ) → WaitsToSend f → AllCalm l →
    LosesNothing [] given line modem f.rings l after.rings → after ≡ with_rings after.rings f → KeptFrom f l after
calm_kept f l after given line modem waits calm loses same =
    let sends : after.sends ≡ f.sends = ap (λ (x : RingBusFields). x.sends) same in
    let none = λ (off : f.sends ≡ false). none_written (data_written l) (waiting after.rings) (waiting f.rings) loses.sent (waits off) in
    record {
      allows = calm_allows f.direction f.sends false l calm (λ off. (none off).0);
      sends = sends ∙ sym (calm_stays f.direction f.sends l calm);
      direction = ap (λ (x : RingBusFields). x.direction) same;
      waits = λ off. (none (sym sends ∙ off)).1;
    }

-- what is queued while the transceiver sends
queued_kept : (bytes : List ℕ) (result : Result ℕ NotSendingError) (f : RingBusFields) (l : List Access) (after : RingBusFields) →
    WaitsToSend f → RingQueues bytes result f l after → KeptFrom f l after
queued_kept bytes (Ok count) f l after waits (on, (t, same)) =
    let calm = queues_calm bytes count f.rings l after.rings t in
    let sends : after.sends ≡ true = ap (λ (x : RingBusFields). x.sends) same ∙ on in
    let still : f.sends ≡ false → ⊥ = λ off. let no : true ≡ false = sym on ∙ off in absurd cc in
    record {
      allows = calm_allows f.direction f.sends false l calm (λ off. absurd (still off));
      sends = ap (λ (x : RingBusFields). x.sends) same ∙ sym (calm_stays f.direction f.sends l calm);
      direction = ap (λ (x : RingBusFields). x.direction) same;
      waits = λ off. let no : true ≡ false = sym sends ∙ off in absurd cc;
    }
queued_kept bytes (Err e) f l after waits t = stays_kept f l after waits t.1

turns_kept : (f : RingBusFields) (l : List Access) (after : RingBusFields) → RingTurns true f l after → KeptFrom f l after
turns_kept f l after t =
    let made = t.0.0.0 in
    let sends : after.sends ≡ true = ap (λ (x : RingBusFields). x.sends) t.1 in
    record {
      allows = rw made.1 (turn_allows f.direction f.sends false true made.0 (never false));
      sends = sends ∙ rw made.1 (sym (switches_turn f.direction true made.0).0);
      direction = ap (λ (x : RingBusFields). x.direction) t.1;
      waits = λ off. let no : true ≡ false = sym sends ∙ off in absurd cc;
    }

-- the accesses of a look that shows an empty transmitter, and of a switch
pub ring_finish_made : (f : RingBusFields) (l : List Access) (after : RingBusFields) →
    RingTriesToFinish {T = Unit {0}} (Ok tt) f l after → Finish f.direction l
ring_finish_made f l after (none, t) =
    let looked = t.first.0.0.0 in
    let made = t.second.0.0.0 in
    let way : t.mid.direction ≡ f.direction = ap (λ (x : RingBusFields). x.direction) t.first.1 in
    record {
      lsr = looked.answer;
      mcr = made.0;
      shows = looked.shows;
      is = t.whole ∙ (λ i. looked.is i ++ made.1 i)
          ∙ ap (λ (d : Direction). Read offsets.LSR looked.answer ∷ Read offsets.MCR made.0 ∷
          Write offsets.MCR (written d false made.0) ∷ []) way;
    }

finishes_kept : (f : RingBusFields) (l : List Access) (after : RingBusFields) (before : Bool) →
    RingTriesToFinish {T = Unit {0}} (Ok tt) f l after → Kept f.direction before l after
finishes_kept f l after before (none, t) =
    let made = ring_finish_made f l after (none, t) in
    let done = finished f.direction before made.lsr made.mcr l made.shows made.is in
    record {
      allows = done.0;
      sends = ap (λ (x : RingBusFields). x.sends) t.second.1 ∙ sym done.1;
      direction = ap (λ (x : RingBusFields). x.direction) t.second.1 ∙ ap (λ (x : RingBusFields). x.direction) t.first.1;
      waits = λ off. ap waiting t.second.0.1 ∙ (ap waiting t.first.0.1 ∙ none);
    }

-- a look at the transmitter
looks_kept : (idle : Bool) (f : RingBusFields) (l : List Access) (after : RingBusFields) → WaitsToSend f → RingLooks idle f l after →
    KeptFrom f l after
looks_kept idle f l after waits t =
    let looked = t.0.0.0 in
    let sends : after.sends ≡ f.sends = ap (λ (x : RingBusFields). x.sends) t.1 in
    record {
      allows = rw looked.is (tt, tt);
      sends = sends ∙ rw looked.is refl;
      direction = ap (λ (x : RingBusFields). x.direction) t.1;
      waits = λ off. ap waiting t.0.1 ∙ waits (sym sends ∙ off);
    }

tries_kept : (result : Result (Unit {0}) BusyError) (f : RingBusFields) (l : List Access) (after : RingBusFields) → WaitsToSend f →
    RingTriesToFinish result f l after → KeptFrom f l after
tries_kept (Ok x) f l after waits t = finishes_kept f l after f.sends t
tries_kept (Err e) f l after waits (inl (some, t)) = stays_kept f l after waits t
tries_kept (Err e) f l after waits (inr (none, t)) = looks_kept false f l after (λ off. none) t

-- the transmit ring is emptied
cleared_none : (urgent : Option ℕ) (items : List ℕ) → option_to_list urgent ++ items ≡ [] → option_to_list urgent ++ [] ≡ []
cleared_none None items none = refl
cleared_none (Some byte) items none = absurd cc

clears_kept : (count : ℕ) (f : RingBusFields) (l : List Access) (after : RingBusFields) → WaitsToSend f →
    OnRings (ClearsTransmit count) same f l after → KeptFrom f l after
clears_kept count f l after waits ((counted, (is, changed)), same) =
    let sends : after.sends ≡ f.sends = ap (λ (x : RingBusFields). x.sends) same in
    rw is (record {
      allows = tt;
      sends = sends;
      direction = ap (λ (x : RingBusFields). x.direction) same;
      waits = λ off. ap waiting changed ∙ cleared_none f.rings.urgent f.rings.transmit.items (waits (sym sends ∙ off));
    })

call_kept : (call : RingBusCall) (f : RingBusFields) (l : List Access) (after : RingBusFields) → WaitsToSend f →
    DoesRingCall call f l after → KeptFrom f l after
call_kept RingBusCall.start_sending f l after waits t = turns_kept f l after t
call_kept RingBusCall.try_finish f l after waits (result, t) = tries_kept result f l after waits t
call_kept RingBusCall.is_idle f l after waits (idle, t) = looks_kept idle f l after waits t
call_kept RingBusCall.clear_transmit f l after waits (count, t) = clears_kept count f l after waits t
call_kept RingBusCall.clear_receive f l after waits (count, t) =
    calm_kept f l after f.rings.receive.items 0 0 waits (clears_receive_calm count f.rings l after.rings t.0)
    (clears_receive_loses_nothing f.rings count l after.rings t.0) t.1
call_kept RingBusCall.take_line f l after waits (line, t) =
    let calm : AllCalm l = rw t.0.2.0.1 (tt, tt) in
    calm_kept f l after [] line 0 waits calm (takes_line_loses_nothing line f.rings l after.rings t.0) t.1
call_kept (RingBusCall.queue bytes) f l after waits (result, t) = queued_kept bytes result f l after waits t
call_kept (RingBusCall.take slots) f l after waits (bytes, t) =
    calm_kept f l after bytes 0 0 waits (takes_calm slots bytes f.rings l after.rings t.0)
    (takes_lose_nothing slots bytes f.rings l after.rings t.0) t.1
call_kept (RingBusCall.handle limit) f l after waits (handled, t) =
    calm_kept f l after [] 0 0 waits (handles_calm limit handled f.rings l after.rings t.0)
    (handles_lose_nothing limit handled f.rings l after.rings t.0) t.1
call_kept (RingBusCall.try_handle limit rounds) f l after waits (result, t) =
    calm_kept f l after [] 0 0 waits (tries_calm limit rounds result f.rings l after.rings t.0)
    (tries_lose_nothing limit rounds result f.rings l after.rings t.0) t.1
call_kept (RingBusCall.restart interrupts) f l after waits t =
    calm_kept f l after [] 0 0 waits (restarts_calm interrupts f.rings l after.rings t.0)
    (restarts_lose_nothing interrupts f.rings l after.rings t.0) t.1

-- one list and then another
then_kept : (d : Direction) (before : Bool) (l m : List Access) (mid after : RingBusFields) → Kept d before l mid → KeptFrom mid m after →
    Kept d before (l ++ m) after
then_kept d before l m mid after p q =
    let P : Direction → Type 0 = λ e. AllowsAll e mid.sends false m in
    let Q : Bool → Type 0 = λ sends. AllowsAll d sends false m in
    record {
      allows = allows_append d before false l m p.allows (subst Q p.sends (subst P p.direction q.allows));
      sends = q.sends ∙ (λ i. sends_after (p.direction i) (p.sends i) m) ∙ sym (sends_after-append d before l m);
      direction = q.direction ∙ p.direction;
      waits = q.waits;
    }

pub calls_kept : (calls : List RingBusCall) (f : RingBusFields) (l : List Access) (after : RingBusFields) → WaitsToSend f →
    DoesRingCalls calls f l after → KeptFrom f l after
calls_kept [] f l after waits t = stays_kept f l after waits t
calls_kept (call ∷ calls) f l after waits t =
    let one = call_kept call f t.front t.mid waits t.first in
    rw t.whole (then_kept f.direction f.sends t.front t.back t.mid after one (calls_kept calls t.mid t.back after one.waits t.second))

pub ring_calls_keep : RingCallsKeepDirection
ring_calls_keep calls f l after t waits =
    let kept = calls_kept calls f l after waits t in (keeps_all f.direction f.sends l kept.allows, kept.sends, kept.waits)

pub ring_keeps_from_new : RingKeepsFromNew
ring_keeps_from_new d sends f calls l m mid after t u =
    let first = finishes_kept _ l mid sends t in
    let kept = then_kept d sends l m mid after first (calls_kept calls mid m after first.waits u) in
    (keeps_all d sends (l ++ m) kept.allows, kept.sends)

-- ---- the bus is given up

pub rings_free : RingGivingUpFrees
rings_free status f l after (dropped, t) =
    let first = t.first in
    let looked = first.first.0.2.0 in
    let made = first.second.0.0.0 in
    let way : first.mid.direction ≡ f.direction = ap (λ (x : RingBusFields). x.direction) first.first.1 in
    record {
      frees = record {
        lsr = looked.0;
        mcr = made.0;
        written = written f.direction false made.0;
        is = t.whole ∙ ((λ i. first.whole i ++ t.second.0.1.0 i) ∙ (append-nil (first.front ++ first.back)
            ∙ ((λ i. looked.1 i ++ made.1 i) ∙ ap (λ (d : Direction). Read offsets.LSR looked.0 ∷ Read offsets.MCR made.0 ∷
            Write offsets.MCR (written d false made.0) ∷ []) way)));
        receives = switches_turn f.direction false made.0;
        loopback = unlooped_off (turned f.direction false made.0);
      };
      none = ap (λ (x : RingFields). x.transmit.items) t.second.0.1.1;
    }
