-- That ring calls leave the THR-empty interrupt armed.
use Rattle.std.proofs.Common.{◌≡◌, ◌<◌, ◌==◌, ◌||◌, ◌&&◌, ◌⊎◌, ℕ, zero, suc, Bool, true, false, not, List}
use Rattle.std.proofs.Common.{[], ◌∷◌, ◌++◌, length, take, length-take, append-nil, refl, arith, ◌∙◌, ap, inl, inr}
use Rattle.std.proofs.Common.{Option, Some, None, Result, bit_and, bit_or, if◌then◌else◌, MatchBool, nat_lt}
use Rattle.std.specs.Prelude.{⊤, MatchOption}
use Rattle.std.proofs.lemmas.Bool.Decides.{nat_tests}
use lib.Bits.{or_zero_r}
use Rattle.bitflags.specs.Sets.{without}
use Rattle.uart_spec.specs.declared.access.Access.{Access}
use Rattle.uart_spec.specs.declared.access.Access.TheVariants.{Read, Write}
use Rattle.uart_spec.specs.Bits.{has, field}
use Rattle.uart_spec.specs.Fields.{Identifies, interrupt_code}
use Rattle.uart_spec.specs.declared.errors.ByteSendError.TheVariants.{NoCapacity, RemoteNotClearToSend}
use Rattle.uart_spec.specs.declared.registers.interrupt_enable.TheConstants.IER
use Rattle.uart_spec.specs.declared.registers.interrupt_type.InterruptType.{InterruptType}
use Rattle.uart_spec.specs.declared.registers.interrupt_type.InterruptType.TheVariants.{ReceiverLineStatus, ReceivedDataReady}
use Rattle.uart_spec.specs.declared.registers.interrupt_type.InterruptType.TheVariants.{ReceptionTimeout, TransmitterHoldingRegisterEmpty}
use Rattle.uart_spec.specs.declared.registers.interrupt_type.InterruptType.TheVariants.{ModemStatus, DmaReceptionEndOfTransfer}
use Rattle.uart_spec.specs.declared.registers.interrupt_type.InterruptType.TheVariants.{DmaTransmissionEndOfTransfer}
use Rattle.uart_spec.specs.declared.registers.line_status.TheConstants.LSR
use Rattle.uart_spec.specs.declared.registers.offsets.TheConstants as offsets
use Rattle.uart_16550.specs.Grammar.{Settings, Asks, Then, InOrder}
use Rattle.uart_16550.specs.Driver.{Fields, settings_of}
use Rattle.uart_16550.specs.Receive.{Receives, Hit}
use Rattle.uart_16550.specs.Transmit.{Sends, SendMiss, LinesAllow, Burst, burst_size, data_writes}
use Rattle.uart_16550.proofs.Languages.{some_limit}
use Rattle.uart_16550.specs.Status.{Enables}
use Rattle.uart_ring.specs.Ring.{RingFields, OnDriver, Stays, RingNext, IfAny, with_queued, without_taken, RingDoing}
use Rattle.uart_ring.specs.Ring.{unchanged, is_full, waiting, sendable, allowed, RingSets, with_urgent, with_hold, with_low_mark, with_low}
use Rattle.uart_ring.specs.Ring.{with_rounds, cleared, without_sent}
use Rattle.uart_ring.specs.Transmit.{ArmsIfLeft, Pumps, Queues, ResumesTransmit, Holds, Releases, QueuesUrgent, ClearsTransmit}
use Rattle.uart_ring.specs.Transmit.{SetsLowMark, TakesLow}
use Rattle.uart_ring.specs.Receive.{PausesIfFull, FillsReceiveRing, EndsPause, TakesBytes, ClearsReceive}
use Rattle.uart_ring.specs.Receive.{write_if_other, rts_at, MakesRtsIfAny, AdjustsRts}
use Rattle.uart_ring.specs.declared.ring.receive.ReceiveMarks.{ReceiveMarks}
use Rattle.uart_spec.specs.declared.registers.modem_control.TheConstants.MCR
use Rattle.uart_16550.specs.Frame.{switched, unlooped}
use Rattle.uart_ring.specs.Ring.{free}
use Rattle.uart_ring.specs.Storm.{counts_as, has_moved, round_limit}
use Rattle.uart_ring.specs.Storm.{LooksOnceMore, CountsUnfinished, CountsRound, HandlesRound, StaysStuck, TriesToHandle, Restarts}
use Rattle.uart_ring.specs.Storm.{not_paused}
use Rattle.uart_ring.specs.declared.ring.storm.StuckError.{StuckError}
use Rattle.uart_ring.specs.Status.{NotesLine, NotesModem, TakesLine, TakesModem, DumpsRegisters}
use Rattle.uart_ring.specs.Service.{ShowsInterrupt, ServesOne, Stops, ServesUpTo, Services, SendsOnIf, ServesData, ServesTimes}
use Rattle.uart_ring.specs.Handle.{Retriggers, RetriggersUnlessIdle, Handles, SendsAndRetriggers}
use Rattle.uart_ring.specs.declared.ring.service.TheConstants.{MAX_INTERRUPTS}
use Rattle.uart_ring.specs.declared.ring.service.HandleEnd.{HandleEnd}
use Rattle.uart_ring.specs.declared.ring.service.HandleEnd.TheVariants.{Idle, Unknown, Limit}
use Rattle.uart_ring.specs.declared.ring.service.Handled.{Handled}
use Rattle.uart_ring.specs.Lossless.{Implies}
use Rattle.uart_16550.specs.Status as status
use Rattle.uart_ring.specs.Armed.{ThrEmpty, shows_thr_empty, due_after_read, known_after, known_after_all, KeepsIer, IsArmed, LeavesArmed}
use Rattle.uart_ring.specs.Armed.{AllHarmless}
use Rattle.uart_ring.specs.Armed.{Arms, ShowsCtsClear, ArmsUnlessHeld}
use Rattle.uart_ring.proofs.RegisterBits.{and_or, and_assoc, or_and}
use Rattle.uart_ring.proofs.Pausing.{ChangesIer, Pausing, joined_with, rid_of}
use Rattle.uart_ring.proofs.Losses.{Carries, received_carries, fills_carry, sends_on_carries}
use Rattle.uart_ring.proofs.Losses.{shows_carry, serves_one_carries, times_carry, shows_none}
use Rattle.uart_ring.proofs.Losses.{serves_up_to_carries, handles_carry, enables_carry}
use Rattle.uart_ring.proofs.Sending.{fewer_sendable, none_stuck, none_waiting, hold_none, clear_none}
use Rattle.uart_spec.specs.declared.dump.ConfigRegisterDump.{ConfigRegisterDump}

-- ---- bits of IER

-- a bit that is joined is there
joined : (ier : ℕ) → has (bit_or ier IER.THR_EMPTY.0) IER.THR_EMPTY.0 ≡ true
joined ier = ap (λ n. n == IER.THR_EMPTY.0) (or_and ier IER.THR_EMPTY.0)

-- another bit that is joined or taken away changes nothing
abbrev LeavesThrEmpty : (ℕ → ℕ) → Type 0
LeavesThrEmpty change = (ier : ℕ) → has (change ier) IER.THR_EMPTY.0 ≡ has ier IER.THR_EMPTY.0

kept_joined : LeavesThrEmpty (joined_with IER.DATA_READY.0)
kept_joined ier = ap (λ n. n == IER.THR_EMPTY.0) (and_or ier IER.DATA_READY.0 IER.THR_EMPTY.0 ∙ or_zero_r (bit_and ier IER.THR_EMPTY.0))

kept_taken : LeavesThrEmpty (rid_of IER.DATA_READY.0)
kept_taken ier = ap (λ n. n == IER.THR_EMPTY.0) (and_assoc ier (without 8 255 IER.DATA_READY.0) IER.THR_EMPTY.0)

-- ---- what lists show

or_true : (b : Bool) → (b || true) ≡ true
or_true true = refl
or_true false = refl

after-append : (known : ThrEmpty) (l m : List Access) → known_after_all known (l ++ m) ≡ known_after_all (known_after_all known l) m
after-append known [] m = refl
after-append known (access ∷ l) m = after-append (known_after known access) l m

keeps_first : (known : ThrEmpty) (l m : List Access) → KeepsIer known (l ++ m) → KeepsIer known l
keeps_first known [] m t = tt
keeps_first known (access ∷ l) m t = (t.0, keeps_first (known_after known access) l m t.1)

keeps_rest : (known : ThrEmpty) (l m : List Access) → KeepsIer known (l ++ m) → KeepsIer (known_after_all known l) m
keeps_rest known [] m t = t
keeps_rest known (access ∷ l) m t = keeps_rest (known_after known access) l m t.1

-- the interrupt is enabled and due
abbrev pub IsLive : ThrEmpty → Type 0
IsLive known = (known.enabled ≡ true) × (known.due ≡ true)

-- ---- reads of other registers than ISR leave it live

abbrev IsOtherRead : Access → Type 0
IsOtherRead (Read offset answer) = (offset == offsets.ISR) ≡ false
IsOtherRead (Write offset value) = ⊥

abbrev AllOtherReads : List Access → Type 0
AllOtherReads [] = ⊤
AllOtherReads (access ∷ accesses) = IsOtherRead access × AllOtherReads accesses

others-append : (l m : List Access) → AllOtherReads l → AllOtherReads m → AllOtherReads (l ++ m)
others-append [] m p q = q
others-append (access ∷ l) m p q = (p.0, others-append l m p.1 q)

still_due : (offset answer : ℕ) (due : Bool) → (offset == offsets.ISR) ≡ false → due ≡ true → due_after_read offset answer due ≡ true
still_due offset answer due other is = rw (other, is) (go (offset == offsets.LSR))
  where
    go : (b : Bool) → (if b then not (has answer LSR.THR_EMPTY.0) || true else true) ≡ true
    go true = or_true (not (has answer LSR.THR_EMPTY.0))
    go false = refl

live_others : (known : ThrEmpty) (l : List Access) → AllOtherReads l → IsLive known → IsLive (known_after_all known l)
live_others known [] p live = live
live_others known (Read offset answer ∷ l) p live =
    live_others (known_after known (Read offset answer)) l p.1 (live.0, still_due offset answer known.due p.0 live.1)
live_others known (Write offset value ∷ l) p live = absurd p.0

-- ---- and so do accesses that are harmless

harmless_write : (offset value : ℕ) (known : ThrEmpty) → (offset ≡ offsets.DATA) ⊎ (offset ≡ offsets.MCR) → IsLive known →
    IsLive (known_after known (Write offset value))
harmless_write offset value known (inl is) live = rw is (live.0, refl)
harmless_write offset value known (inr is) live = rw is live

harmless_live : (known : ThrEmpty) (l : List Access) → AllHarmless l → IsLive known → IsLive (known_after_all known l)
harmless_live known [] p live = live
harmless_live known (Read offset answer ∷ l) p live =
    harmless_live (known_after known (Read offset answer)) l p.1 (live.0, still_due offset answer known.due p.0 live.1)
harmless_live known (Write offset value ∷ l) p live =
    harmless_live (known_after known (Write offset value)) l p.1 (harmless_write offset value known p.0 live)

pub harmless_armed : (l : List Access) → AllHarmless l → (known : ThrEmpty) (f : RingFields) → IsArmed known f →
    IsArmed (known_after_all known l) f
harmless_armed l p known f (inl none) = inl none
harmless_armed l p known f (inr live) = inr (harmless_live known l p live)

-- ---- receiving

hits_others : (bytes : List ℕ) (s : Settings) (l : List Access) → InOrder Hit bytes s l → AllOtherReads l
hits_others [] s l t = rw t.is tt
hits_others (byte ∷ bytes) s l t =
    let one : AllOtherReads t.front = rw (t.first.whole, t.first.first.is, t.first.second.is) (refl, (refl, tt)) in
    rw t.whole (others-append t.front t.back one (hits_others bytes s t.back t.second))

receives_others : (room : ℕ) (bytes : List ℕ) (s : Settings) (l : List Access) → Receives room bytes s l → AllOtherReads l
receives_others room bytes s l (inl (all, t)) = hits_others bytes s l t
receives_others room bytes s l (inr (fewer, t)) =
    let miss : AllOtherReads t.back = rw t.second.is (refl, tt) in
    rw t.whole (others-append t.front t.back (hits_others bytes s t.front t.first) miss)

-- ---- sending makes it due

writes_due : (known : ThrEmpty) (bytes : List ℕ) → (known.due ≡ true) ⊎ (0 < length bytes) →
    (known_after_all known (data_writes bytes)).due ≡ true
writes_due known [] (inl due) = due
writes_due known [] (inr some) = absurd (omega (arith, some))
writes_due known (byte ∷ bytes) h = writes_due (record { enabled = known.enabled; due = true }) bytes (inl refl)

-- a look that shows no room makes it due
miss_due : (known : ThrEmpty) (answer : ℕ) → has answer LSR.THR_EMPTY.0 ≡ false → (known_after known (Read offsets.LSR answer)).due ≡ true
miss_due known answer shows = rw shows refl

asks_miss : (s : Settings) → s.checks ≡ false → (l : List Access) → SendMiss s l → Asks offsets.LSR LSR.THR_EMPTY.0 false s l
asks_miss s off l (NoCapacity, t) = t
asks_miss s off l (RemoteNotClearToSend, t) = absurd (rw off at t)

-- after a burst
burst_due : (known : ThrEmpty) (s : Settings) (bytes : List ℕ) (sent : ℕ) (l : List Access) → 0 < length bytes → sent ≡ burst_size s bytes →
    Burst (take sent bytes) s l → (known_after_all known l).due ≡ true
burst_due known s bytes sent l any size t =
    let one = some_limit s.fifo s.size in
    let written : 0 < length (take sent bytes) = omega (arith, any, size, one, length-take sent bytes) in
    rw (t.whole, t.second.is, after-append known t.front (data_writes (take sent bytes)))
    (writes_due (known_after_all known t.front) (take sent bytes) (inr written))

-- after a send of some bytes: the transmitter had no room, or it holds them
sent_due : (known : ThrEmpty) (s : Settings) (bytes : List ℕ) (sent : ℕ) (l : List Access) → s.checks ≡ false → Sends bytes sent s l →
    0 < length bytes → (known_after_all known l).due ≡ true
sent_due known s bytes sent l off (inl (none, unsent, is)) some = absurd (omega (arith, none, some))
sent_due known s bytes sent l off (inr (inl (any, unsent, t))) some = let miss = asks_miss s off l t in
    rw miss.is (miss_due known miss.answer miss.shows)
sent_due known s bytes sent l off (inr (inr (any, size, t))) some = burst_due known s bytes sent l any size t

-- whether CTS is checked or not: it is due, or CTS was clear
refused_due : (known : ThrEmpty) (s : Settings) (l : List Access) → SendMiss s l → ((known_after_all known l).due ≡ true) ⊎ ShowsCtsClear l
refused_due known s l (NoCapacity, t) = inl (rw t.is (miss_due known t.answer t.shows))
refused_due known s l (RemoteNotClearToSend, t) = go s.checks t
  where
    held : (front back : List Access) → Asks offsets.LSR LSR.THR_EMPTY.0 true s front → LinesAllow false s back →
        ShowsCtsClear (front ++ back)
    held front back look (inl (lies, loops)) = absurd (cc (lies))
    held front back look (inr lines) =
        rw (look.is, lines.whole, lines.first.is, lines.second.is) (inr (inr (inl (refl, lines.second.shows))))

    go : (checks : Bool) → MatchBool checks (Then (Asks offsets.LSR LSR.THR_EMPTY.0 true) (LinesAllow false) s l) ⊥ →
        ((known_after_all known l).due ≡ true) ⊎ ShowsCtsClear l
    go true t = inr (rw t.whole (held t.front t.back t.first t.second))
    go false t = absurd t

sent_or_held : (known : ThrEmpty) (s : Settings) (bytes : List ℕ) (sent : ℕ) (l : List Access) → Sends bytes sent s l → 0 < length bytes →
    ((known_after_all known l).due ≡ true) ⊎ ShowsCtsClear l
sent_or_held known s bytes sent l (inl (none, unsent, is)) some = absurd (omega (arith, none, some))
sent_or_held known s bytes sent l (inr (inl (any, unsent, t))) some = refused_due known s l t
sent_or_held known s bytes sent l (inr (inr (any, size, t))) some = inl (burst_due known s bytes sent l any size t)

shows-append : (l m : List Access) → ShowsCtsClear l → ShowsCtsClear (l ++ m)
shows-append [] m h = absurd h
shows-append (Read offset answer ∷ l) m (inl h) = inl h
shows-append (Read offset answer ∷ l) m (inr h) = inr (shows-append l m h)
shows-append (Write offset value ∷ l) m h = shows-append l m h

-- ---- IER

enabled_live : (known : ThrEmpty) (f : Fields) (l : List Access) (after : Fields) → Enables IER.THR_EMPTY.0 f l after → known.due ≡ true →
    IsLive (known_after_all known l)
enabled_live known f l after (ier, is, changed) due = rw is (joined ier, due)

-- the other interrupts leave it as it is, if IER reads true
changed_live : (change : ℕ → ℕ) → LeavesThrEmpty change → (known : ThrEmpty) (f : Fields) (l : List Access) (after : Fields) →
    ChangesIer change f l after → KeepsIer known l → IsLive known → IsLive (known_after_all known l)
changed_live change kept known f l after (ier, is, changed) keeps live =
    let true_of : KeepsIer known (Read offsets.IER ier ∷ Write offsets.IER (change ier) ∷ []) = rw is at keeps in
    rw is (kept ier ∙ true_of.0 refl live.0, live.1)

-- ---- each piece

-- what CTS checking was, it is
unchecked : (f : RingFields) (l : List Access) (after : RingFields) → Carries f l after →
    f.driver.config.check_cts_before_sending ≡ false → after.driver.config.check_cts_before_sending ≡ false
unchecked f l after c off = ap (λ (s : Settings). s.checks) c.settings ∙ off

-- one after the other
pub leaves_then : (f mid after : RingFields) (l m : List Access) → Carries f l mid → LeavesArmed f l mid → LeavesArmed mid m after →
    LeavesArmed f (l ++ m) after
leaves_then f mid after l m c first second = λ off known keeps armed.
    rw (after-append known l m)
    (second (unchecked f l mid c off) (known_after_all known l) (keeps_rest known l m keeps)
    (first off known (keeps_first known l m keeps) armed))

leaves_stays : Implies Stays LeavesArmed
leaves_stays f l after (is, same) = λ off known keeps armed. rw (is, same) armed

-- the same may be sent, and what was live is live
pub leaves_live : (f : RingFields) (l : List Access) (after : RingFields) → sendable after ≡ sendable f →
    ((known : ThrEmpty) → KeepsIer known l → IsLive known → IsLive (known_after_all known l)) → LeavesArmed f l after
leaves_live f l after items live = λ off known keeps armed. go known keeps armed
  where
    go : (known : ThrEmpty) → KeepsIer known l → IsArmed known f → IsArmed (known_after_all known l) after
    go known keeps (inl none) = inl (items ∙ none)
    go known keeps (inr is) = inr (live known keeps is)

leaves_others : (f : RingFields) (l : List Access) (after : RingFields) → sendable after ≡ sendable f → AllOtherReads l →
    LeavesArmed f l after
leaves_others f l after items others = leaves_live f l after items (λ known keeps live. live_others known l others live)

-- a pump whose send leaves the interrupt due arms, or else this holds
pumped_arms : (H : Type 0) (f : RingFields) (l : List Access) (after : RingFields) (p : Pumps f l after) (known : ThrEmpty) →
    (0 < length (sendable f) → ((known_after_all known p.1.0.front).due ≡ true) ⊎ H) →
    IsArmed (known_after_all known l) after ⊎ H
pumped_arms H f l after (sent, (t, same)) known due = go (sendable (without_sent sent f)) refl t.second
  where
    left : sendable after ≡ sendable (without_sent sent f)
    left = ap sendable same

    enabled : (byte : ℕ) (bytes : List ℕ) → ArmsIfLeft (byte ∷ bytes) t.mid t.back after.driver →
        ((known_after_all known t.front).due ≡ true) ⊎ H → IsArmed (known_after_all known l) after ⊎ H
    enabled byte bytes arms (inr h) = inr h
    enabled byte bytes arms (inl is) = inl (inr (rw (t.whole, after-append known t.front t.back)
        (enabled_live (known_after_all known t.front) t.mid t.back after.driver arms is)))

    go : (rest : List ℕ) → sendable (without_sent sent f) ≡ rest → ArmsIfLeft rest t.mid t.back after.driver →
        IsArmed (known_after_all known l) after ⊎ H
    go [] e arms = inl (inl (left ∙ e))
    go (byte ∷ bytes) e arms =
        let long : 0 < length (sendable (without_sent sent f)) = rw e (omega arith) in
        let some : 0 < length (sendable f) = omega (arith, long, fewer_sendable f sent) in
        enabled byte bytes arms (due some)

surely : {T : Type 0} → T ⊎ ⊥ → T
surely (inl h) = h
surely (inr none) = absurd none

-- a pump arms
pub pumps_arm : Implies Pumps Arms
pumps_arm f l after p = λ off known. surely (pumped_arms ⊥ f l after p known
    (λ some. inl (sent_due known (settings_of f.driver) (sendable f) p.0 p.1.0.front off p.1.0.first.0 some)))

-- also with CTS checking, unless CTS is clear
pumps_arm_unless_held : Implies Pumps ArmsUnlessHeld
pumps_arm_unless_held f l after p = λ known.
    let t = p.1.0 in
    pumped_arms (ShowsCtsClear l) f l after p known (λ some. in_whole t.front t.back l t.whole
    (sent_or_held known (settings_of f.driver) (sendable f) p.0 t.front t.first.0 some))
  where
    in_whole : {T : Type 0} → (front back whole : List Access) → whole ≡ front ++ back → T ⊎ ShowsCtsClear front → T ⊎ ShowsCtsClear whole
    in_whole front back whole is (inl h) = inl h
    in_whole front back whole is (inr h) = inr (rw is (shows-append front back h))

pumps_leave : Implies Pumps LeavesArmed
pumps_leave f l after t = λ off known keeps armed. pumps_arm f l after t off known

pausing_leaves : (change : ℕ → ℕ) (paused when : Bool) → LeavesThrEmpty change → Implies (Pausing change paused when) LeavesArmed
pausing_leaves change paused true kept f l after t = leaves_live f l after (ap sendable t.1)
    (λ known keeps live. changed_live change kept known f.driver l after.driver t.0 keeps live)
pausing_leaves change paused false kept f l after t = leaves_stays f l after t

pauses_leave : Implies PausesIfFull LeavesArmed
pauses_leave f l after t = pausing_leaves (rid_of IER.DATA_READY.0) true (is_full f.receive) kept_taken f l after t

ends_pause_leaves : Implies EndsPause LeavesArmed
ends_pause_leaves f l after t = pausing_leaves (joined_with IER.DATA_READY.0) false f.is_paused kept_joined f l after t

fills_leave : Implies FillsReceiveRing LeavesArmed
fills_leave f l after (bytes, t) =
    let items : sendable t.mid ≡ sendable f = ap sendable t.first.1 in
    let first = leaves_others f t.front t.mid items (receives_others _ bytes (settings_of f.driver) t.front t.first.0.0) in
    rw t.whole (leaves_then f t.mid after t.front t.back (received_carries _ bytes f t.front t.mid t.first) first
    (pauses_leave t.mid t.back after t.second))

notes_line_leave : (status : ℕ) → Implies (NotesLine status) LeavesArmed
notes_line_leave status f l after ((read, is, shown, changed), same) =
    leaves_others f l after (ap sendable same) (rw is (refl, tt))

-- if nothing was sent, there were only looks
refused_others : (s : Settings) (l : List Access) → SendMiss s l → AllOtherReads l
refused_others s l (NoCapacity, t) = rw t.is (refl, tt)
refused_others s l (RemoteNotClearToSend, t) = go s.checks t
  where
    lines : (l : List Access) → LinesAllow false s l → AllOtherReads l
    lines l (inl t) = rw t.1.is (refl, tt)
    lines l (inr t) = rw (t.whole, t.first.is, t.second.is) (refl, (refl, tt))

    go : (checks : Bool) → MatchBool checks (Then (Asks offsets.LSR LSR.THR_EMPTY.0 true) (LinesAllow false) s l) ⊥ → AllOtherReads l
    go true t =
        let one : AllOtherReads t.front = rw t.first.is (refl, tt) in
        rw t.whole (others-append t.front t.back one (lines t.back t.second))
    go false t = absurd t

unsent_others : (bytes : List ℕ) (s : Settings) (l : List Access) → Sends bytes 0 s l → AllOtherReads l
unsent_others bytes s l (inl (none, unsent, is)) = rw is tt
unsent_others bytes s l (inr (inl (any, unsent, t))) = refused_others s l t
unsent_others bytes s l (inr (inr (any, size, t))) =
    let one = some_limit s.fifo s.size in absurd (omega (arith, any, size, one))

sends_on_leaves : (room : Bool) → Implies (SendsOnIf room) LeavesArmed
sends_on_leaves true f l after (zero, t) =
    leaves_others f l after (ap sendable t.1) (unsent_others (sendable f) (settings_of f.driver) l t.0.0)
sends_on_leaves true f l after (suc n, t) = pumps_leave f l after (suc n, t)
sends_on_leaves false f l after t = leaves_stays f l after t

serves_data_leaves : (room : Bool) → Implies (ServesData room) LeavesArmed
serves_data_leaves room f l after t =
    rw t.whole (leaves_then f t.mid after t.front t.back (fills_carry f t.front t.mid t.first) (fills_leave f t.front t.mid t.first)
    (sends_on_leaves room t.mid t.back after t.second))

notes_modem_leave : Implies NotesModem LeavesArmed
notes_modem_leave f l after (status, ((read, is, shown, changed), same)) =
    leaves_others f l after (ap sendable same) (rw is (refl, tt))

-- ---- service

-- ISR shows another interrupt, or none
not_thr_empty : (isr : ℕ) → (Identifies isr TransmitterHoldingRegisterEmpty → ⊥) → shows_thr_empty isr ≡ false
not_thr_empty isr other = go (field 0 1 isr == 0) (field 1 3 isr == interrupt_code TransmitterHoldingRegisterEmpty) refl refl
  where
    go : (a b : Bool) → (field 0 1 isr == 0) ≡ a → (field 1 3 isr == interrupt_code TransmitterHoldingRegisterEmpty) ≡ b → (a && b) ≡ false
    go false b p q = refl
    go true false p q = refl
    go true true p q =
        let pending : field 0 1 isr ≡ 0 = grind (arith, nat_tests) in
        let code : field 1 3 isr ≡ interrupt_code TransmitterHoldingRegisterEmpty = grind (arith, nat_tests) in
        absurd (other (pending, code))

isr_leaves : (interrupt : Option InterruptType) (f : RingFields) (l : List Access) (after : RingFields) →
    (interrupt ≡ Some TransmitterHoldingRegisterEmpty → ⊥) →
    OnDriver (ShowsInterrupt interrupt) unchanged f l after → LeavesArmed f l after
isr_leaves interrupt f l after other ((isr, shown, t), same) =
    leaves_live f l after (ap sendable same) live
  where
    silent : shows_thr_empty isr ≡ false
    silent = not_thr_empty isr (λ h. other ((shown TransmitterHoldingRegisterEmpty).1 h))

    live : (known : ThrEmpty) → KeepsIer known l → IsLive known → IsLive (known_after_all known l)
    live known keeps is = rw (t.0.is, silent) is

-- what is served after a read of ISR that did not acknowledge it
served : (interrupt : InterruptType) (G : RingDoing) (f : RingFields) (l : List Access) (after : RingFields) →
    (Some interrupt ≡ Some TransmitterHoldingRegisterEmpty → ⊥) → Implies G LeavesArmed →
    RingNext (OnDriver (ShowsInterrupt (Some interrupt)) unchanged) G f l after → LeavesArmed f l after
served interrupt G f l after other leaves t =
    rw t.whole (leaves_then f t.mid after t.front t.back (shows_carry _ f t.front t.mid t.first)
    (isr_leaves _ f t.front t.mid other t.first) (leaves t.mid t.back after t.second))

serves_one_leaves : (sends room left : Bool) → Implies (ServesOne sends room left) LeavesArmed
serves_one_leaves sends room left f l after (ReceiverLineStatus, t) =
    served ReceiverLineStatus _ f l after (λ e. cc) (λ f l after t. notes_line_leave t.0 f l after t.2) t
serves_one_leaves sends room left f l after (ReceivedDataReady, t) =
    served ReceivedDataReady _ f l after (λ e. cc) (λ f l after t. serves_data_leaves room f l after t.1) t
serves_one_leaves sends room left f l after (ReceptionTimeout, t) =
    served ReceptionTimeout _ f l after (λ e. cc) (λ f l after t. serves_data_leaves room f l after t.1) t
serves_one_leaves sends room left f l after (ModemStatus, t) =
    served ModemStatus _ f l after (λ e. cc) (λ f l after t. notes_modem_leave f l after t.1) t
serves_one_leaves sends room left f l after (DmaReceptionEndOfTransfer, t) =
    served DmaReceptionEndOfTransfer _ f l after (λ e. cc) (λ f l after t. leaves_stays f l after t.1) t
serves_one_leaves sends room left f l after (DmaTransmissionEndOfTransfer, t) =
    served DmaTransmissionEndOfTransfer _ f l after (λ e. cc) (λ f l after t. leaves_stays f l after t.1) t
serves_one_leaves sends room left f l after (TransmitterHoldingRegisterEmpty, t) = λ off known keeps armed.
    rw (t.whole, after-append known t.front t.back)
    (pumps_arm t.mid t.back after t.second.1 (unchecked f t.front t.mid (shows_carry _ f t.front t.mid t.first) off)
    (known_after_all known t.front))

times_leave : (sends : Bool) (n : ℕ) (room left : Bool) → Implies (ServesTimes sends n room left) LeavesArmed
times_leave sends zero room left f l after (is, t) = leaves_stays f l after t
times_leave sends (suc n) room left f l after (next, t) =
    rw t.whole (leaves_then f t.mid after t.front t.back (serves_one_carries sends room next f t.front t.mid t.first)
    (serves_one_leaves sends room next f t.front t.mid t.first) (times_leave sends n next left t.mid t.back after t.second))

-- ---- each call

stops_leave : (end : HandleEnd) → Implies (Stops end) LeavesArmed
stops_leave Idle f l after t = isr_leaves None f l after (λ e. cc) (shows_none true f l after t)
stops_leave Unknown f l after t = isr_leaves None f l after (λ e. cc) (shows_none false f l after t)
stops_leave Limit f l after t = leaves_stays f l after t

serves_up_to_leaves : (sends : Bool) (limit : ℕ) (handled : Handled) (room : Bool) →
    Implies (ServesUpTo sends limit handled room) LeavesArmed
serves_up_to_leaves sends limit handled room f l after (within, t) =
    rw t.whole (leaves_then f t.mid after t.front t.back (times_carry sends handled.served false room f t.front t.mid t.first)
    (times_leave sends handled.served false room f t.front t.mid t.first) (stops_leave handled.end t.mid t.back after t.second))

pub services_leave : (count : ℕ) → Implies (Services count) LeavesArmed
services_leave count f l after (end, room, t) =
    serves_up_to_leaves false MAX_INTERRUPTS (record { served = count; end = end }) room f l after t

-- IER is as it was
pub retriggers_leave : Implies Retriggers LeavesArmed
retriggers_leave f l after (((ier, is), saved), same) =
    leaves_live f l after (ap sendable same) live
  where
    live : (known : ThrEmpty) → KeepsIer known l → IsLive known → IsLive (known_after_all known l)
    live known keeps was =
        let true_of : KeepsIer known (status.retrigger_accesses ier) = rw is at keeps in
        rw is (true_of.0 refl was.0, was.1)

sends_and_retriggers_leave : (room : Bool) → Implies (SendsAndRetriggers room) LeavesArmed
sends_and_retriggers_leave room f l after t =
    rw t.whole (leaves_then f t.mid after t.front t.back (sends_on_carries room f t.front t.mid t.first)
    (sends_on_leaves room f t.front t.mid t.first) (retriggers_leave t.mid t.back after t.second))

unless_idle_leave : (room : Bool) (end : HandleEnd) → Implies (RetriggersUnlessIdle room end) LeavesArmed
unless_idle_leave room Idle f l after t = leaves_stays f l after t
unless_idle_leave room Unknown f l after t = sends_and_retriggers_leave room f l after t
unless_idle_leave room Limit f l after t = sends_and_retriggers_leave room f l after t

pub handles_leave : (limit : ℕ) (handled : Handled) → Implies (Handles limit handled) LeavesArmed
handles_leave limit handled f l after (room, t) =
    rw t.whole (leaves_then f t.mid after t.front t.back (serves_up_to_carries true limit handled room f t.front t.mid t.first)
    (serves_up_to_leaves true limit handled room f t.front t.mid t.first)
    (unless_idle_leave room handled.end t.mid t.back after t.second))

any_pumps_arm : (count : ℕ) (f : RingFields) (l : List Access) (after : RingFields) → 0 < count → IfAny count Pumps f l after →
    Arms f l after
any_pumps_arm zero f l after some t = absurd (omega (arith, some))
any_pumps_arm (suc n) f l after some t = pumps_arm f l after t

-- nothing is queued, or what is queued is pumped
pub queues_leave : (bytes : List ℕ) (count : ℕ) → Implies (Queues bytes count) LeavesArmed
queues_leave bytes zero f l after (is, (none, same)) =
    leaves_live f l after (ap sendable same ∙ ap (λ xs. allowed f.stuck f.is_held f.urgent xs) (append-nil f.transmit.items))
    (λ known keeps live. rw none live)
queues_leave bytes (suc n) f l after (is, t) = λ off known keeps armed. pumps_arm (with_queued (take (suc n) bytes) f) l after t off known

pub queues_arm : (bytes : List ℕ) (count : ℕ) → 0 < count → Implies (Queues bytes count) Arms
queues_arm bytes count some f l after (is, t) = any_pumps_arm count (with_queued (take count bytes) f) l after some t

any_pumps_arm_unless_held : (count : ℕ) (f : RingFields) (l : List Access) (after : RingFields) → 0 < count →
    IfAny count Pumps f l after → ArmsUnlessHeld f l after
any_pumps_arm_unless_held zero f l after some t = absurd (omega (arith, some))
any_pumps_arm_unless_held (suc n) f l after some t = pumps_arm_unless_held f l after t

pub queues_arm_unless_held : (bytes : List ℕ) (count : ℕ) → 0 < count → Implies (Queues bytes count) ArmsUnlessHeld
queues_arm_unless_held bytes count some f l after (is, t) =
    any_pumps_arm_unless_held count (with_queued (take count bytes) f) l after some t

-- there is nothing that may be sent, or a pump
resumes_by : (f : RingFields) (l : List Access) (after : RingFields) → ResumesTransmit f l after →
    (sendable after ≡ []) ⊎ Pumps f l after
resumes_by f l after t = go (waiting f) refl t
  where
    go : (bytes : List ℕ) → waiting f ≡ bytes → IfAny (length bytes) Pumps f l after → (sendable after ≡ []) ⊎ Pumps f l after
    go [] e t = inl (ap sendable t.1 ∙ none_waiting f e)
    go (byte ∷ bytes) e t = inr t

pub resumes_arm : Implies ResumesTransmit Arms
resumes_arm f l after t = go (resumes_by f l after t)
  where
    go : (sendable after ≡ []) ⊎ Pumps f l after → Arms f l after
    go (inl none) = λ off known. inl none
    go (inr p) = pumps_arm f l after p

pub resumes_arm_unless_held : Implies ResumesTransmit ArmsUnlessHeld
resumes_arm_unless_held f l after t = go (resumes_by f l after t)
  where
    go : (sendable after ≡ []) ⊎ Pumps f l after → ArmsUnlessHeld f l after
    go (inl none) = λ known. inl (inl none)
    go (inr p) = pumps_arm_unless_held f l after p

-- the fields change, and what may be sent
leaves_sets : (change : RingFields → RingFields) (f : RingFields) (l : List Access) (after : RingFields) → RingSets change f l after →
    (sendable f ≡ [] → sendable (change f) ≡ []) → LeavesArmed f l after
leaves_sets change f l after (is, changed) none = λ off known keeps armed. rw (is, changed) (go known armed)
  where
    go : (known : ThrEmpty) → IsArmed known f → IsArmed known (change f)
    go known (inl empty) = inl (none empty)
    go known (inr live) = inr live

pub holds_leave : Implies Holds LeavesArmed
holds_leave f l after t = leaves_sets (with_hold true) f l after t (hold_none f)

pub releases_arm : Implies Releases Arms
releases_arm f l after t = resumes_arm (with_hold false f) l after t

pub releases_arm_unless_held : Implies Releases ArmsUnlessHeld
releases_arm_unless_held f l after t = resumes_arm_unless_held (with_hold false f) l after t

pub queues_urgent_arm : (byte : ℕ) (replaced : Option ℕ) → Implies (QueuesUrgent byte replaced) Arms
queues_urgent_arm byte replaced f l after t = pumps_arm (with_urgent (Some byte) f) l after t.1

pub queues_urgent_arm_unless_held : (byte : ℕ) (replaced : Option ℕ) → Implies (QueuesUrgent byte replaced) ArmsUnlessHeld
queues_urgent_arm_unless_held byte replaced f l after t = pumps_arm_unless_held (with_urgent (Some byte) f) l after t.1

pub clears_transmit_leave : (count : ℕ) → Implies (ClearsTransmit count) LeavesArmed
clears_transmit_leave count f l after t = leaves_sets cleared f l after t.1 (clear_none f)

pub sets_low_mark_leave : (mark : ℕ) → Implies (SetsLowMark mark) LeavesArmed
sets_low_mark_leave mark f l after t = leaves_sets (with_low_mark mark) f l after t (λ e. e)

pub takes_low_leave : (low : Bool) → Implies (TakesLow low) LeavesArmed
takes_low_leave low f l after t = leaves_sets (with_low false) f l after t.1 (λ e. e)

-- MCR has no part in it
rts_live : (shown on : Bool) (mcr value : ℕ) (known : ThrEmpty) → IsLive known →
    IsLive (known_after_all known (Read offsets.MCR mcr ∷ write_if_other shown on (Write offsets.MCR value)))
rts_live true true mcr value known live = live
rts_live true false mcr value known live = live
rts_live false true mcr value known live = live
rts_live false false mcr value known live = live

makes_rts_leaves : (wanted : Option Bool) → Implies (MakesRtsIfAny wanted) LeavesArmed
makes_rts_leaves None f l after t = leaves_stays f l after t
makes_rts_leaves (Some on) f l after (((mcr, is), saved), same) =
    leaves_live f l after (ap sendable same)
    (λ known keeps live. rw is (rts_live (has mcr MCR.RTS.0) on mcr (unlooped (switched on MCR.RTS.0 mcr)) known live))

pub adjusts_leave : (marks : ReceiveMarks) → Implies (AdjustsRts marks) LeavesArmed
adjusts_leave marks f l after t = makes_rts_leaves (rts_at marks (free f.receive)) f l after t

any_ends_pause_leaves : (count : ℕ) → Implies (IfAny count EndsPause) LeavesArmed
any_ends_pause_leaves zero f l after t = leaves_stays f l after t
any_ends_pause_leaves (suc n) f l after t = ends_pause_leaves f l after t

pub takes_leave : (slots : ℕ) (bytes : List ℕ) → Implies (TakesBytes slots bytes) LeavesArmed
takes_leave slots bytes f l after (is, t) = any_ends_pause_leaves (length bytes) (without_taken (length bytes) f) l after t

pub takes_line_leave : (line : ℕ) → Implies (TakesLine line) LeavesArmed
takes_line_leave line f l after (status, told, ((read, is, shown, changed), same)) =
    leaves_others f l after (ap sendable same) (rw is (refl, tt))

pub takes_modem_leave : (modem : ℕ) → Implies (TakesModem modem) LeavesArmed
takes_modem_leave modem f l after (status, told, ((read, is, shown, changed), same)) =
    leaves_others f l after (ap sendable same) (rw is (refl, tt))

pub clears_receive_leave : (count : ℕ) → Implies (ClearsReceive count) LeavesArmed
clears_receive_leave count f l after (is, t) = any_ends_pause_leaves count (without_taken count f) l after t

-- ---- storms

-- the chip is stuck, so nothing may be sent
pub leaves_stuck : (f : RingFields) (l : List Access) (after : RingFields) → sendable after ≡ [] → LeavesArmed f l after
leaves_stuck f l after none = λ off known keeps armed. inl none

looks_leave : (found : Option StuckError) → Implies (LooksOnceMore found) LeavesArmed
looks_leave None f l after ((isr, shown, idle, t), same) =
    leaves_live f l after (ap sendable same) live
  where
    silent : shows_thr_empty isr ≡ false
    silent = not_thr_empty isr (λ h. cc ((shown TransmitterHoldingRegisterEmpty).1 h))

    live : (known : ThrEmpty) → KeepsIer known l → IsLive known → IsLive (known_after_all known l)
    live known keeps is = rw (t.0.is, silent) is
looks_leave (Some error) f l after t =
    leaves_stuck f l after (ap sendable t.second.1)

counts_unfinished_leave : (rounds : ℕ) (found : Option StuckError) → Implies (CountsUnfinished rounds found) LeavesArmed
counts_unfinished_leave rounds found f l after t = go (nat_lt (suc f.rounds) rounds) t
  where
    go : (more : Bool) → MatchBool more ((found ≡ None) × RingSets (with_rounds (suc f.rounds)) f l after) (LooksOnceMore found f l after) →
        LeavesArmed f l after
    go true t = leaves_sets (with_rounds (suc f.rounds)) f l after t.1 (λ e. e)
    go false t = looks_leave found f l after t

counts_leave : (rounds : ℕ) (end : HandleEnd) (found : Option StuckError) → Implies (CountsRound rounds end found) LeavesArmed
counts_leave rounds Idle found f l after t = leaves_sets (with_rounds 0) f l after t.1 (λ e. e)
counts_leave rounds Unknown found f l after t = counts_unfinished_leave rounds found f l after t
counts_leave rounds Limit found f l after t = counts_unfinished_leave rounds found f l after t

pub tries_leave : (limit rounds : ℕ) (result : Result Handled StuckError) → Implies (TriesToHandle limit rounds result) LeavesArmed
tries_leave limit rounds result f l after t = go f.stuck refl t
  where
    go : (was : Option StuckError) → f.stuck ≡ was → MatchOption was (HandlesRound (round_limit limit) rounds result f l after)
        (λ error. StaysStuck result error f l after) → LeavesArmed f l after
    go None e (handled, found, is, t) =
        rw t.whole (leaves_then f t.mid after t.front t.back (handles_carry (round_limit limit) handled f t.front t.mid t.first)
        (handles_leave (round_limit limit) handled f t.front t.mid t.first)
        (counts_leave rounds (counts_as (has_moved f t.mid) handled.end) found t.mid t.back after t.second))
    go (Some error) e t = leaves_stuck f l after (ap sendable t.1.1 ∙ none_stuck f error e)

pub restarts_arm : (bits : ℕ) → Implies (Restarts bits) Arms
restarts_arm bits f l after t = λ off known.
    rw (t.whole, after-append known t.front t.back)
    (resumes_arm t.mid t.back after t.second
    (unchecked f t.front t.mid (enables_carry (not_paused f.is_paused bits) f t.front t.mid t.first) off)
    (known_after_all known t.front))

-- what a dump acknowledged is sent after it
pub dumps_registers_arm : (dump : ConfigRegisterDump) → Implies (DumpsRegisters dump) Arms
dumps_registers_arm dump f l after t = λ off known.
    rw (t.whole, after-append known t.front t.back)
    (resumes_arm t.mid t.back after t.second
    (ap (λ (g : Fields). g.config.check_cts_before_sending) t.first.0.keeps ∙ off)
    (known_after_all known t.front))
