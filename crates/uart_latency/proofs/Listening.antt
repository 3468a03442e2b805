-- DATA_READY stays enabled while receiving is not paused: nobody else than a full receive ring disables it, and a chip that is stuck.
use Rattle.uart_latency.proofs.Names.{◌≡◌, ℕ, zero, suc, ◌==◌, ◌||◌, Bool, true, false, not, MatchBool, nat_lt, List, [], ◌∷◌, ◌++◌, length}
use Rattle.uart_latency.proofs.Names.{take, min, refl, sym, ◌∙◌, ap, subst, if◌then◌else◌, Option, Some, None, Result, Err, bit_and, bit_or}
use Rattle.uart_latency.proofs.Names.{inl, inr, AllByRecursion, MatchOption, false≢true, Path, has, has_any, characters, Access, Read}
use Rattle.uart_latency.proofs.Names.{Write, InterruptType, switched, unlooped, Settings, Then, Asks, InOrder, Receives, Hit, is_dlab_set}
use Rattle.uart_latency.proofs.Names.{MachineState, MachineStep, at_mark, ier_bits, has_and, has_or, each-append, path_as, path_split, Kept}
use Rattle.uart_latency.proofs.Names.{kept_in, keep, kept_after, kept_step, kept_path, kept_list, kept-before_mark, Implies, RingDoing}
use Rattle.uart_latency.proofs.Names.{RingFields, OnDriver, Stays, RingSets, RingNext, IfAny, free, is_full, sendable}
use Rattle.uart_latency.proofs.Names.{without_sent, without_taken, with_received, with_queued, with_hold, with_urgent, with_low_mark}
use Rattle.uart_latency.proofs.Names.{with_low, with_rounds, with_paused, cleared, unchanged, with_told_xoff, looked, restarted, ArmsIfLeft}
use Rattle.uart_latency.proofs.Names.{Pumps, Queues, ResumesTransmit, Holds, Releases, QueuesUrgent, ClearsTransmit, SetsLowMark, TakesLow}
use Rattle.uart_latency.proofs.Names.{PausesIfFull, FillsReceiveRing, EndsPause, TakesBytes, ClearsReceive, write_if_other, MakesRtsIfAny}
use Rattle.uart_latency.proofs.Names.{AdjustsRts, rts_at, flow_character, TellsIfAny, AdjustsXoff, xon, Obeys, ObeysXoff, TakesLine}
use Rattle.uart_latency.proofs.Names.{TakesModem, ShowsInterrupt, ServesInterrupt, SendsAndRetriggers, SendsOnIf, ServesData}
use Rattle.uart_latency.proofs.Names.{ServesOne, ServesTimes, Stops, ServesUpTo, Services, Retriggers}
use Rattle.uart_latency.proofs.Names.{RetriggersUnlessIdle, Handles, LooksOnceMore, CountsUnfinished, CountsRound, HandlesRound, StaysStuck}
use Rattle.uart_latency.proofs.Names.{TriesToHandle, Restarts, not_paused, counts_as, has_moved, unless_stuck, round_limit, ReceiveMarks}
use Rattle.uart_latency.proofs.Names.{StuckError, HandleEnd, Idle, Unknown, Limit, Handled, at_marks}
use Rattle.std.proofs.Math.Bool.{or-true}
use Rattle.uart_spec.specs.declared.errors.ByteSendError.TheVariants.{NoCapacity, RemoteNotClearToSend}
use Rattle.uart_spec.specs.declared.registers.interrupt_enable.TheConstants.IER
use Rattle.uart_spec.specs.declared.registers.interrupt_type.InterruptType.TheVariants as interrupts
use Rattle.uart_spec.specs.declared.registers.line_control.TheConstants.LCR
use Rattle.uart_spec.specs.declared.registers.line_status.TheConstants.LSR
use Rattle.uart_spec.specs.declared.registers.modem_control.TheConstants.MCR
use Rattle.uart_spec.specs.declared.registers.offsets.TheConstants as offsets
use Rattle.uart_16550.specs.Driver.{Fields, Saving, settings_of}
use Rattle.uart_16550.specs.Transmit.{Sends, SendHit, SendMiss, LinesAllow, data_writes}
use Rattle.uart_16550.specs.Status as status
use Rattle.uart_ring.specs.Ring.{waiting}
use Rattle.uart_ring.specs.declared.ring.service.TheConstants.{MAX_INTERRUPTS}
use Rattle.uart_ring.proofs.Pausing.{joined_with, rid_of}
use Rattle.uart_ring_runs.proofs.RingDue.{IsDlabOff, ier_answer, off_step}

-- DLAB is off, and DATA_READY is enabled unless receiving is paused
pub record Listens (is_paused : Bool) (m : MachineState) : Type 0 where
  pub dlab : IsDlabOff m
  pub enabled : is_paused ≡ false → has_any m.chip.latches.ier IER.DATA_READY.0 ≡ true

-- a doing of the rings leaves it so, whatever its path
abbrev pub Keeps : RingDoing
Keeps f l after = (m n : MachineState) → Path MachineStep m l n → Listens f.is_paused m → Listens after.is_paused n

-- ---- IER and LCR stay

listens_as : (was is : Bool) (m n : MachineState) → n.chip.latches.ier ≡ m.chip.latches.ier → n.chip.latches.lcr ≡ m.chip.latches.lcr →
    is ≡ was → Listens was m → Listens is n
listens_as was is m n ier lcr same h = record {
  dlab = ap (λ v. has_any v LCR.DLAB.0) lcr ∙ h.dlab;
  enabled = λ on. ap (λ v. has_any v IER.DATA_READY.0) ier ∙ h.enabled (sym same ∙ on);
}

abbrev IsSame : (x k : Kept) → Type 0
IsSame x k = (x.latches.ier ≡ k.latches.ier) × (x.latches.lcr ≡ k.latches.lcr)

same_if : (b : Bool) (x y k : Kept) → IsSame x k → IsSame y k → IsSame (if b then x else y) k
same_if true x y k p q = p
same_if false x y k p q = q

-- a list that writes neither IER, FCR nor LCR
abbrev LeavesIer : Access → Type 0
LeavesIer (Read offset value) = Unit {0}
LeavesIer (Write offset value) =
    ((offset == offsets.IER) ≡ false) × ((offset == offsets.FCR) ≡ false) × ((offset == offsets.LCR) ≡ false)

abbrev AllLeaveIer : List Access → Type 0
AllLeaveIer l = AllByRecursion LeavesIer l

same_keep : (access : Access) (k : Kept) → LeavesIer access → IsSame (keep access k) k
same_keep (Read offset value) k leaves = (refl, refl)
same_keep (Write offset value) k leaves =
    rw (leaves.0, leaves.1, leaves.2) (same_if (offset == offsets.DATA) _ _ k
    (same_if (is_dlab_set k.latches) _ _ k (refl, refl) (refl, refl))
    (same_if (offset == offsets.MCR) _ _ k (refl, refl) (same_if (offset == offsets.SPR) _ _ k (refl, refl) (refl, refl))))

same_after : (l : List Access) (k : Kept) → AllLeaveIer l → IsSame (kept_after l k) k
same_after [] k leaves = (refl, refl)
same_after (access ∷ l) k leaves =
    let first = same_keep access k leaves.0 in
    let others = same_after l (keep access k) leaves.1 in
    (others.0 ∙ first.0, others.1 ∙ first.1)

spared : (f after : RingFields) (l : List Access) → AllLeaveIer l → after.is_paused ≡ f.is_paused → Keeps f l after
spared f after l leaves same m n path h =
    let kept = kept_path l m n path in
    let all = same_after l (kept_in m.chip) leaves in
    listens_as f.is_paused after.is_paused m n (ap (λ (k : Kept). k.latches.ier) kept ∙ all.0)
    (ap (λ (k : Kept). k.latches.lcr) kept ∙ all.1) same h

-- sending and receiving make such lists
asks_leaves : (register bits : ℕ) (outcome : Bool) (s : Settings) (l : List Access) → Asks register bits outcome s l → AllLeaveIer l
asks_leaves register bits outcome s l t = rw t.is (tt, tt)

lines_leave : (allowed : Bool) (s : Settings) (l : List Access) → LinesAllow allowed s l → AllLeaveIer l
lines_leave allowed s l (inl t) = asks_leaves _ _ _ s l t.1
lines_leave allowed s l (inr t) = rw (t.whole, t.first.is, t.second.is) (tt, (tt, tt))

checked_leaves : (allowed : Bool) (s : Settings) (l : List Access) → Then (Asks offsets.LSR LSR.THR_EMPTY.0 true) (LinesAllow allowed) s l →
    AllLeaveIer l
checked_leaves allowed s l t =
    rw t.whole (each-append LeavesIer t.front t.back (asks_leaves _ _ _ s t.front t.first) (lines_leave allowed s t.back t.second))

hit_leaves : (s : Settings) (l : List Access) → SendHit s l → AllLeaveIer l
hit_leaves s l t = go s.checks t
  where
    go : (checks : Bool) → MatchBool checks (Then (Asks offsets.LSR LSR.THR_EMPTY.0 true) (LinesAllow true) s l)
        (Asks offsets.LSR LSR.THR_EMPTY.0 true s l) → AllLeaveIer l
    go true t = checked_leaves true s l t
    go false t = asks_leaves _ _ _ s l t

miss_leaves : (s : Settings) (l : List Access) → SendMiss s l → AllLeaveIer l
miss_leaves s l (NoCapacity, t) = asks_leaves _ _ _ s l t
miss_leaves s l (RemoteNotClearToSend, t) = go s.checks t
  where
    go : (checks : Bool) → MatchBool checks (Then (Asks offsets.LSR LSR.THR_EMPTY.0 true) (LinesAllow false) s l) ⊥ → AllLeaveIer l
    go true t = checked_leaves false s l t
    go false t = absurd t

writes_leave : (bytes : List ℕ) → AllLeaveIer (data_writes bytes)
writes_leave [] = tt
writes_leave (byte ∷ bytes) = ((refl, refl, refl), writes_leave bytes)

sends_leave : (bytes : List ℕ) (sent : ℕ) (s : Settings) (l : List Access) → Sends bytes sent s l → AllLeaveIer l
sends_leave bytes sent s l (inl (none, unsent, is)) = rw is tt
sends_leave bytes sent s l (inr (inl (some, unsent, t))) = miss_leaves s l t
sends_leave bytes sent s l (inr (inr (some, size, t))) =
    rw (t.whole, t.second.is) (each-append LeavesIer t.front (data_writes (take sent bytes)) (hit_leaves s t.front t.first)
    (writes_leave (take sent bytes)))

hits_leave : (bytes : List ℕ) (s : Settings) (l : List Access) → InOrder Hit bytes s l → AllLeaveIer l
hits_leave [] s l t = rw t.is tt
hits_leave (byte ∷ bytes) s l t =
    let one : AllLeaveIer t.front = rw (t.first.whole, t.first.first.is, t.first.second.is) (tt, (tt, tt)) in
    rw t.whole (each-append LeavesIer t.front t.back one (hits_leave bytes s t.back t.second))

receives_leave : (room : ℕ) (bytes : List ℕ) (s : Settings) (l : List Access) → Receives room bytes s l → AllLeaveIer l
receives_leave room bytes s l (inl (all, t)) = hits_leave bytes s l t
receives_leave room bytes s l (inr (fewer, t)) =
    rw t.whole (each-append LeavesIer t.front t.back (hits_leave bytes s t.front t.first) (asks_leaves _ _ _ s t.back t.second))

-- a read
reads : (offset value : ℕ) (f after : RingFields) (l : List Access) → l ≡ Read offset value ∷ [] → after.is_paused ≡ f.is_paused →
    Keeps f l after
reads offset value f after l is same m n path h =
    let kept = kept_list l (Read offset value ∷ []) m n is path in
    listens_as f.is_paused after.is_paused m n (ap (λ (k : Kept). k.latches.ier) kept) (ap (λ (k : Kept). k.latches.lcr) kept) same h

-- nothing
none : (f after : RingFields) (l : List Access) → l ≡ [] → after.is_paused ≡ f.is_paused → Keeps f l after
none f after l is same m n path h =
    let there = path_as m n l [] is path in
    listens_as f.is_paused after.is_paused m n (ap (λ (k : MachineState). k.chip.latches.ier) there)
    (ap (λ (k : MachineState). k.chip.latches.lcr) there) same h

-- the one, and then the other
both : (G H : RingDoing) → Implies G Keeps → Implies H Keeps → Implies (RingNext G H) Keeps
both G H g h f l after t m n path start =
    let parts = path_split MachineStep m n t.front t.back (path_as m n l (t.front ++ t.back) t.whole path) in
    h t.mid t.back after t.second parts.0 n parts.2 (g f t.front t.mid t.first m parts.0 parts.1 start)

-- ---- IER changes

-- IER is read, and written as this makes of it
record Changed (change : ℕ → ℕ) (m n : MachineState) : Type 0 where
  pub dlab : IsDlabOff n
  pub ier : n.chip.latches.ier ≡ bit_and (change m.chip.latches.ier) ier_bits

changed : (change : ℕ → ℕ) (ier : ℕ) (l : List Access) (m n : MachineState) →
    l ≡ Read offsets.IER ier ∷ Write offsets.IER (change ier) ∷ [] → IsDlabOff m → Path MachineStep m l n → Changed change m n
changed change ier l m n is off path =
    let p = path_as m n l (Read offsets.IER ier ∷ Write offsets.IER (change ier) ∷ []) is path in
    let q = p.2 in
    let shown = ier_answer ier m p.0 off p.1 in
    let first = off_step (Read offsets.IER ier) m p.0 tt off p.1 in
    let second = off_step (Write offsets.IER (change ier)) p.0 q.0 refl first q.1 in
    let kept = kept_step (Write offsets.IER (change ier)) p.0 q.0 q.1 in
    let written : q.0.chip.latches.ier ≡ bit_and (change ier) ier_bits = ap (λ (k : Kept). k.latches.ier) (rw first at kept) in
    record {
      dlab = ap (λ (k : MachineState). is_dlab_set k.chip.latches) q.2 ∙ second;
      ier = ap (λ (k : MachineState). k.chip.latches.ier) q.2 ∙ (written ∙ ap (λ v. bit_and (change v) ier_bits) shown);
    }

-- what is enabled stays so
changes : (change : ℕ → ℕ) (ier : ℕ) (f after : RingFields) (l : List Access) →
    l ≡ Read offsets.IER ier ∷ Write offsets.IER (change ier) ∷ [] →
    ((v : ℕ) → has_any v IER.DATA_READY.0 ≡ true → has_any (change v) IER.DATA_READY.0 ≡ true) → after.is_paused ≡ f.is_paused →
    Keeps f l after
changes change ier f after l is stays same m n path h =
    let c = changed change ier l m n is h.dlab path in
    record {
      dlab = c.dlab;
      enabled = λ on. ap (λ v. has_any v IER.DATA_READY.0) c.ier ∙
          (has_and 0 (change m.chip.latches.ier) ier_bits refl ∙ stays m.chip.latches.ier (h.enabled (sym same ∙ on)));
    }

joined_keeps : (bits v : ℕ) → has_any v IER.DATA_READY.0 ≡ true → has_any (joined_with bits v) IER.DATA_READY.0 ≡ true
joined_keeps bits v on = has_or 0 v bits ∙ ap (λ b. b || has_any bits IER.DATA_READY.0) on

rid_keeps : (v : ℕ) → has_any v IER.DATA_READY.0 ≡ true → has_any (rid_of IER.THR_EMPTY.0 v) IER.DATA_READY.0 ≡ true
rid_keeps v on = has_and 0 v 253 refl ∙ on

-- `retrigger`: IER is as before in the end
retriggered : (f after : RingFields) (l : List Access) (ier : ℕ) → l ≡ status.retrigger_accesses ier → after.is_paused ≡ f.is_paused →
    Keeps f l after
retriggered f after l ier is same m n path h =
    let p = path_as m n l (status.retrigger_accesses ier) is path in
    let q = p.2 in
    let o = q.2 in
    let shown = ier_answer ier m p.0 h.dlab p.1 in
    let first = off_step (Read offsets.IER ier) m p.0 tt h.dlab p.1 in
    let second = off_step (Write offsets.IER 0) p.0 q.0 refl first q.1 in
    let third = off_step (Write offsets.IER ier) q.0 o.0 refl second o.1 in
    let kept = kept_step (Write offsets.IER ier) q.0 o.0 o.1 in
    let written : o.0.chip.latches.ier ≡ bit_and ier ier_bits = ap (λ (k : Kept). k.latches.ier) (rw second at kept) in
    record {
      dlab = ap (λ (k : MachineState). is_dlab_set k.chip.latches) o.2 ∙ third;
      enabled = λ on. ap (λ (k : MachineState). has_any k.chip.latches.ier IER.DATA_READY.0) o.2 ∙
          (ap (λ v. has_any v IER.DATA_READY.0) written ∙ (has_and 0 ier ier_bits refl ∙
          (ap (λ v. has_any v IER.DATA_READY.0) shown ∙ h.enabled (sym same ∙ on))));
    }

-- ---- what the rings do

pub paused_as : (f g : RingFields) → g ≡ f → g.is_paused ≡ f.is_paused
paused_as f g e = ap (λ (k : RingFields). k.is_paused) e

stays : Implies Stays Keeps
stays f l after t = none f after l t.0 (paused_as f after t.1)

arms : (left : List ℕ) (d : Fields) (l : List Access) (e : Fields) → ArmsIfLeft left d l e → (f after : RingFields) →
    after.is_paused ≡ f.is_paused → Keeps f l after
arms [] d l e t f after same = changes (rid_of IER.THR_EMPTY.0) t.0 f after l t.1 rid_keeps same
arms (byte ∷ bytes) d l e t f after same = changes (joined_with IER.THR_EMPTY.0) t.0 f after l t.1 (joined_keeps IER.THR_EMPTY.0) same

pumps : Implies Pumps Keeps
pumps f l after (sent, (t, same)) m n path h =
    let parts = path_split MachineStep m n t.front t.back (path_as m n l (t.front ++ t.back) t.whole path) in
    let leaves = sends_leave (sendable f) sent (settings_of f.driver) t.front t.first.0 in
    let there = spared f f t.front leaves refl m parts.0 parts.1 h in
    arms (sendable (without_sent sent f)) t.mid t.back after.driver t.second f after
    (ap (λ (k : RingFields). k.is_paused) same) parts.0 n parts.2 there

any : {G : RingDoing} (count : ℕ) → Implies G Keeps → Implies (IfAny count G) Keeps
any zero k f l after t = stays f l after t
any (suc n) k f l after t = k f l after t

-- a full receive ring pauses
pauses : Implies PausesIfFull Keeps
pauses f l after t = go (is_full f.receive) t
  where
    go : (full : Bool) → MatchBool full (OnDriver (status.Disables IER.DATA_READY.0) (with_paused true) f l after) (Stays f l after) →
        Keeps f l after
    go true ((ier, is, fields), same) = λ m n path h. record {
      dlab = (changed (rid_of IER.DATA_READY.0) ier l m n is h.dlab path).dlab;
      enabled = λ on. let paused : after.is_paused ≡ true = ap (λ (k : RingFields). k.is_paused) same in
          absurd (false≢true (sym on ∙ paused));
    }
    go false t = stays f l after t

ends_pause : Implies EndsPause Keeps
ends_pause f l after t = go f.is_paused refl t
  where
    go : (paused : Bool) → f.is_paused ≡ paused →
        MatchBool paused (OnDriver (status.Enables IER.DATA_READY.0) (with_paused false) f l after) (Stays f l after) → Keeps f l after
    go true e ((ier, is, fields), same) = λ m n path h.
        let c = changed (joined_with IER.DATA_READY.0) ier l m n is h.dlab path in
        record {
          dlab = c.dlab;
          enabled = λ on. ap (λ v. has_any v IER.DATA_READY.0) c.ier ∙
              (has_and 0 (bit_or m.chip.latches.ier IER.DATA_READY.0) ier_bits refl ∙
              (has_or 0 m.chip.latches.ier IER.DATA_READY.0 ∙ or-true (has_any m.chip.latches.ier IER.DATA_READY.0)));
        }
    go false e t = stays f l after t

receives : (room : ℕ) (bytes : List ℕ) → Implies (OnDriver (Saving (Receives room bytes)) (with_received bytes)) Keeps
receives room bytes f l after t =
    spared f after l (receives_leave room bytes (settings_of f.driver) l t.0.0) (ap (λ (k : RingFields). k.is_paused) t.1)

fills : Implies FillsReceiveRing Keeps
fills f l after (bytes, t) =
    let room = min (characters f.driver.size) (free f.receive) in
    both (OnDriver (Saving (Receives room bytes)) (with_received bytes)) PausesIfFull (receives room bytes) pauses f l after t

sends_on : (room : Bool) → Implies (SendsOnIf room) Keeps
sends_on true f l after (zero, t) =
    spared f after l (sends_leave (sendable f) 0 (settings_of f.driver) l t.0.0) (ap (λ (k : RingFields). k.is_paused) t.1)
sends_on true f l after (suc n, t) = pumps f l after (suc n, t)
sends_on false f l after t = stays f l after t

serves_data : (room : Bool) → Implies (ServesData room) Keeps
serves_data room f l after t = both FillsReceiveRing (SendsOnIf room) fills (sends_on room) f l after t

serves : (sends room left : Bool) (interrupt : InterruptType) → Implies (ServesInterrupt sends room left interrupt) Keeps
serves sends room left interrupts.ReceiverLineStatus f l after (result, told, (t, same)) =
    reads offsets.LSR t.0 f after l t.1 (ap (λ (k : RingFields). k.is_paused) same)
serves sends room left interrupts.ReceivedDataReady f l after (is, t) = serves_data room f l after t
serves sends room left interrupts.ReceptionTimeout f l after (is, t) = serves_data room f l after t
serves sends room left interrupts.TransmitterHoldingRegisterEmpty f l after (is, t) = pumps f l after t
serves sends room left interrupts.ModemStatus f l after (is, (result, (t, same))) =
    reads offsets.MSR t.0 f after l t.1 (ap (λ (k : RingFields). k.is_paused) same)
serves sends room left interrupts.DmaReceptionEndOfTransfer f l after (is, t) = stays f l after t
serves sends room left interrupts.DmaTransmissionEndOfTransfer f l after (is, t) = stays f l after t

shows : (interrupt : Option InterruptType) → Implies (OnDriver (ShowsInterrupt interrupt) unchanged) Keeps
shows interrupt f l after ((isr, only, saved), same) =
    reads offsets.ISR isr f after l saved.0.is (ap (λ (k : RingFields). k.is_paused) same)

serves_one : (sends room left : Bool) → Implies (ServesOne sends room left) Keeps
serves_one sends room left f l after (interrupt, t) =
    both (OnDriver (ShowsInterrupt (Some interrupt)) unchanged) (ServesInterrupt sends room left interrupt) (shows (Some interrupt))
    (serves sends room left interrupt) f l after t

times : (sends : Bool) (n : ℕ) (room left : Bool) → Implies (ServesTimes sends n room left) Keeps
times sends zero room left f l after (is, t) = stays f l after t
times sends (suc n) room left f l after (next, t) =
    both (ServesOne sends room next) (ServesTimes sends n next left) (serves_one sends room next) (times sends n next left) f l after t

stops : (end : HandleEnd) → Implies (Stops end) Keeps
stops Idle f l after ((isr, only, idle, saved), same) =
    reads offsets.ISR isr f after l saved.0.is (ap (λ (k : RingFields). k.is_paused) same)
stops Unknown f l after ((isr, only, idle, saved), same) =
    reads offsets.ISR isr f after l saved.0.is (ap (λ (k : RingFields). k.is_paused) same)
stops Limit f l after t = stays f l after t

pub retriggers : Implies Retriggers Keeps
retriggers f l after (((ier, is), saved), same) = retriggered f after l ier is (ap (λ (k : RingFields). k.is_paused) same)

sends_and_retriggers : (room : Bool) → Implies (SendsAndRetriggers room) Keeps
sends_and_retriggers room f l after t = both (SendsOnIf room) Retriggers (sends_on room) retriggers f l after t

unless_idle : (room : Bool) (end : HandleEnd) → Implies (RetriggersUnlessIdle room end) Keeps
unless_idle room Idle f l after t = stays f l after t
unless_idle room Unknown f l after t = sends_and_retriggers room f l after t
unless_idle room Limit f l after t = sends_and_retriggers room f l after t

serves_up_to : (sends : Bool) (limit : ℕ) (handled : Handled) (room : Bool) → Implies (ServesUpTo sends limit handled room) Keeps
serves_up_to sends limit handled room f l after (within, t) =
    both (ServesTimes sends handled.served false room) (Stops handled.end) (times sends handled.served false room) (stops handled.end)
    f l after t

pub handles : (limit : ℕ) (handled : Handled) → Implies (Handles limit handled) Keeps
handles limit handled f l after (room, t) =
    both (ServesUpTo true limit handled room) (RetriggersUnlessIdle room handled.end) (serves_up_to true limit handled room)
    (unless_idle room handled.end) f l after t

pub services : (count : ℕ) → Implies (Services count) Keeps
services count f l after (end, room, t) =
    serves_up_to false MAX_INTERRUPTS (record { served = count; end = end }) room f l after t

-- ---- the other calls

-- fields of the rings are changed
sets : (change : RingFields → RingFields) (f : RingFields) (l : List Access) (after : RingFields) →
    (change f).is_paused ≡ f.is_paused → RingSets change f l after → Keeps f l after
sets change f l after same t = none f after l t.0 (ap (λ (k : RingFields). k.is_paused) t.1 ∙ same)

pub queues : (bytes : List ℕ) (count : ℕ) → Implies (Queues bytes count) Keeps
queues bytes count f l after (is, t) = any count pumps (with_queued (take count bytes) f) l after t

pub resumes : Implies ResumesTransmit Keeps
resumes f l after t = any (length (waiting f)) pumps f l after t

pub holds : Implies Holds Keeps
holds f l after t = sets (with_hold true) f l after refl t

pub releases : Implies Releases Keeps
releases f l after t = resumes (with_hold false f) l after t

pub queues_urgent : (byte : ℕ) (replaced : Option ℕ) → Implies (QueuesUrgent byte replaced) Keeps
queues_urgent byte replaced f l after t = pumps (with_urgent (Some byte) f) l after t.1

pub clears_transmit : (count : ℕ) → Implies (ClearsTransmit count) Keeps
clears_transmit count f l after t = sets cleared f l after refl t.1

pub clears_receive : (count : ℕ) → Implies (ClearsReceive count) Keeps
clears_receive count f l after t = any count ends_pause (without_taken count f) l after t.1

pub takes : (slots : ℕ) (bytes : List ℕ) → Implies (TakesBytes slots bytes) Keeps
takes slots bytes f l after (is, t) = any (length bytes) ends_pause (without_taken (length bytes) f) l after t

pub sets_low_mark : (mark : ℕ) → Implies (SetsLowMark mark) Keeps
sets_low_mark mark f l after t = sets (with_low_mark mark) f l after refl t

pub takes_low : (low : Bool) → Implies (TakesLow low) Keeps
takes_low low f l after t = sets (with_low false) f l after refl t.1

pub takes_line : (line : ℕ) → Implies (TakesLine line) Keeps
takes_line line f l after (result, told, (t, same)) =
    reads offsets.LSR t.0 f after l t.1 (ap (λ (k : RingFields). k.is_paused) same)

pub takes_modem : (modem : ℕ) → Implies (TakesModem modem) Keeps
takes_modem modem f l after (result, told, (t, same)) =
    reads offsets.MSR t.0 f after l t.1 (ap (λ (k : RingFields). k.is_paused) same)

-- `try_handle`, unless the chip is found stuck
looks_again : Implies (LooksOnceMore None) Keeps
looks_again f l after ((isr, only, idle, saved), same) =
    reads offsets.ISR isr f after l saved.0.is (ap (λ (k : RingFields). k.is_paused) same)

abbrev not_found : Option StuckError
not_found = None

counts_unfinished : (rounds : ℕ) → Implies (CountsUnfinished rounds None) Keeps
counts_unfinished rounds f l after t = go (nat_lt (suc f.rounds) rounds) t
  where
    go : (more : Bool) →
        MatchBool more ((not_found ≡ not_found) × RingSets (with_rounds (suc f.rounds)) f l after) (LooksOnceMore None f l after) →
        Keeps f l after
    go true t = sets (with_rounds (suc f.rounds)) f l after refl t.1
    go false t = looks_again f l after t

counts : (rounds : ℕ) (end : HandleEnd) → Implies (CountsRound rounds end None) Keeps
counts rounds Idle f l after t = sets (with_rounds 0) f l after refl t.1
counts rounds Unknown f l after t = counts_unfinished rounds f l after t
counts rounds Limit f l after t = counts_unfinished rounds f l after t

pub tries : (limit rounds : ℕ) (result : Result Handled StuckError) → ((error : StuckError) → result ≡ Err error → ⊥) →
    Implies (TriesToHandle limit rounds result) Keeps
tries limit rounds result works f l after t = go f.stuck t
  where
    done : (handled : Handled) (found : Option StuckError) → result ≡ unless_stuck handled found → found ≡ None
    done handled None is = refl
    done handled (Some error) is = absurd (works error is)

    go : (was : Option StuckError) → MatchOption was (HandlesRound (round_limit limit) rounds result f l after)
        (λ error. StaysStuck result error f l after) → Keeps f l after
    go None (handled, found, is, t) = λ m n path h.
        let end = counts_as (has_moved f t.mid) handled.end in
        let C : Option StuckError → Type 0 = λ o. CountsRound rounds end o t.mid t.back after in
        let parts = path_split MachineStep m n t.front t.back (path_as m n l (t.front ++ t.back) t.whole path) in
        counts rounds end t.mid t.back after (subst C (done handled found is) t.second) parts.0 n parts.2
        (handles (round_limit limit) handled f t.front t.mid t.first m parts.0 parts.1 h)
    go (Some error) t = absurd (works error t.0)

pub restarts : (bits : ℕ) → Implies (Restarts bits) Keeps
restarts bits f l after t =
    both (OnDriver (status.Enables (not_paused f.is_paused bits)) restarted) ResumesTransmit enables resumes f l after t
  where
    enables : Implies (OnDriver (status.Enables (not_paused f.is_paused bits)) restarted) Keeps
    enables g k end ((ier, is, fields), same) =
        changes (joined_with (not_paused f.is_paused bits)) ier g end k is (joined_keeps (not_paused f.is_paused bits))
        (ap (λ (k : RingFields). k.is_paused) same)

rts_leave : (shown on : Bool) (mcr : ℕ) →
    AllLeaveIer (Read offsets.MCR mcr ∷ write_if_other shown on (Write offsets.MCR (unlooped (switched on MCR.RTS.0 mcr))))
rts_leave true true mcr = (tt, tt)
rts_leave false false mcr = (tt, tt)
rts_leave true false mcr = (tt, ((refl, refl, refl), tt))
rts_leave false true mcr = (tt, ((refl, refl, refl), tt))

rts : (wanted : Option Bool) → Implies (MakesRtsIfAny wanted) Keeps
rts None f l after t = stays f l after t
rts (Some on) f l after (((mcr, is), saved), same) =
    let S : List Access → Type 0 = λ k. AllLeaveIer k in
    spared f after l (subst S (sym is) (rts_leave (has mcr MCR.RTS.0) on mcr)) (ap (λ (k : RingFields). k.is_paused) same)

pub adjusts_rts : (marks : ReceiveMarks) → Implies (AdjustsRts marks) Keeps
adjusts_rts marks f l after t = rts (rts_at marks (free f.receive)) f l after t

tells : (wanted : Option Bool) (told : Option ℕ) → Implies (TellsIfAny wanted told) Keeps
tells None told f l after t = stays f l after t.1
tells (Some on) told f l after t = queues_urgent (flow_character on) None (with_told_xoff (not on) f) l after t.1

pub adjusts_xoff : (marks : ReceiveMarks) (told : Option ℕ) → Implies (AdjustsXoff marks told) Keeps
adjusts_xoff marks told f l after t = tells (at_marks marks f) told f l after t

obeys : (told : Option ℕ) → Implies (Obeys told) Keeps
obeys None f l after t = stays f l after t
obeys (Some byte) f l after t = go (byte == xon) t
  where
    go : (on : Bool) → MatchBool on (Releases f l after) (Holds f l after) → Keeps f l after
    go true t = releases f l after t
    go false t = holds f l after t

pub obeys_xoff : (told : Option ℕ) → Implies (ObeysXoff told) Keeps
obeys_xoff told f l after t = obeys told (looked f) l after t.1

-- the events up to a Mark
pub mark_listens : (is_paused : Bool) (m n : MachineState) → n ≡ at_mark m → Listens is_paused m → Listens is_paused n
mark_listens is_paused m n is h =
    let kept = kept-before_mark m.ahead m.chip in
    listens_as is_paused is_paused m n
    (ap (λ (o : MachineState). o.chip.latches.ier) is ∙ ap (λ (k : Kept). k.latches.ier) kept)
    (ap (λ (o : MachineState). o.chip.latches.lcr) is ∙ ap (λ (k : Kept). k.latches.lcr) kept) refl h
