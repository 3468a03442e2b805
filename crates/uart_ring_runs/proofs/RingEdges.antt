-- That `handle` and `retrigger` lose no edge of the interrupt line.
use Rattle.uart_ring_runs.proofs.Names.{◌≡◌, ◌⊎◌, ◌<◌, arith, ℕ, Bool, true, false, List, [], ◌∷◌, ◌++◌, inl, inr, refl, sym, ◌∙◌, ap}
use Rattle.uart_ring_runs.proofs.Names.{subst, Option, Some, None, Result, Ok, Err, MatchBool, suc, nat_lt, is_some, MatchOption}
use Rattle.uart_ring_runs.proofs.Names.{and_zero_r, false≢true, Path, Access, Read, Write, has, IsOnlyIfAny, Identifies, InterruptType}
use Rattle.uart_ring_runs.proofs.Names.{Fields, ChipState, interrupt, enable, isr_of, MachineState, MachineStep, at_access, RingDoing}
use Rattle.uart_ring_runs.proofs.Names.{RingDid, RingFields, RingNext, RingSets, with_rounds, every_bit, TurnsOff, LooksOnceMore}
use Rattle.uart_ring_runs.proofs.Names.{CountsUnfinished, CountsRound, HandlesRound, StaysStuck, TriesToHandle, unless_stuck, counts_as}
use Rattle.uart_ring_runs.proofs.Names.{has_moved, round_limit, StuckError, ServesTimes, Stops, IsWithin, Services, MAX_INTERRUPTS}
use Rattle.uart_ring_runs.proofs.Names.{Retriggers, RetriggersUnlessIdle, Handles, HandleEnd, Idle, Unknown, Limit, Handled, RingState}
use Rattle.uart_ring_runs.proofs.Names.{ring_machine, RingLink, RingChain, path_as, shows_64, rid_of, SendsAndRetriggers}
use Rattle.uart_spec.specs.declared.registers.interrupt_status.TheConstants.ISR
use Rattle.uart_spec.specs.declared.registers.interrupt_type.InterruptType.TheVariants as interrupts
use Rattle.uart_spec.specs.declared.registers.offsets.TheConstants as offsets
use Rattle.uart_16550.specs.Status as status
use Rattle.uart_ring_runs.specs.Edges.{is_line_up, IsDownDuring, RisesDuring, LosesNoEdge, RisesInCalls}
use Rattle.uart_ring_runs.proofs.RingWalk as walk
use Rattle.uart_ring_runs.proofs.RingBlocks.{AllLeaveLcr, MakesBlocks, in_blocks}
use Rattle.uart_ring.proofs.RingDoings.{then_later}
use Rattle.uart_ring_runs.proofs.RingDue.{IsDlabOff, off_access, off_step}

-- ---- low, and then high

up_after : (l : List Access) (m n : MachineState) (p : Path MachineStep m l n) → is_line_up m ≡ false → is_line_up n ≡ true →
    RisesDuring l m n p
up_after [] m n p down up = absurd (false≢true (sym down ∙ (ap is_line_up (sym p) ∙ up)))
up_after (access ∷ l) m n p down up = go (is_line_up p.0) refl (λ still. up_after l p.0 n p.2 still up)
  where
    go : (b : Bool) → is_line_up p.0 ≡ b → (is_line_up p.0 ≡ false → RisesDuring l p.0 n p.2) → RisesDuring (access ∷ l) m n p
    go true e later = inl (down, e)
    go false e later = inr (later e)

rises : (l : List Access) (m n : MachineState) (p : Path MachineStep m l n) → IsDownDuring l m n p → is_line_up n ≡ true →
    RisesDuring l m n p
rises [] m n p down up = absurd (false≢true (sym down ∙ up))
rises (access ∷ l) m n p (inl down) up = up_after (access ∷ l) m n p down up
rises (access ∷ l) m n p (inr later) up = inr (rises l p.0 n p.2 later up)

-- ---- parts of a list

-- the line was low during the last of two lists
down_later : (l k : List Access) (m n : MachineState) (p : Path MachineStep m (l ++ k) n) → AllLeaveLcr l → IsDlabOff m →
    ((o : MachineState) (q : Path MachineStep o k n) → IsDlabOff o → IsDownDuring k o n q) → IsDownDuring (l ++ k) m n p
down_later [] k m n p leaves off h = h m p off
down_later (access ∷ l) k m n p leaves off h =
    inr (down_later l k p.0 n p.2 leaves.1 (off_step access m p.0 leaves.0 off p.1) h)

-- whatever the path
abbrev AlwaysDown : List Access → Type 0
AlwaysDown l = (m n : MachineState) (p : Path MachineStep m l n) → IsDlabOff m → IsDownDuring l m n p

always_later : (l k : List Access) → AllLeaveLcr l → AlwaysDown k → AlwaysDown (l ++ k)
always_later l k leaves h m n p off = down_later l k m n p leaves off (λ o q. h o n q)

-- ---- what makes the line low

-- IER is 0
enabled_none : (c : ChipState) → is_some (interrupt (enable 0 c)) ≡ false
enabled_none c = refl

retriggers_down : (ier : ℕ) → AlwaysDown (status.retrigger_accesses ier)
retriggers_down ier m n p off =
    let read = off_step (Read offsets.IER ier) m p.0 tt off p.1 in
    let at = off_access p.0 read in
    let down : is_line_up p.2.0 ≡ false = rw (p.2.1, at) (enabled_none (at_access p.0).chip) in
    inr (inr (inl down))

-- ISR showed that no interrupt is pending
idle_none : (i : Option InterruptType) (fifo holds_64 : Bool) → has (isr_of fifo holds_64 i) ISR.INTERRUPT_STATUS.0 ≡ true → i ≡ None
idle_none None fifo holds_64 h = refl
idle_none (Some interrupts.ReceiverLineStatus) true true h = absurd (false≢true h)
idle_none _ true true h = absurd (false≢true h)
idle_none (Some interrupts.ReceiverLineStatus) true false h = absurd (false≢true h)
idle_none _ true false h = absurd (false≢true h)
idle_none (Some interrupts.ReceiverLineStatus) false holds_64 h = absurd (false≢true h)
idle_none _ false holds_64 h = absurd (false≢true h)

idle_read : (isr : ℕ) (m n : MachineState) → has isr ISR.INTERRUPT_STATUS.0 ≡ true → MachineStep m (Read offsets.ISR isr) n →
    is_line_up n ≡ false
idle_read isr m n idle s =
    let c = (at_access m).chip in
    let none : interrupt c ≡ None = idle_none (interrupt c) c.fifo (shows_64 c) (rw s.1 at idle) in
    rw (s.0, none) (ap is_some none)

idle_down : (isr : ℕ) → has isr ISR.INTERRUPT_STATUS.0 ≡ true → AlwaysDown (Read offsets.ISR isr ∷ [])
idle_down isr idle m n p off =
    let down : is_line_up p.0 ≡ false = idle_read isr m p.0 idle p.1 in
    inr (ap is_line_up p.2 ∙ down)

-- the last access left the line low
down_last : (l k : List Access) (m n : MachineState) → Path MachineStep m (l ++ k) n →
    ((o : MachineState) → Path MachineStep o k n → is_line_up n ≡ false) → is_line_up n ≡ false
down_last [] k m n p h = h m p
down_last (access ∷ l) k m n p h = down_last l k p.0 n p.2 h

-- ---- the calls

pub retrigger_down : (f : RingFields) (l : List Access) (after : RingFields) → Retriggers f l after → AlwaysDown l
retrigger_down f l after (((ier, is), saved), same) = subst AlwaysDown (sym is) (retriggers_down ier)

sends_and_retriggers_down : (room : Bool) (f : RingFields) (l : List Access) (after : RingFields) → SendsAndRetriggers room f l after →
    AlwaysDown l
sends_and_retriggers_down room f l after t =
    let leaves : AllLeaveLcr t.front = (walk.sends_on MakesBlocks in_blocks room f t.front t.mid t.first).lcr in
    subst AlwaysDown (sym t.whole) (always_later t.front t.back leaves (retrigger_down t.mid t.back after t.second))

-- how a `handle` ends, after what it served
abbrev Ends : (room : Bool) → HandleEnd → RingDoing
Ends room end = RingNext (Stops end) (RetriggersUnlessIdle room end)

-- what it served, and then how it ends
abbrev Served : (room : Bool) → Handled → RingDoing
Served room handled = RingNext (ServesTimes true handled.served false room) (Ends room handled.end)

handled_later : (limit : ℕ) (handled : Handled) (f : RingFields) (l : List Access) (after : RingFields) → Handles limit handled f l after →
    (room : Bool) × Served room handled f l after
handled_later limit handled f l after (room, t) = (
  room,
  then_later (ServesTimes true handled.served false room) (Stops handled.end) (RetriggersUnlessIdle room handled.end) f l after
      (record { front = t.front; back = t.back; mid = t.mid; whole = t.whole; first = t.first.1; second = t.second }),
)

-- one read of ISR, which showed that no interrupt is pending
idle_list : (room : Bool) (f : RingFields) (l : List Access) (after : RingFields) → Ends room Idle f l after →
    (isr : ℕ) × (has isr ISR.INTERRUPT_STATUS.0 ≡ true) × (l ≡ Read offsets.ISR isr ∷ [])
idle_list room f l after t =
    let shown = t.first.0 in
    (shown.0, shown.2, rw (shown.3.0.is, t.second.0) at t.whole)

-- ISR of the chip names each interrupt that is pending
pub named : (i : InterruptType) (fifo holds_64 : Bool) → Identifies (isr_of fifo holds_64 (Some i)) i
named interrupts.ReceiverLineStatus true true = (refl, refl)
named _ true true = (refl, refl)
named interrupts.ReceiverLineStatus true false = (refl, refl)
named _ true false = (refl, refl)
named interrupts.ReceiverLineStatus false holds_64 = (refl, refl)
named _ false holds_64 = (refl, refl)

-- so it never shows one without a name
pub none_unknown : (isr : ℕ) (m n : MachineState) → IsOnlyIfAny (Identifies isr) None → has isr ISR.INTERRUPT_STATUS.0 ≡ false →
    MachineStep m (Read offsets.ISR isr) n → ⊥
none_unknown isr m n none bit s = by (interrupt c) c.fifo (shows_64 c) (rw s.1 at none) (rw s.1 at bit)
  where
    c : ChipState
    c = (at_access m).chip

    by : (i : Option InterruptType) (fifo holds_64 : Bool) → IsOnlyIfAny (Identifies (isr_of fifo holds_64 i)) None →
        has (isr_of fifo holds_64 i) ISR.INTERRUPT_STATUS.0 ≡ false → ⊥
    by None true true none bit = cc (bit)
    by None true false none bit = cc (bit)
    by None false holds_64 none bit = cc (bit)
    by (Some i) fifo holds_64 none bit = let e = (none i).1 (named i fifo holds_64) in cc (e)

-- after a `service` of fewer interrupts than it serves at most the line is low
pub serviced_down : (count : ℕ) (f : RingFields) (l : List Access) (after : RingFields) → Services count f l after →
    count < MAX_INTERRUPTS → (m n : MachineState) → Path MachineStep m l n → is_line_up n ≡ false
serviced_down count f l after (end, room, (within, t)) few m n path =
    let P : List Access → Type 0 = λ k. Path MachineStep m k n in
    down_last t.front t.back m n (subst P t.whole path) (λ o p. by end within t.second o p)
  where
    by : (end : HandleEnd) → IsWithin MAX_INTERRUPTS count end → Stops end t.mid t.back after → (o : MachineState) →
        Path MachineStep o t.back n → is_line_up n ≡ false
    by Idle within h o p =
        let s = h.0 in
        let q = subst (λ k. Path MachineStep o k n) s.3.0.is p in ap is_line_up q.2 ∙ idle_read s.0 o q.0 s.2 q.1
    by Unknown within h o p =
        let s = h.0 in
        let q = subst (λ k. Path MachineStep o k n) s.3.0.is p in absurd (none_unknown s.0 o q.0 s.1 s.2 q.1)
    by Limit within h o p = absurd (omega (arith, within, few))

-- after a `handle` that ended so the line is low
pub handled_down : (limit : ℕ) (handled : Handled) (f : RingFields) (l : List Access) (after : RingFields) →
    Handles limit handled f l after → handled.end ≡ Idle → (m n : MachineState) → Path MachineStep m l n → is_line_up n ≡ false
handled_down limit handled f l after t idle m n path =
    let both = handled_later limit handled f l after t in
    let room = both.0 in
    let h = both.1 in
    let E : HandleEnd → Type 0 = λ end. Ends room end h.mid h.back after in
    let last = idle_list room h.mid h.back after (subst E idle h.second) in
    let P : List Access → Type 0 = λ k. Path MachineStep m k n in
    down_last h.front h.back m n (subst P h.whole path) (λ o p. shown last.0 last.1 o (subst (λ k. Path MachineStep o k n) last.2 p))
  where
    shown : (isr : ℕ) → has isr ISR.INTERRUPT_STATUS.0 ≡ true → (o : MachineState) → Path MachineStep o (Read offsets.ISR isr ∷ []) n →
        is_line_up n ≡ false
    shown isr bit o p = ap is_line_up p.2 ∙ idle_read isr o p.0 bit p.1

ends_down : (room : Bool) (end : HandleEnd) (f : RingFields) (l : List Access) (after : RingFields) → Ends room end f l after → AlwaysDown l
ends_down room Idle f l after t =
    let read = idle_list room f l after t in subst AlwaysDown (sym read.2) (idle_down read.0 read.1)
ends_down room Unknown f l after t =
    let leaves : AllLeaveLcr t.front = rw t.first.0.3.0.is (tt, tt) in
    subst AlwaysDown (sym t.whole) (always_later t.front t.back leaves (sends_and_retriggers_down room t.mid t.back after t.second))
ends_down room Limit f l after t =
    let none : AllLeaveLcr t.front = rw t.first.0 tt in
    subst AlwaysDown (sym t.whole) (always_later t.front t.back none (sends_and_retriggers_down room t.mid t.back after t.second))

pub handles_down : (limit : ℕ) (handled : Handled) (f : RingFields) (l : List Access) (after : RingFields) →
    Handles limit handled f l after → AlwaysDown l
handles_down limit handled f l after t =
    let both = handled_later limit handled f l after t in
    let room = both.0 in
    let u = both.1 in
    let leaves : AllLeaveLcr u.front = (walk.times MakesBlocks in_blocks true handled.served false room f u.front u.mid u.first).lcr in
    subst AlwaysDown (sym u.whole)
    (always_later u.front u.back leaves (ends_down room handled.end u.mid u.back after u.second))

-- ---- calls after it

rises_in_calls : (t u : RingState) (later : List RingLink) → RingChain t later u → is_line_up (ring_machine t) ≡ false →
    is_line_up (ring_machine u) ≡ true → RisesInCalls later
rises_in_calls t u [] h down up = absurd (false≢true (sym down ∙ (ap (λ (v : RingState). is_line_up (ring_machine v)) (sym h) ∙ up)))
rises_in_calls t u (link ∷ links) h down up =
    go (is_line_up (ring_machine link.after)) refl (λ still. rises_in_calls link.after u links h.2 still up)
  where
    go : (b : Bool) → is_line_up (ring_machine link.after) ≡ b → (is_line_up (ring_machine link.after) ≡ false → RisesInCalls links) →
        RisesInCalls (link ∷ links)
    go true e rest = inl (ap (λ (v : RingState). is_line_up (ring_machine v)) h.0 ∙ down, e)
    go false e rest = inr (rest e)

-- the call was made so, and the line was low meanwhile
no_edge_lost : (l : List Access) (s t : RingState) (p : Path MachineStep (ring_machine s) l (ring_machine t)) →
    IsDownDuring l (ring_machine s) (ring_machine t) p → LosesNoEdge l s t p
no_edge_lost l s t p down = record {
  was_down = down;
  has_risen = λ calls u chain up. go calls u chain up (is_line_up (ring_machine t)) refl;
}
  where
    go : (calls : List RingLink) (u : RingState) → RingChain t calls u → is_line_up (ring_machine u) ≡ true → (b : Bool) →
        is_line_up (ring_machine t) ≡ b → RisesDuring l (ring_machine s) (ring_machine t) p ⊎ RisesInCalls calls
    go calls u chain up true e = inl (rises l (ring_machine s) (ring_machine t) p down e)
    go calls u chain up false e = inr (rises_in_calls t u calls chain e up)

-- ---- the law

pub retrigger_loses_no_edge : (s t : RingState) → IsDlabOff (ring_machine s) → (did : RingDid MachineStep Retriggers s t) →
    LosesNoEdge did.list s t did.path
retrigger_loses_no_edge s t off did =
    no_edge_lost did.list s t did.path (retrigger_down _ did.list _ did.does (ring_machine s) (ring_machine t) did.path off)

pub handle_loses_no_edge : (limit : ℕ) (handled : Handled) (s t : RingState) → IsDlabOff (ring_machine s) →
    (did : RingDid MachineStep (Handles limit handled) s t) → LosesNoEdge did.list s t did.path
handle_loses_no_edge limit handled s t off did =
    no_edge_lost did.list s t did.path
    (handles_down limit handled _ did.list _ did.does (ring_machine s) (ring_machine t) did.path off)

idle_last : (room : Bool) (end : HandleEnd) → end ≡ Idle → (f : RingFields) (l : List Access) (after : RingFields) →
    Ends room end f l after →
    (m n : MachineState) → Path MachineStep m l n → is_line_up n ≡ false
idle_last room Idle e f l after t m n p =
    let read = idle_list room f l after t in
    let q : Path MachineStep m (Read offsets.ISR read.0 ∷ []) n = path_as m n l (Read offsets.ISR read.0 ∷ []) read.2 p in
    ap is_line_up q.2 ∙ idle_read read.0 m q.0 read.1 q.1
idle_last room Unknown e f l after t m n p = absurd (cc)
idle_last room Limit e f l after t m n p = absurd (cc)

pub idle_is_down : (limit : ℕ) (handled : Handled) (s t : RingState) → handled.end ≡ Idle →
    RingDid MachineStep (Handles limit handled) s t → is_line_up (ring_machine t) ≡ false
idle_is_down limit handled s t idle did =
    let both = handled_later limit handled _ did.list _ did.does in
    let served = both.1 in
    down_last served.front served.back (ring_machine s) (ring_machine t)
    (path_as (ring_machine s) (ring_machine t) did.list (served.front ++ served.back) served.whole did.path)
    (λ o q. idle_last both.0 handled.end idle served.mid served.back _ served.second o (ring_machine t) q)

-- ---- storms

-- the path of the first of two lists
abbrev front_path : (l k : List Access) (m n : MachineState) → Path MachineStep m (l ++ k) n →
    (o : MachineState) × Path MachineStep m l o
front_path [] k m n p = (m, refl)
front_path (access ∷ l) k m n p =
    let rest = front_path l k p.0 n p.2 in
    (rest.0, (p.0, p.1, rest.1))

down_first : (k : List Access) (m n : MachineState) (p : Path MachineStep m k n) → is_line_up m ≡ false → IsDownDuring k m n p
down_first [] m n p down = ap is_line_up p ∙ down
down_first (access ∷ k) m n p down = inl down

down_front : (l k : List Access) (m n : MachineState) (p : Path MachineStep m (l ++ k) n) →
    IsDownDuring l m (front_path l k m n p).0 (front_path l k m n p).1 → IsDownDuring (l ++ k) m n p
down_front [] k m n p h = down_first k m n p h
down_front (access ∷ l) k m n p (inl h) = inl h
down_front (access ∷ l) k m n p (inr h) = inr (down_front l k p.0 n p.2 h)

always_first : (l k : List Access) → AlwaysDown l → AlwaysDown (l ++ k)
always_first l k h m n p off = down_front l k m n p (h m (front_path l k m n p).0 (front_path l k m n p).1 off)

-- IER is written with none of its bits, last of all
off_last : (ier : ℕ) (m n : MachineState) → Path MachineStep m (Read offsets.IER ier ∷ Write offsets.IER (rid_of every_bit ier) ∷ []) n →
    IsDlabOff m → is_line_up n ≡ false
off_last ier m n p off =
    let read = off_step (Read offsets.IER ier) m p.0 tt off p.1 in
    let at = off_access p.0 read in
    let zero : rid_of every_bit ier ≡ 0 = and_zero_r ier in
    let down : is_line_up p.2.0 ≡ false = rw (p.2.1, at, zero) (enabled_none (at_access p.0).chip) in
    ap is_line_up p.2.2 ∙ down

-- whatever the path, the line is low in the end
abbrev LastDown : List Access → Type 0
LastDown l = (m n : MachineState) → Path MachineStep m l n → IsDlabOff m → is_line_up n ≡ false

last_later : (l k : List Access) → AllLeaveLcr l → LastDown k → LastDown (l ++ k)
last_later [] k leaves h m n p off = h m n p off
last_later (access ∷ l) k leaves h m n p off =
    last_later l k leaves.1 h p.0 n p.2 (off_step access m p.0 leaves.0 off p.1)

last_always : (l : List Access) → LastDown l → AlwaysDown l
last_always l h m n p off = go l m n p (h m n p off)
  where
    go : (l : List Access) (m n : MachineState) (p : Path MachineStep m l n) → is_line_up n ≡ false → IsDownDuring l m n p
    go [] m n p down = down
    go (access ∷ l) m n p down = inr (go l p.0 n p.2 down)

turns_off_last : (f : Fields) (l : List Access) (after : Fields) → TurnsOff f l after → LastDown l
turns_off_last f l after (ier, is, changed) = subst LastDown (sym is) (off_last ier)

-- the chip was found stuck
looks_last : (error : StuckError) (f : RingFields) (l : List Access) (after : RingFields) → LooksOnceMore (Some error) f l after →
    LastDown l
looks_last error f l after t =
    let leaves : AllLeaveLcr t.front = rw t.first.0.2.0.is (tt, tt) in
    subst LastDown (sym t.whole) (last_later t.front t.back leaves (turns_off_last t.mid.driver t.back after.driver t.second.0))

unfinished_last : (rounds : ℕ) (error : StuckError) (f : RingFields) (l : List Access) (after : RingFields) →
    CountsUnfinished rounds (Some error) f l after → LastDown l
unfinished_last rounds error f l after t = go (nat_lt (suc f.rounds) rounds) t
  where
    go : (more : Bool) → MatchBool more ((Some error ≡ None) × RingSets (with_rounds (suc f.rounds)) f l after)
        (LooksOnceMore (Some error) f l after) → LastDown l
    go true t = absurd (let e = t.0 in cc)
    go false t = looks_last error f l after t

counts_last : (rounds : ℕ) (end : HandleEnd) (error : StuckError) (f : RingFields) (l : List Access) (after : RingFields) →
    CountsRound rounds end (Some error) f l after → LastDown l
counts_last rounds Idle error f l after t = absurd (let e = t.0 in cc)
counts_last rounds Unknown error f l after t = unfinished_last rounds error f l after t
counts_last rounds Limit error f l after t = unfinished_last rounds error f l after t

tries_last : (limit rounds : ℕ) (result : Result Handled StuckError) (error : StuckError) → result ≡ Err error →
    (f : RingFields) (l : List Access) (after : RingFields) → TriesToHandle limit rounds result f l after → LastDown l
tries_last limit rounds result error e f l after t = go f.stuck t
  where
    found_is : (handled : Handled) (found : Option StuckError) → result ≡ unless_stuck handled found → found ≡ Some error
    found_is handled None is = absurd (let both : Ok handled ≡ Err error = sym is ∙ e in cc)
    found_is handled (Some other) is = let both : Err other ≡ Err error = sym is ∙ e in cc

    go : (was : Option StuckError) → MatchOption was (HandlesRound (round_limit limit) rounds result f l after)
        (λ error. StaysStuck result error f l after) → LastDown l
    go None (handled, found, is, t) =
        let leaves : AllLeaveLcr t.front = (walk.handles MakesBlocks in_blocks (round_limit limit) handled f t.front t.mid t.first).lcr in
        let end = counts_as (has_moved f t.mid) handled.end in
        let F : Option StuckError → Type 0 = λ o. CountsRound rounds end o t.mid t.back after in
        subst LastDown (sym t.whole) (last_later t.front t.back leaves
        (counts_last rounds end error t.mid t.back after (subst F (found_is handled found is) t.second)))
    go (Some other) t = turns_off_last f.driver l after.driver t.1.0

pub tries_down : (limit rounds : ℕ) (result : Result Handled StuckError) (f : RingFields) (l : List Access) (after : RingFields) →
    TriesToHandle limit rounds result f l after → AlwaysDown l
tries_down limit rounds result f l after t = go f.stuck t
  where
    go : (was : Option StuckError) → MatchOption was (HandlesRound (round_limit limit) rounds result f l after)
        (λ error. StaysStuck result error f l after) → AlwaysDown l
    go None (handled, found, is, t) =
        subst AlwaysDown (sym t.whole) (always_first t.front t.back (handles_down (round_limit limit) handled f t.front t.mid t.first))
    go (Some other) t = last_always l (turns_off_last f.driver l after.driver t.1.0)

pub try_handle_loses_no_edge : (limit rounds : ℕ) (result : Result Handled StuckError) (s t : RingState) → IsDlabOff (ring_machine s) →
    (did : RingDid MachineStep (TriesToHandle limit rounds result) s t) → LosesNoEdge did.list s t did.path
try_handle_loses_no_edge limit rounds result s t off did =
    no_edge_lost did.list s t did.path
    (tries_down limit rounds result _ did.list _ did.does (ring_machine s) (ring_machine t) did.path off)

pub stuck_is_down : (limit rounds : ℕ) (error : StuckError) (s t : RingState) → IsDlabOff (ring_machine s) →
    RingDid MachineStep (TriesToHandle limit rounds (Err error)) s t → is_line_up (ring_machine t) ≡ false
stuck_is_down limit rounds error s t off did =
    tries_last limit rounds (Err error) error refl _ did.list _ did.does (ring_machine s) (ring_machine t) did.path off
