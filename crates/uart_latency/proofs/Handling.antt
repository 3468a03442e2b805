-- A `handle` is told the receiver's interrupt first, behind at most one line error, and then reads all that waits, or a whole FIFO.
use Rattle.uart_latency.proofs.Names.{◌≡◌, ℕ, zero, suc, ◌+◌, ◌-◌, ◌*◌, ◌≤◌, ◌<◌, ◌⊎◌, inl, inr, Bool, true, false, nat_le, List, [], ◌∷◌}
use Rattle.uart_latency.proofs.Names.{◌++◌, length, refl, sym, ◌∙◌, ap, subst, arith, append_assoc, append-nil, Option, Some, None, min, Ok}
use Rattle.uart_latency.proofs.Names.{MatchOption, nat_tests, common_steps, Path, has_any, Access, Read, Settings, InOrder, Hit, Receives}
use Rattle.uart_latency.proofs.Names.{MachineState, MachineStep, at_access, has_one, ChipState, interrupt, ReceiverState, characters_of}
use Rattle.uart_latency.proofs.Names.{is_data_pending, path_as, Kept, kept_access, IsOnlyIfAny, characters, InterruptType, RingFields}
use Rattle.uart_latency.proofs.Names.{free, FillsReceiveRing, mul-le-mul_right, ServesData, ServesInterrupt, ServesLine, ServesTimes, Stops}
use Rattle.uart_latency.proofs.Names.{Handles, TriesToHandle, HandlesRound, StaysStuck, CountsRound, counts_as, has_moved, unless_stuck}
use Rattle.uart_latency.proofs.Names.{round_limit, StuckError, HandleEnd, Idle, Handled, named, late_if, late_at, given_back, passing}
use Rattle.uart_latency.proofs.Names.{IsPrompt, AreQuick, AreOthersQuick, reads, beside, IsQuickHandle}
use Rattle.uart_spec.specs.declared.registers.interrupt_enable.TheConstants.IER
use Rattle.uart_spec.specs.declared.registers.line_status.TheConstants.LSR
use Rattle.uart_spec.specs.declared.registers.offsets.TheConstants as offsets
use Rattle.uart_chip.proofs.FifoBits.{isr_of}
use Rattle.uart_run.proofs.initialising.FifoShown.{shows_64}
use Rattle.uart_spec.specs.Fields.{Identifies}
use Rattle.uart_spec.specs.declared.registers.interrupt_type.InterruptType.TheVariants as interrupts
use Rattle.uart_ring_runs.proofs.Served.{shown}
use Rattle.uart_latency.proofs.{Behind.After, Behind.IsEarlyAt, Behind.after_before, Behind.pending_is, Beside.beside_back}
use Rattle.uart_latency.proofs.{Beside.beside_goes, Beside.beside_prompt, Quick.most_if, Quick.late_most, Telling.IsReached}
use Rattle.uart_latency.proofs.{Telling.pending, Telling.behind_line, Told.first_told, Visiting.GoesOn, Visiting.fronts, Visiting.visits_on}

-- ---- lists

-- bytes that are read in order
hits_list : (bytes : List ℕ) (s : Settings) (l : List Access) → InOrder Hit bytes s l →
    (pairs : List (ℕ × ℕ)) × (l ≡ reads pairs) × (length pairs ≡ length bytes)
hits_list [] s l t = ([], t.is, refl)
hits_list (byte ∷ bytes) s l t =
    let later = hits_list bytes s t.back t.second in
    let line = t.first.first.answer in (
      (line, byte) ∷ later.0,
      rw (t.whole, t.first.whole, t.first.first.is, t.first.second.is)
          (ap (λ zs. Read offsets.LSR line ∷ Read offsets.DATA byte ∷ zs) later.1),
      omega (arith, later.2),
    )

-- until a look shows that none waits, or the slots are full
abbrev Filled : (slots : ℕ) (pairs : List (ℕ × ℕ)) (l : List Access) → Type 0
Filled slots pairs l =
    ((line : ℕ) × (has_any line LSR.DATA_READY.0 ≡ false) × (l ≡ reads pairs ++ Read offsets.LSR line ∷ []))
    ⊎ ((l ≡ reads pairs) × (length pairs ≡ slots))

filled_list : (slots : ℕ) (bytes : List ℕ) (s : Settings) (l : List Access) → Receives slots bytes s l →
    (pairs : List (ℕ × ℕ)) × Filled slots pairs l
filled_list slots bytes s l (inl (all, t)) =
    let h = hits_list bytes s l t in (h.0, inr (h.1, h.2 ∙ all))
filled_list slots bytes s l (inr (fewer, t)) =
    let h = hits_list bytes s t.front t.first in
    let line = t.second.answer in
    (h.0, inl (line, sym (has_one 0 line) ∙ t.second.shows, rw (t.whole, t.second.is) (ap (λ zs. zs ++ Read offsets.LSR line ∷ []) h.1)))

-- ---- a whole FIFO

-- late by at most what is left of b when each byte has given back what it did not take
reading_down : (t d b e x : ℕ) (bytes : List (ℕ × ℕ)) (rest : List Access) (n : MachineState) → b + 2 * e ≤ d → 2 * e ≤ t →
    b ≤ x + length bytes * (t - 2 * e) → GoesOn t d x e rest n → GoesOn t d b e (reads bytes ++ rest) n
reading_down t d b e x [] rest n fits each down on late m path first quick = on late m path (omega (arith, first, down)) quick
reading_down t d b e x ((line, byte) ∷ others) rest n fits each down on late m (o, look, (p, read, path)) first quick =
    let now = late_at late m.ahead m.chip in
    let found = late_most m.ahead late m.chip in
    let left = late_if (now - 0) o.chip in
    let most = most_if (now - 0) o.chip in
    let now_then = late_at left o.ahead o.chip in
    let found_then = late_most o.ahead left o.chip in
    let most_then = most_if (now_then - t) p.chip in
    let next = reading_down t d (b - (t - 2 * e)) e x others rest n (omega (arith, fits)) each (omega (arith, down)) on
    (late_if (now_then - t) p.chip) p path
    (omega (arith, most_then, found_then, most, found, first, quick.0, quick.1.0, each)) quick.1.1 in
    let in_time : now_then ≤ d = omega (arith, found_then, most, found, first, quick.0, quick.1.0, fits) in
    (next.0, (omega (arith, found, first, quick.0, fits), (in_time, next.1)))

-- the first access finds it at most b late, and behind some others a whole FIFO is read, of so many bytes, and what follows makes few
-- accesses
full : (t d b e late size : ℕ) (first : Access) (front : List Access) (bytes : List (ℕ × ℕ)) (rest : List Access) (m n : MachineState)
    (path : Path MachineStep m (first ∷ (front ++ (reads bytes ++ rest))) n) → length bytes ≡ size → late_at late m.ahead m.chip ≤ b →
    AreOthersQuick e (first ∷ (front ++ (reads bytes ++ rest))) m n path → b + (length front + 2) * e ≤ d → 2 * e ≤ t →
    (beside rest + 2) * e ≤ d → b + (length front + beside rest + 2) * e ≤ d + size * (t - 2 * e) →
    (after : ℕ) × IsPrompt t d late after (first ∷ (front ++ (reads bytes ++ rest))) m n path
full t d b e late size first front bytes rest m n path whole begins quick fits each few more =
    let now = late_at late m.ahead m.chip in
    let most = most_if (now - given_back t first) path.0.chip in
    let behind = b + length front * e in
    let x = behind - size * (t - 2 * e) in
    let on = beside_goes t d x e rest n each (omega (arith, few, more)) in
    let down : behind ≤ x + length bytes * (t - 2 * e) = rw whole (omega arith) in
    let reading_on = reading_down t d behind e x bytes rest n (omega (arith, fits)) each down on in
    let left = late_if (now - given_back t first) path.0.chip in
    let next = fronts t d b e front (reads bytes ++ rest) n (omega (arith, fits)) reading_on left
    path.0 path.2 (omega (arith, most, begins)) quick in
    (next.0, (omega (arith, begins, fits), next.1))

-- ---- a handle

-- the list of a `handle` that is told so many line errors, and then the receiver's interrupt: ISR and LSR are read for each, then ISR,
-- and the receiver into so many slots, and then others
record ReadsFirst (errors slots : ℕ) (l : List Access) : Type 0 where
  pub first : Access
  pub front : List Access
  pub pairs : List (ℕ × ℕ)
  pub fill : List Access
  pub rest : List Access
  pub whole : l ≡ first ∷ (front ++ (fill ++ rest))
  pub told : length front ≡ 2 * errors
  pub filled : Filled slots pairs fill

-- the parts of its list, one behind the other
joined : (isr : Access) (fill a b c : List Access) → (((isr ∷ []) ++ (fill ++ a)) ++ b) ++ c ≡ isr ∷ (fill ++ (a ++ (b ++ c)))
joined isr fill a b c = simp append_assoc refl

some_is : (i j : InterruptType) → Some i ≡ Some j → i ≡ j
some_is i j e = ap of e
  where
    of : Option InterruptType → InterruptType
    of None = i
    of (Some k) = k

-- ISR shows the interrupt that is the first of those that are pending
none_shown : (isr : ℕ) (m n : MachineState) (which : InterruptType) → IsOnlyIfAny (Identifies isr) None →
    MachineStep m (Read offsets.ISR isr) n → interrupt (at_access m).chip ≡ Some which → ⊥
none_shown isr m n which none s pending = by (interrupt c) c.fifo (shows_64 c) (rw s.1 at none) pending
  where
    c : ChipState
    c = (at_access m).chip

    by : (i : Option InterruptType) (fifo holds_64 : Bool) → IsOnlyIfAny (Identifies (isr_of fifo holds_64 i)) None →
        i ≡ Some which → ⊥
    by None fifo holds_64 none e = cc (e)
    by (Some i) fifo holds_64 none e = let f = (none i).1 (named i fifo holds_64) in cc (f)

-- the slots of the first round
abbrev slots_of : RingFields → ℕ
slots_of f = min (characters f.driver.size) (free f.receive)

-- the first interrupt that is told is that of the receiver; or so many line errors are told before it, each with a read of ISR and one
-- of LSR
abbrev TellsFirst : (errors : ℕ) (l : List Access) (m n : MachineState) → Path MachineStep m l n → Type 0
TellsFirst zero l m n path = interrupt (at_access m).chip ≡ Some interrupts.ReceivedDataReady
TellsFirst (suc errors) (isr ∷ line ∷ l) m n path =
    (interrupt (at_access m).chip ≡ Some interrupts.ReceiverLineStatus) × TellsFirst errors l path.2.0 n path.2.2
TellsFirst errors l m n path = ⊥

-- a path that tells so
abbrev Told : (errors : ℕ) (l : List Access) (m n : MachineState) → Type 0
Told errors l m n = (path : Path MachineStep m l n) × TellsFirst errors l m n path

told_as : (errors : ℕ) (l k : List Access) (m n : MachineState) → l ≡ k → Told errors l m n → Told errors k m n
told_as errors l k m n e told = let T : List Access → Type 0 = λ j. Told errors j m n in subst T e told

tells_none : (errors isr : ℕ) (l : List Access) (m n : MachineState) → IsOnlyIfAny (Identifies isr) None →
    Told errors (Read offsets.ISR isr ∷ l) m n → ⊥
tells_none zero isr l m n none (path, tells) = none_shown isr m path.0 interrupts.ReceivedDataReady none path.1 tells
tells_none (suc errors) isr [] m n none (path, tells) = tells
tells_none (suc errors) isr (line ∷ l) m n none (path, tells) =
    none_shown isr m path.0 interrupts.ReceiverLineStatus none path.1 tells.0

tells_line : (errors : ℕ) (isr : Access) (l : List Access) (m n : MachineState) (path : Path MachineStep m (isr ∷ l) n) →
    TellsFirst (suc errors) (isr ∷ l) m n path → interrupt (at_access m).chip ≡ Some interrupts.ReceiverLineStatus
tells_line errors isr [] m n path tells = absurd tells
tells_line errors isr (line ∷ l) m n path tells = tells.0

-- rounds, and then a read of ISR that shows no interrupt, and others
rounds : (errors served : ℕ) (room left : Bool) (f mid : RingFields) (front : List Access) (isr : ℕ)
    (tail : List Access) (m n : MachineState) →
    ServesTimes true served room left f front mid → IsOnlyIfAny (Identifies isr) None →
    Told errors (front ++ Read offsets.ISR isr ∷ tail) m n →
    ReadsFirst errors (slots_of f) (front ++ Read offsets.ISR isr ∷ tail)
rounds errors zero room left f mid front isr tail m n r none told =
    let list : front ++ Read offsets.ISR isr ∷ tail ≡ Read offsets.ISR isr ∷ tail = ap (λ zs. zs ++ Read offsets.ISR isr ∷ tail) r.1.0 in
    absurd (tells_none errors isr tail m n none (told_as errors _ _ m n list told))
rounds zero (suc k) room left f mid front isr tail m n (next, r) none told =
    let one = r.first in
    let served = one.0 in
    let b = one.1 in
    let shows = b.first.0.0 in
    let only = b.first.0.1 in
    let others = Read offsets.ISR isr ∷ tail in
    let list : front ++ others ≡ (((Read offsets.ISR shows ∷ []) ++ b.back) ++ r.back) ++ others =
    ap (λ zs. zs ++ others) (r.whole ∙ ap (λ zs. zs ++ r.back) (b.whole ∙ ap (λ zs. zs ++ b.back) b.first.0.2.0.is)) in
    let here = told_as zero _ _ m n list told in
    let is : served ≡ interrupts.ReceivedDataReady = some_is served _ (sym (shown shows served m here.0.0 only here.0.1) ∙ here.1) in
    let V : InterruptType → Type 0 = λ i. ServesInterrupt true room next i b.mid b.back r.mid in
    let got : (next ≡ false) × ServesData room b.mid b.back r.mid = subst V is b.second in
    let d = got.1 in
    let fills : FillsReceiveRing b.mid d.front d.mid = d.first in
    let h = filled_list _ fills.0 _ fills.1.front fills.1.first.0.0 in
    let parts : b.back ≡ fills.1.front ++ (fills.1.back ++ d.back) =
    d.whole ∙ (ap (λ zs. zs ++ d.back) fills.1.whole ∙ append_assoc fills.1.front fills.1.back d.back) in
    let same : slots_of b.mid ≡ slots_of f = ap (λ (g : RingFields). slots_of g) b.first.1 ∙
    ap (λ driver. min (characters driver.size) (free f.receive)) b.first.0.2.1 in
    record {
      first = Read offsets.ISR shows;
      front = [];
      pairs = h.0;
      fill = fills.1.front;
      rest = (fills.1.back ++ d.back) ++ (r.back ++ others);
      whole = list ∙ (ap (λ zs. (((Read offsets.ISR shows ∷ []) ++ zs) ++ r.back) ++ others) parts ∙
          joined (Read offsets.ISR shows) fills.1.front (fills.1.back ++ d.back) r.back others);
      told = refl;
      filled = let F : ℕ → Type 0 = λ slots. Filled slots h.0 fills.1.front in subst F same h.1;
    }
rounds (suc errors) (suc k) room left f mid front isr tail m n (next, r) none told =
    let one = r.first in
    let served = one.0 in
    let b = one.1 in
    let shows = b.first.0.0 in
    let only = b.first.0.1 in
    let others = Read offsets.ISR isr ∷ tail in
    let list : front ++ others ≡ Read offsets.ISR shows ∷ (b.back ++ (r.back ++ others)) =
    ap (λ zs. zs ++ others) (r.whole ∙ ap (λ zs. zs ++ r.back) (b.whole ∙ ap (λ zs. zs ++ b.back) b.first.0.2.0.is)) ∙
    ap (λ zs. Read offsets.ISR shows ∷ zs) (append_assoc b.back r.back others) in
    let here = told_as (suc errors) _ _ m n list told in
    let line = tells_line errors (Read offsets.ISR shows) (b.back ++ (r.back ++ others)) m n here.0 here.1 in
    let is : served ≡ interrupts.ReceiverLineStatus = some_is served _ (sym (shown shows served m here.0.0 only here.0.1) ∙ line) in
    let V : InterruptType → Type 0 = λ i. ServesInterrupt true room next i b.mid b.back r.mid in
    let notes : ServesLine true next b.mid b.back r.mid = subst V is b.second in
    let lsr = notes.2.0.0 in
    let both : front ++ others ≡ Read offsets.ISR shows ∷ Read offsets.LSR lsr ∷ (r.back ++ others) =
    list ∙ ap (λ zs. Read offsets.ISR shows ∷ (zs ++ (r.back ++ others))) notes.2.0.1 in
    let there = told_as (suc errors) _ _ m n both told in
    let later = rounds errors k next left r.mid mid r.back isr tail there.0.2.0 n r.second none (there.0.2.2, there.1.1) in
    let same : slots_of r.mid ≡ slots_of f =
    ap (λ (g : RingFields). slots_of g) notes.2.1 ∙ (ap (λ driver. min (characters driver.size) (free b.mid.receive)) notes.2.0.3 ∙
    (ap (λ (g : RingFields). slots_of g) b.first.1 ∙ ap (λ driver. min (characters driver.size) (free f.receive)) b.first.0.2.1)) in
    record {
      first = Read offsets.ISR shows;
      front = Read offsets.LSR lsr ∷ later.first ∷ later.front;
      pairs = later.pairs;
      fill = later.fill;
      rest = later.rest;
      whole = both ∙ ap (λ zs. Read offsets.ISR shows ∷ Read offsets.LSR lsr ∷ zs) later.whole;
      told = omega (arith, later.told);
      filled = let F : ℕ → Type 0 = λ slots. Filled slots later.pairs later.fill in subst F same later.filled;
    }

-- the whole list of a `handle` that ends with `Idle`
reads_first : (errors limit : ℕ) (handled : Handled) (f : RingFields) (l : List Access) (after : RingFields) →
    Handles limit handled f l after → handled.end ≡ Idle → (m n : MachineState) → Told errors l m n → ReadsFirst errors (slots_of f) l
reads_first errors limit handled f l after (room, t) idle m n told =
    let q = t.first.1 in
    let S : HandleEnd → Type 0 = λ end. Stops end q.mid q.back t.mid in
    let stop : Stops Idle q.mid q.back t.mid = subst S idle q.second in
    let isr = stop.0.0 in
    let list : l ≡ q.front ++ Read offsets.ISR isr ∷ t.back =
    t.whole ∙ (ap (λ zs. zs ++ t.back) (q.whole ∙ ap (λ zs. q.front ++ zs) stop.0.3.0.is) ∙
    append_assoc q.front (Read offsets.ISR isr ∷ []) t.back) in
    let R : List Access → Type 0 = λ k. ReadsFirst errors (slots_of f) k in
    subst R (sym list) (rounds errors handled.served false room f q.mid q.front isr t.back m n q.first stop.0.1
    (told_as errors _ _ m n list told))

-- from a list to one that is the same
abbrev Comes : (t d b e late : ℕ) (m n : MachineState) → List Access → Type 0
Comes t d b e late m n l = (path : Path MachineStep m l n) → late_at late m.ahead m.chip ≤ b → AreOthersQuick e l m n path →
    (after : ℕ) × IsPrompt t d late after l m n path

-- ---- what is told first

-- a path whose accesses are quick but for the first
abbrev Quickly : (e : ℕ) (l : List Access) (m n : MachineState) → Type 0
Quickly e l m n = (path : Path MachineStep m l n) × AreOthersQuick e l m n path

-- ISR and LSR are read, and then there is one more access at least
record LooksFirst (l : List Access) : Type 0 where
  pub isr : ℕ
  pub line : ℕ
  pub front : List Access
  pub next : Access
  pub back : List Access
  pub whole : l ≡ Read offsets.ISR isr ∷ Read offsets.LSR line ∷ (front ++ next ∷ back)

line_first : (served : ℕ) (room left : Bool) (f mid : RingFields) (front : List Access) (isr : ℕ)
    (tail : List Access) (m n : MachineState) →
    ServesTimes true served room left f front mid → IsOnlyIfAny (Identifies isr) None →
    interrupt (at_access m).chip ≡ Some interrupts.ReceiverLineStatus → Path MachineStep m (front ++ Read offsets.ISR isr ∷ tail) n →
    LooksFirst (front ++ Read offsets.ISR isr ∷ tail)
line_first zero room left f mid front isr tail m n r none line path =
    let list : front ++ Read offsets.ISR isr ∷ tail ≡ Read offsets.ISR isr ∷ tail = ap (λ zs. zs ++ Read offsets.ISR isr ∷ tail) r.1.0 in
    let there = path_as m n (front ++ Read offsets.ISR isr ∷ tail) (Read offsets.ISR isr ∷ tail) list path in
    absurd (none_shown isr m there.0 interrupts.ReceiverLineStatus none there.1 line)
line_first (suc k) room left f mid front isr tail m n (next, r) none line path =
    let one = r.first in
    let served = one.0 in
    let b = one.1 in
    let shows = b.first.0.0 in
    let only = b.first.0.1 in
    let others = Read offsets.ISR isr ∷ tail in
    let list : front ++ others ≡ Read offsets.ISR shows ∷ (b.back ++ (r.back ++ others)) =
    ap (λ zs. zs ++ others) (r.whole ∙ ap (λ zs. zs ++ r.back) (b.whole ∙ ap (λ zs. zs ++ b.back) b.first.0.2.0.is)) ∙
    ap (λ zs. Read offsets.ISR shows ∷ zs) (append_assoc b.back r.back others) in
    let here = path_as m n (front ++ others) (Read offsets.ISR shows ∷ (b.back ++ (r.back ++ others))) list path in
    let is : served ≡ interrupts.ReceiverLineStatus = some_is served _ (sym (shown shows served m here.0 only here.1) ∙ line) in
    let V : InterruptType → Type 0 = λ i. ServesInterrupt true room next i b.mid b.back r.mid in
    let notes : ServesLine true next b.mid b.back r.mid = subst V is b.second in
    record {
      isr = shows;
      line = notes.2.0.0;
      front = r.back;
      next = Read offsets.ISR isr;
      back = tail;
      whole = list ∙ ap (λ zs. Read offsets.ISR shows ∷ (zs ++ (r.back ++ others))) notes.2.0.1;
    }

-- of two parts, of which the second has an access, the first access is quick
quick_first : (e : ℕ) (front : List Access) (next : Access) (back : List Access) (m n : MachineState)
    (path : Path MachineStep m (front ++ next ∷ back) n) → AreQuick e (front ++ next ∷ back) m n path → passing m.ahead ≤ e
quick_first e [] next back m n path quick = quick.0
quick_first e (access ∷ front) next back m n path quick = quick.0

-- the receiver's interrupt is told first, or behind one line error
tells : (t d : ℕ) (r : ReceiverState) (early : d < (characters r.size - characters_of r.size r.trigger + 1) * t)
    (e b late limit : ℕ) (handled : Handled) (f : RingFields) (l : List Access) (after : RingFields) (m n : MachineState) →
    Handles limit handled f l after → handled.end ≡ Idle → Quickly e l m n → IsReached t d r early late (at_access m) → late ≤ b →
    b + 2 * e ≤ d → (errors : ℕ) × (errors ≤ 1) × Told errors l m n
tells t d r early e b late limit handled f l after m n (room, does) idle quickly reached found fits =
    by (first_told (at_access m).chip reached.enabled (pending t d r early late (at_access m) reached))
  where
    by : (interrupt (at_access m).chip ≡ Some interrupts.ReceiverLineStatus)
        ⊎ (interrupt (at_access m).chip ≡ Some interrupts.ReceivedDataReady) → (errors : ℕ) × (errors ≤ 1) × Told errors l m n
    by (inr receiver) = (zero, omega arith, (quickly.0, receiver))
    by (inl line) =
        let q = does.first.1 in
        let S : HandleEnd → Type 0 = λ end. Stops end q.mid q.back does.mid in
        let stop : Stops Idle q.mid q.back does.mid = subst S idle q.second in
        let isr = stop.0.0 in
        let list : l ≡ q.front ++ Read offsets.ISR isr ∷ does.back =
        does.whole ∙ (ap (λ zs. zs ++ does.back) (q.whole ∙ ap (λ zs. q.front ++ zs) stop.0.3.0.is) ∙
        append_assoc q.front (Read offsets.ISR isr ∷ []) does.back) in
        let first = line_first handled.served false room f q.mid q.front isr does.back m n q.first stop.0.1 line
        (path_as m n l (q.front ++ Read offsets.ISR isr ∷ does.back) list quickly.0) in
        let whole = list ∙ first.whole in
        let Q : List Access → Type 0 = λ k. Quickly e k m n in
        let there = subst Q whole quickly in
        let path = there.0 in
        let more = quick_first e first.front first.next first.back path.2.0 n path.2.2 there.1.1 in
        let receiver = behind_line t d r early e b late first.isr first.line m path.0 path.2.0 reached found fits path.1 path.2.1
        there.1.0 more in
        (suc zero, omega arith, told_as (suc zero) _ l m n (sym whole) (path, (line, receiver)))

-- ---- in time

handle_prompt : (t d b e late errors size limit : ℕ) (handled : Handled) (f : RingFields) (l : List Access) (after : RingFields)
    (m n : MachineState) (path : Path MachineStep m l n) → Handles limit handled f l after → handled.end ≡ Idle → errors ≤ 1 →
    Told errors l m n → size ≤ slots_of f → late_at late m.ahead m.chip ≤ b → AreOthersQuick e l m n path →
    IsQuickHandle t d b e size (beside l) → (after : ℕ) × IsPrompt t d late after l m n path
handle_prompt t d b e late errors size limit handled f l after m n path handles idle few told room begins quick fits =
    let shape = reads_first errors limit handled f l after handles idle m n told in
    let C : List Access → Type 0 = λ k. Comes t d b e late m n k in
    by shape shape.filled (subst C (sym shape.whole)) path begins quick
  where
    -- the first byte is read behind so many accesses
    soon : (shape : ReadsFirst errors (slots_of f) l) → b + (length shape.front + 2) * e ≤ d
    soon shape =
        let first = fits.first in
        let front = ap (λ x. x * e) shape.told in
        let one = mul-le-mul_right e few in
        omega (arith, first, front, one)

    -- what follows the bytes makes no more accesses for no byte than all
    less : (shape : ReadsFirst errors (slots_of f) l) → beside shape.rest * e ≤ beside l * e
    less shape =
        let all = ap beside shape.whole in
        let first = beside_back (shape.first ∷ shape.front) (shape.fill ++ shape.rest) in
        let second = beside_back shape.fill shape.rest in
        let most : beside shape.rest ≤ beside l = omega (arith, all, first, second) in
        mul-le-mul_right e most

    by : (shape : ReadsFirst errors (slots_of f) l) → Filled (slots_of f) shape.pairs shape.fill →
        (Comes t d b e late m n (shape.first ∷ (shape.front ++ (shape.fill ++ shape.rest))) → Comes t d b e late m n l) →
        Comes t d b e late m n l
    by shape (inl (line, none, is)) back =
        let others = fits.others in
        let fewer = less shape in
        let C : List Access → Type 0 = λ k. Comes t d b e late m n (shape.first ∷ (shape.front ++ k)) in
        let list : shape.fill ++ shape.rest ≡ reads shape.pairs ++ Read offsets.LSR line ∷ shape.rest =
        ap (λ zs. zs ++ shape.rest) is ∙ append_assoc (reads shape.pairs) (Read offsets.LSR line ∷ []) shape.rest in
        let on = beside_goes t d 0 e shape.rest n fits.each (omega (arith, others, fewer)) in
        back (subst C (sym list) (λ path begins quick.
        visits_on t d b e late line shape.first shape.front shape.pairs shape.rest m n path none begins quick (soon shape) fits.each on))
    by shape (inr (is, all)) back =
        let others = fits.others in
        let more = fits.more in
        let fewer = less shape in
        let front = ap (λ x. x * e) shape.told in
        let one = mul-le-mul_right e few in
        let C : List Access → Type 0 = λ k. Comes t d b e late m n (shape.first ∷ (shape.front ++ (k ++ shape.rest))) in
        let slots : length shape.pairs ≡ slots_of f = all in
        let sizes = mul-le-mul_right (t - 2 * e) room in
        back (subst C (sym is) (λ path begins quick.
        full t d b e late (slots_of f) shape.first shape.front shape.pairs shape.rest m n path slots begins quick
        (soon shape) fits.each (omega (arith, others, fewer)) (omega (arith, more, fewer, front, one, sizes))))

-- a `handle` that ends with `Idle`, with DATA_READY enabled, and room for a whole FIFO in the receive ring
pub handle_in_time : (t d : ℕ) (r : ReceiverState) (early : d < (characters r.size - characters_of r.size r.trigger + 1) * t)
    (b e late limit : ℕ) (handled : Handled) (f : RingFields) (l : List Access) (after : RingFields) (m n : MachineState)
    (path : Path MachineStep m l n) → Handles limit handled f l after → IsEarlyAt t d r early late m →
    has_any m.chip.latches.ier IER.DATA_READY.0 ≡ true → handled.end ≡ Idle → characters f.driver.size ≤ free f.receive →
    late_at late m.ahead m.chip ≤ b → AreOthersQuick e l m n path → IsQuickHandle t d b e (characters f.driver.size) (beside l) →
    (after : ℕ) × IsPrompt t d late after l m n path
handle_in_time t d r early b e late limit handled f l after m n path does known enabled idle room begins quick fits =
    go (is_data_pending (at_access m).chip.fifo (at_access m).chip.receiver) refl
  where
    at : After t d r early (at_access m).ahead (late_at late m.ahead m.chip) (at_access m).chip
    at = after_before t d r early m.ahead late m.chip known.after

    waits : is_data_pending (at_access m).chip.fifo (at_access m).chip.receiver ≡
        nat_le (characters_of r.size r.trigger) (length (at_access m).chip.receiver.queue)
    waits = let b = at.behind in pending_is t d r early (at_access m).chip b.fifo b.size b.trigger

    go : (b : Bool) → is_data_pending (at_access m).chip.fifo (at_access m).chip.receiver ≡ b →
        (after : ℕ) × IsPrompt t d late after l m n path
    go true data_waits =
        let first = fits.first in
        let is : nat_le (characters_of r.size r.trigger) (length (at_access m).chip.receiver.queue) ≡ true = sym waits ∙ data_waits in
        let ier = ap (λ (k : Kept). has_any k.latches.ier IER.DATA_READY.0) (kept_access m) in
        let reached : IsReached t d r early (late_at late m.ahead m.chip) (at_access m) = record {
          after = at;
          few = omega (arith, begins, first);
          enabled = ier ∙ enabled;
          reached = grind (arith, nat_tests);
        } in
        let told = tells t d r early e b (late_at late m.ahead m.chip) limit handled f l after m n does idle (path, quick) reached begins
        (omega (arith, first)) in
        handle_prompt t d b e late told.0 (characters f.driver.size) limit handled f l after m n path does idle told.1 told.2
        (omega (arith, room)) begins quick fits
    go false few_wait =
        let is : nat_le (characters_of r.size r.trigger) (length (at_access m).chip.receiver.queue) ≡ false = sym waits ∙ few_wait in
        let below : length (at_access m).chip.receiver.queue < characters_of r.size r.trigger = grind (arith, common_steps) in
        let none = at.behind.numbers.idle below in
        beside_prompt t d e late l m n path fits.each none quick fits.others

-- ---- `try_handle`

-- one that ends with `Idle` does what a `handle` does
pub record Tries (limit : ℕ) (handled : Handled) (f : RingFields) (l : List Access) : Type 0 where
  pub mid : RingFields
  pub does : Handles limit handled f l mid

found_of : (handled other : Handled) (found : Option StuckError) → Ok handled ≡ unless_stuck other found → other ≡ handled
found_of handled other None is = cc (is)
found_of handled other (Some error) is = absurd (cc (is))

round_idle : (rounds : ℕ) (moved : Bool) (end : HandleEnd) (found : Option StuckError) (f : RingFields) (l : List Access)
    (after : RingFields) → end ≡ Idle → CountsRound rounds (counts_as moved end) found f l after → l ≡ []
round_idle rounds true end found f l after idle t = t.1.0
round_idle rounds false end found f l after idle t =
    let C : HandleEnd → Type 0 = λ k. CountsRound rounds k found f l after in
    let none : CountsRound rounds Idle found f l after = subst C idle t in none.1.0

pub tries_idle : (limit rounds : ℕ) (handled : Handled) (f : RingFields) (l : List Access) (after : RingFields) →
    TriesToHandle limit rounds (Ok handled) f l after → handled.end ≡ Idle → Tries (round_limit limit) handled f l
tries_idle limit rounds handled f l after t idle = go f.stuck t
  where
    go : (was : Option StuckError) → MatchOption was (HandlesRound (round_limit limit) rounds (Ok handled) f l after)
        (λ error. StaysStuck (Ok handled) error f l after) → Tries (round_limit limit) handled f l
    go None (other, found, is, t) =
        let same = found_of handled other found is in
        let E : Handled → Type 0 = λ h. Handles (round_limit limit) h f t.front t.mid in
        let does = subst E same t.first in
        let ends : other.end ≡ Idle = ap (λ (h : Handled). h.end) same ∙ idle in
        let none = round_idle rounds (has_moved f t.mid) other.end found t.mid t.back after ends t.second in
        let whole : l ≡ t.front = t.whole ∙ (ap (λ zs. t.front ++ zs) none ∙ append-nil t.front) in
        let H : List Access → Type 0 = λ k. Handles (round_limit limit) handled f k t.mid in
        record { mid = t.mid; does = subst H (sym whole) does }
    go (Some error) t = absurd (let e = t.0 in cc)
