-- Where a character was lost that the overrun flag tells of, with the FIFO on.
use Rattle.uart_run.proofs.Names.{◌≡◌, ◌≢◌, ℕ, suc, ◌-◌, ◌≤◌, ◌<◌, Bool, true, false, inl, inr, nat_lt, List, [], ◌∷◌, ◌++◌, length, drop}
use Rattle.uart_run.proofs.Names.{length-append, append_assoc, refl, sym, ◌∙◌, ap, subst, arith, slice_set, get_or-set_same}
use Rattle.uart_run.proofs.Names.{get_or-set_other, AllByRecursion, common_steps, take_all, drop_all, take-append-le, drop-append-le}
use Rattle.uart_run.proofs.Names.{has_any, Access, Read, Write, Received, characters, FifoSize, Character, Arrived, ChipState, is_dlab_set}
use Rattle.uart_run.proofs.Names.{after_read, after_write, MachineState, MachineStep, at_access, ReceiverState, mark_at, set_mark}
use Rattle.uart_run.proofs.Names.{take_front, IsInQueue, AllInQueue, IsMarked, at_least_16, ReadMove, takes, looks, read_move, WriteMove}
use Rattle.uart_run.proofs.Names.{switches, resizes, clears, triggers, write_move, each-append, each-weaker, status_overrun, Modes}
use Rattle.uart_run.proofs.Names.{loopback-in, passed-access, IsOpen, Stands, IsOlder, IsYounger, IsLostBehind, IsLost, FlagTells}
use Rattle.uart_run.proofs.Names.{LeavesReceiver, OverrunsTell}
use Rattle.uart_events.specs.declared.event.ArrivalMark.{ArrivalMark}
use Rattle.uart_events.specs.declared.event.ArrivalMark.TheVariants.{Pending, Waiting, Read as ReadMark, Dropped}
use Rattle.uart_spec.specs.declared.registers.line_status.TheConstants.LSR
use Rattle.uart_spec.specs.declared.registers.offsets.TheConstants as offsets
use Rattle.uart_chip.specs.declared.receiver.Origin.{Origin}
use Rattle.uart_chip.specs.Receiver as receiver
use Rattle.uart_run.proofs.Between.{access_lasts}

-- ---- a lost arrival stays lost, behind as many

-- behind so many of those that were taken and of those that wait, with a FIFO of this size
abbrev pub Behind : (size : FifoSize) (count : ℕ) (taken : List Character) → ReceiverState → Type 0
Behind size count taken r = (r.size ≡ size) × IsLostBehind count (taken ++ r.queue) r.marks

-- its number is that of an arrival
lost_below : (fifo : Bool) (r : ReceiverState) (number : ℕ) → IsMarked fifo r → mark_at r.marks number ≡ Dropped → number < r.arrived
lost_below fifo r number w dropped = go (nat_lt number r.arrived) refl
  where
    go : (b : Bool) → nat_lt number r.arrived ≡ b → number < r.arrived
    go true e = grind (arith, common_steps)
    go false e =
        let late : r.arrived ≤ number = grind (arith, common_steps) in
        let pending = w.to_come number late in absurd (cc)

-- a character came, and found room
behind_room : (size : FifoSize) (count : ℕ) (taken : List Character) (r s : ReceiverState) (new : Character) → IsMarked true r →
    new.origin ≡ Arrived r.arrived → s.queue ≡ r.queue ++ new ∷ [] → s.marks ≡ slice_set r.marks r.arrived Waiting →
    s.size ≡ r.size → Behind size count taken r →
    Behind size count taken s
behind_room size count taken r s new w o queue marks same_size p =
    let line = taken ++ r.queue in
    let below = lost_below true r p.1.number w p.1.dropped in
    let other : p.1.number ≢ r.arrived = λ e. absurd (omega (arith, e, below)) in
    let young : IsYounger p.1.number new.origin = rw o below in
    let whole : line ++ new ∷ [] ≡ taken ++ s.queue = append_assoc taken r.queue (new ∷ []) ∙ ap (λ q. taken ++ q) (sym queue) in
    let after : IsLostBehind count (line ++ new ∷ []) (slice_set r.marks r.arrived Waiting) = record {
      number = p.1.number;
      dropped = get_or-set_other r.marks r.arrived p.1.number Waiting Pending other ∙ p.1.dropped;
      enough = let sum = length-append line (new ∷ []) in omega (arith, sum, p.1.enough);
      older = let e = take-append-le count line (new ∷ []) p.1.enough in rw e p.1.older;
      younger = let e = drop-append-le count line (new ∷ []) p.1.enough in
          rw e (each-append (λ (character : Character). IsYounger p.1.number character.origin) (drop count line) (new ∷ []) p.1.younger
          (young, tt));
    } in
    let S : List Character → Type 0 = λ l. IsLostBehind count l s.marks in
    (same_size ∙ p.0, subst S whole (rw marks after))

-- and found none
behind_full : (size : FifoSize) (count : ℕ) (taken : List Character) (r s : ReceiverState) → IsMarked true r → s.queue ≡ r.queue →
    s.marks ≡ slice_set r.marks r.arrived Dropped → s.size ≡ r.size → Behind size count taken r →
    Behind size count taken s
behind_full size count taken r s w queue marks same_size p =
    let below = lost_below true r p.1.number w p.1.dropped in
    let other : p.1.number ≢ r.arrived = λ e. absurd (omega (arith, e, below)) in
    let same : taken ++ r.queue ≡ taken ++ s.queue = ap (λ q. taken ++ q) (sym queue) in
    let after : IsLostBehind count (taken ++ r.queue) (slice_set r.marks r.arrived Dropped) = record {
      number = p.1.number;
      dropped = get_or-set_other r.marks r.arrived p.1.number Dropped Pending other ∙ p.1.dropped;
      enough = p.1.enough;
      older = p.1.older;
      younger = p.1.younger;
    } in
    let S : List Character → Type 0 = λ l. IsLostBehind count l s.marks in
    (same_size ∙ p.0, subst S same (rw marks after))

-- then it is lost behind all that wait
lost_now : (r s : ReceiverState) → IsMarked true r → r.arrived < length r.marks → characters r.size ≤ length r.queue →
    s.queue ≡ r.queue → s.marks ≡ slice_set r.marks r.arrived Dropped → IsLostBehind (characters r.size) s.queue s.marks
lost_now r s w within full queue marks =
    let all : AllByRecursion (λ (character : Character). IsOlder r.arrived character.origin) r.queue =
    each-weaker (λ (character : Character). IsInQueue r.arrived r.marks r.is_unscheduled_lost character.origin)
    (λ (character : Character). IsOlder r.arrived character.origin) (λ character. older character.origin) r.queue w.wait in
    let now : IsLostBehind (characters r.size) r.queue (slice_set r.marks r.arrived Dropped) = record {
      number = r.arrived;
      dropped = get_or-set_same r.marks r.arrived Dropped Pending within;
      enough = full;
      older = let e = take_all (characters r.size) r.queue w.in_room in rw e all;
      younger = let e = drop_all (characters r.size) r.queue w.in_room in rw e tt;
    } in
    rw (queue, marks) now
  where
    older : (o : Origin) → IsInQueue r.arrived r.marks r.is_unscheduled_lost o → IsOlder r.arrived o
    older (Arrived j) h = h.0
    older _ h = tt

-- what an arrival does with the FIFO on
pub data Came (byte errors : ℕ) (r : ReceiverState) : ReceiverState → Type 0 where
  Entered : (s : ReceiverState) (new : Character) → new.origin ≡ Arrived r.arrived → s.queue ≡ r.queue ++ new ∷ [] →
      s.marks ≡ slice_set r.marks r.arrived Waiting → s.is_overrun ≡ r.is_overrun → s.size ≡ r.size → Came byte errors r s
  Refused : (s : ReceiverState) → characters r.size ≤ length r.queue → s.queue ≡ r.queue →
      s.marks ≡ slice_set r.marks r.arrived Dropped → s.size ≡ r.size → Came byte errors r s

pub came : (r : ReceiverState) (byte errors : ℕ) → Came byte errors r (receiver.arrive false true byte errors r)
came r byte errors = go (nat_lt (length r.queue) (characters r.size)) refl
  where
    go : (b : Bool) → nat_lt (length r.queue) (characters r.size) ≡ b → Came byte errors r (receiver.arrive false true byte errors r)
    go true e = rw e (Entered _ (record { byte = byte; errors = errors; origin = Arrived r.arrived }) refl refl refl refl refl)
    go false e =
        let full : characters r.size ≤ length r.queue = grind (arith, common_steps) in rw e (Refused _ full refl refl refl)

pub behind_came : (size : FifoSize) (count : ℕ) (taken : List Character) (byte errors : ℕ) (r s : ReceiverState) → IsMarked true r →
    Came byte errors r s → Behind size count taken r → Behind size count taken s
behind_came size count taken byte errors r s w (Entered _ new o queue marks overrun same) p =
    behind_room size count taken r s new w o queue marks same p
behind_came size count taken byte errors r s w (Refused _ full queue marks same) p =
    behind_full size count taken r s w queue marks same p

-- what was lost behind as many as the FIFO holds, or behind one fewer, stays so
pub lost_stays : (r s : ReceiverState) (taken more : List Character) →
    ((count : ℕ) → Behind r.size count taken r → Behind r.size count more s) → IsLost r.size (taken ++ r.queue) r.marks →
    IsLost s.size (more ++ s.queue) s.marks
lost_stays r s taken more stays (inl few) = let p = stays (characters r.size - 1) (refl, few) in rw p.0 (inl p.1)
lost_stays r s taken more stays (inr all) = let p = stays (characters r.size) (refl, all) in rw p.0 (inr p.1)

-- ---- the flag

-- while it is set, a character was lost behind as many that wait as the FIFO holds: so it is after each look
abbrev FlagAfterLook : ReceiverState → Type 0
FlagAfterLook r = r.is_overrun ≡ true → IsLostBehind (characters r.size) r.queue r.marks

after_look_came : (byte errors : ℕ) (r s : ReceiverState) → IsMarked true r → r.arrived < length r.marks → Came byte errors r s →
    FlagAfterLook r → FlagAfterLook s
after_look_came byte errors r s w within (Entered _ new o queue marks overrun same) p = λ on.
    rw same (behind_room r.size (characters r.size) [] r s new w o queue marks same (refl, p (sym overrun ∙ on))).1
after_look_came byte errors r s w within (Refused _ full queue marks same) p = λ on. rw same (lost_now r s w within full queue marks)

pub flag_came : (byte errors : ℕ) (r s : ReceiverState) → IsMarked true r → r.arrived < length r.marks → Came byte errors r s →
    FlagTells r → FlagTells s
flag_came byte errors r s w within (Entered _ new o queue marks overrun same) p = λ on.
    lost_stays r s [] [] (λ count q. behind_room r.size count [] r s new w o queue marks same q) (p (sym overrun ∙ on))
flag_came byte errors r s w within (Refused _ full queue marks same) p = λ on.
    rw same (inr (lost_now r s w within full queue marks))

-- ---- the front is taken

-- a mark of one that waits is set
dropped_stays : (marks : List ArrivalMark) (arrived number : ℕ) (missing : Bool) (o : Origin) → IsInQueue arrived marks missing o →
    mark_at marks number ≡ Dropped → mark_at (set_mark o ReadMark marks) number ≡ Dropped
dropped_stays marks arrived number missing (Arrived j) h dropped =
    let other : number ≢ j = λ e. absurd (cc (sym dropped ∙ (ap (mark_at marks) e ∙ h.1))) in
    get_or-set_other marks j number ReadMark Pending other ∙ dropped
dropped_stays marks arrived number missing _ h dropped = dropped

behind_taken : (size : FifoSize) (count : ℕ) (taken : List Character) (r : ReceiverState) (front : Character) (others : List Character) →
    IsMarked true r → r.queue ≡ front ∷ others → Behind size count taken r →
    Behind size count (taken ++ front ∷ []) (take_front (front ∷ others) r)
behind_taken size count taken r front others w queue p =
    let wait : AllInQueue r.arrived r.marks r.is_unscheduled_lost (front ∷ others) = rw queue at w.wait in
    let line : taken ++ r.queue ≡ (taken ++ front ∷ []) ++ others =
    ap (λ q. taken ++ q) queue ∙ sym (append_assoc taken (front ∷ []) others) in
    let S : List Character → Type 0 = λ l. IsLostBehind count l (set_mark front.origin ReadMark r.marks) in (
      p.0,
      subst S line (record {
        number = p.1.number;
        dropped = dropped_stays r.marks r.arrived p.1.number r.is_unscheduled_lost front.origin wait.0 p.1.dropped;
        enough = p.1.enough;
        older = p.1.older;
        younger = p.1.younger;
      }),
    )

-- one fewer came before
one_fewer : (count : ℕ) (front : Character) (others : List Character) (marks : List ArrivalMark) →
    IsLostBehind (suc count) (front ∷ others) marks → IsLostBehind count others marks
one_fewer count front others marks p = record {
  number = p.number;
  dropped = p.dropped;
  enough = let enough = p.enough in omega (arith, enough);
  older = p.older.1;
  younger = p.younger;
}

flag_taken : (r : ReceiverState) (front : Character) (others : List Character) → IsMarked true r → r.queue ≡ front ∷ others →
    FlagAfterLook r → FlagTells (take_front (front ∷ others) r)
flag_taken r front others w queue p on =
    let taken = behind_taken r.size (characters r.size) [] r front others w queue (refl, p on) in
    let least = at_least_16 r.size in
    let more : characters r.size ≡ suc (characters r.size - 1) = omega (arith, least) in
    let L : ℕ → Type 0 = λ count. IsLostBehind count (front ∷ others) (take_front (front ∷ others) r).marks in
    inl (one_fewer (characters r.size - 1) front others _ (subst L more taken.1))

-- ---- over the machine

module _ (x : Modes) (on : x.fifo ≡ true) (o : IsOpen x) (m : MachineState) (w : Stands x m) where
  -- up to the next access
  pub behind_access : (size : FifoSize) (count : ℕ) (taken : List Character) → Behind size count taken m.chip.receiver →
      Behind size count taken (at_access m).chip.receiver
  behind_access size count taken =
      access_lasts (Behind size count taken) (λ r p. p)
      (λ r byte errors marked within p. behind_came size count taken byte errors r _ marked (came r byte errors) p) m w.sound
      (w.modes.fifo ∙ on) (loopback-in x m.chip w.modes ∙ o.loopback)

  pub flag_access : FlagTells m.chip.receiver → FlagTells (at_access m).chip.receiver
  flag_access =
      access_lasts FlagTells (λ r p. p)
      (λ r byte errors marked within p. flag_came byte errors r _ marked within (came r byte errors) p) m w.sound
      (w.modes.fifo ∙ on) (loopback-in x m.chip w.modes ∙ o.loopback)

  pub after_look_access : FlagAfterLook m.chip.receiver → FlagAfterLook (at_access m).chip.receiver
  after_look_access =
      access_lasts FlagAfterLook (λ r p. p)
      (λ r byte errors marked within p. after_look_came byte errors r _ marked within (came r byte errors) p) m w.sound
      (w.modes.fifo ∙ on) (loopback-in x m.chip w.modes ∙ o.loopback)

  -- the receiver as an access finds it is marked
  pub marked_access : IsMarked true (at_access m).chip.receiver
  marked_access =
      let p = passed-access x m o.loopback w.sound w.modes in
      subst (λ (b : Bool). IsMarked b (at_access m).chip.receiver) (p.went.modes.fifo ∙ on) p.sound.chip.receiver.marked

-- a look leaves the characters, and clears the flag
looked_behind : (size : FifoSize) (count : ℕ) (taken : List Character) (m n : MachineState) (line : ℕ) →
    MachineStep m (Read offsets.LSR line) n → Behind size count taken (at_access m).chip.receiver → Behind size count taken n.chip.receiver
looked_behind size count taken m n line s p =
    let P : MachineState → Type 0 = λ k. Behind size count taken k.chip.receiver in subst P (sym s.0) p

cleared : (m n : MachineState) (line : ℕ) → MachineStep m (Read offsets.LSR line) n → n.chip.receiver.is_overrun ≡ false
cleared m n line s = ap (λ (k : MachineState). k.chip.receiver.is_overrun) s.0

shows_flag : (m n : MachineState) (line : ℕ) → MachineStep m (Read offsets.LSR line) n → has_any line LSR.OVERRUN_ERROR.0 ≡ true →
    (at_access m).chip.receiver.is_overrun ≡ true
shows_flag m n line s h =
    sym (status_overrun (at_access m).chip) ∙ (sym (ap (λ (v : ℕ). has_any v LSR.OVERRUN_ERROR.0) s.1) ∙ h)

-- a look at the line status alone
pub record Looked (m n : MachineState) : Type 0 where
  pub stays : (size : FifoSize) (count : ℕ) (taken : List Character) → Behind size count taken m.chip.receiver →
      Behind size count taken n.chip.receiver
  pub flag : FlagTells n.chip.receiver

pub looked : (x : Modes) (m n : MachineState) (line : ℕ) → x.fifo ≡ true → IsOpen x → Stands x m →
    MachineStep m (Read offsets.LSR line) n → Looked m n
looked x m n line on o w s = record {
  stays = λ size count taken p. looked_behind size count taken m n line s (behind_access x on o m w size count taken p);
  flag = λ set. let clear = cleared m n line s in absurd (cc);
}

-- a look, and a read of the character that was in front
pub record HitTells (line : ℕ) (character : Character) (m n : MachineState) : Type 0 where
  pub stays : (size : FifoSize) (count : ℕ) (taken : List Character) → Behind size count taken m.chip.receiver →
      Behind size count (taken ++ character ∷ []) n.chip.receiver
  pub tells : FlagTells m.chip.receiver → has_any line LSR.OVERRUN_ERROR.0 ≡ true →
      IsLost n.chip.receiver.size ((character ∷ []) ++ n.chip.receiver.queue) n.chip.receiver.marks
  pub flag : FlagTells n.chip.receiver

pub hit_tells : (x : Modes) (m k n : MachineState) (line byte : ℕ) (front : Character) (others : List Character) → x.fifo ≡ true →
    IsOpen x → Stands x m → Stands x k → MachineStep m (Read offsets.LSR line) k → MachineStep k (Read offsets.DATA byte) n →
    (at_access k).chip.receiver.queue ≡ front ∷ others → is_dlab_set (at_access k).chip.latches ≡ false → HitTells line front m n
hit_tells x m k n line byte front others on o w v s t queue off =
    let r = (at_access k).chip.receiver in
    let marked = marked_access x on o k v in
    let after : n.chip.receiver ≡ take_front (front ∷ others) r = rw (t.0, off, queue) refl in
    let stays : (size : FifoSize) (count : ℕ) (taken : List Character) → Behind size count taken (at_access m).chip.receiver →
    Behind size count (taken ++ front ∷ []) n.chip.receiver = λ size count taken p.
    let R : ReceiverState → Type 0 = λ q. Behind size count (taken ++ front ∷ []) q in
    subst R (sym after)
    (behind_taken size count taken r front others marked queue
    (behind_access x on o k v size count taken (looked_behind size count taken m k line s p))) in
    let F : ReceiverState → Type 0 = λ q. FlagTells q in
    record {
      stays = λ size count taken p. stays size count taken (behind_access x on o m w size count taken p);
      tells = λ f shown. lost_stays (at_access m).chip.receiver n.chip.receiver [] (front ∷ [])
          (λ count p. stays (at_access m).chip.receiver.size count [] p) (flag_access x on o m w f (shows_flag m k line s shown));
      flag = subst F (sym after)
          (flag_taken r front others marked queue
          (after_look_access x on o k v (λ set. let clear = cleared m k line s in absurd (cc))));
    }

-- ---- other accesses

flag_read : (offset : ℕ) (c d : ChipState) → offset ≢ offsets.DATA → ReadMove offset c d → FlagTells c.receiver → FlagTells d.receiver
flag_read offset c d other (takes e q) p = absurd (other e)
flag_read offset c d other (looks e) p = λ set. absurd (cc)
flag_read offset c d other _ p = p

flag_write : (offset value : ℕ) (c d : ChipState) → offset ≢ offsets.FCR → WriteMove offset value c d → FlagTells c.receiver →
    FlagTells d.receiver
flag_write offset value c d other (switches e m on) p = absurd (other e)
flag_write offset value c d other (resizes e s) p = absurd (other e)
flag_write offset value c d other (clears e) p = absurd (other e)
flag_write offset value c d other (triggers e level) p = absurd (other e)
flag_write offset value c d other _ p = p

-- none of these takes a character or resets the receiver
pub flag_lasts : (x : Modes) (access : Access) (m n : MachineState) → x.fifo ≡ true → IsOpen x → Stands x m → LeavesReceiver access →
    MachineStep m access n → FlagTells m.chip.receiver → FlagTells n.chip.receiver
flag_lasts x (Read offset value) m n on o w other s p =
    let F : MachineState → Type 0 = λ k. FlagTells k.chip.receiver in
    subst F (sym s.0)
    (flag_read offset (at_access m).chip (after_read offset (at_access m).chip) other (read_move offset (at_access m).chip)
    (flag_access x on o m w p))
flag_lasts x (Write offset value) m n on o w other s p =
    let F : MachineState → Type 0 = λ k. FlagTells k.chip.receiver in
    subst F (sym s)
    (flag_write offset value (at_access m).chip (after_write offset value (at_access m).chip) other
    (write_move offset value (at_access m).chip other) (flag_access x on o m w p))

-- after a look the flag is clear
pub flag_looked : (m n : MachineState) (line : ℕ) → MachineStep m (Read offsets.LSR line) n → FlagTells n.chip.receiver
flag_looked m n line s = λ set. let clear = cleared m n line s in absurd (cc)

-- ---- bytes in order

-- what stays lost is told later too
pub tells_later : (items : List Received) (characters : List Character) (r s : ReceiverState) →
    ((size : FifoSize) (count : ℕ) (taken : List Character) → Behind size count taken r → Behind size count taken s) →
    OverrunsTell items characters r → OverrunsTell items characters s
tells_later [] characters r s stays h = tt
tells_later (received ∷ items) [] r s stays h = absurd h
tells_later (received ∷ items) (character ∷ characters) r s stays h = (
  (λ shown. lost_stays r s (character ∷ characters) (character ∷ characters)
      (λ count p. stays r.size count (character ∷ characters) p) (h.0 shown)),
  tells_later items characters r s stays h.1,
)
