-- What each access does to the machine and to the notes above it, with the FIFO on and outside of loopback.
use Rattle.uart_ring_runs.proofs.Names.{◌≡◌, ◌⊎◌, ℕ, ◌<◌, Bool, true, false, ◌||◌, ◌==◌, inl, inr, List, [], ◌∷◌, ◌++◌, length, nat_lt}
use Rattle.uart_ring_runs.proofs.Names.{refl, sym, ◌∙◌, ap, subst, arith, append-nil, append_assoc, length-append, bit_and, bit_or}
use Rattle.uart_ring_runs.proofs.Names.{if◌then◌else◌, AllByRecursion, false≢true, common_steps, or_zero_r, Path, has, has_any, Access}
use Rattle.uart_ring_runs.proofs.Names.{Read, Write, ChipState, is_dlab_set, is_loopback, line_status, after_read, after_write, front_of}
use Rattle.uart_ring_runs.proofs.Names.{reported_front, MachineState, MachineStep, at_access, at_mark, kept_bit, ReceiverState}
use Rattle.uart_ring_runs.proofs.Names.{front_errors, report, grow_timeout, IsMarked, IsSound, room, Character, both_if, ReadMove, takes}
use Rattle.uart_ring_runs.proofs.Names.{looks, read_move, and_or, has_and, has_not, has_one, has_or, sound_access, sound_read, sound_write}
use Rattle.uart_ring_runs.proofs.Names.{sound_mark, character_errors, line_errors, and_twice, Kept, kept_in, kept_access, kept_step}
use Rattle.uart_ring_runs.proofs.Names.{kept-before_mark, Behind, came, behind_came, flag_came, lost_stays, Notes, with_access, told_errors}
use Rattle.uart_ring_runs.proofs.Names.{Queue, shown_of, AreTheirs, AreUnlooked, IsInStep}
use Rattle.std.proofs.lemmas.Nat.{and_assoc, or_comm}
use Rattle.uart_spec.specs.declared.registers.line_control.TheConstants.LCR
use Rattle.uart_spec.specs.declared.registers.line_status.TheConstants.LSR
use Rattle.uart_spec.specs.declared.registers.modem_control.TheConstants.MCR
use Rattle.uart_spec.specs.declared.registers.offsets.TheConstants as offsets
use Rattle.uart_chip.specs.Receiver as receiver
use Rattle.uart_spec.specs.declared.setup.FifoSize.{FifoSize}
use Rattle.uart_chip.proofs.statuses.Status.{status_overrun}
use Rattle.uart_run.specs.Overruns.{IsLost, FlagTells}
use Rattle.uart_run.proofs.Between.{access_lasts, mark_lasts}

-- ---- the receiver and what was shown of it

-- what was shown is of its front, and what was shown of overruns and the flag tell where a character was lost
pub record Fits (shown : ℕ) (r : ReceiverState) : Type 0 where
  pub front : character_errors shown ≡ shown_of (reported_front r)
  pub lost : has_any shown LSR.OVERRUN_ERROR.0 ≡ true → IsLost r.size r.queue r.marks
  pub flag : FlagTells r

abbrev ShownAs : ℕ → ReceiverState → Type 0
ShownAs errors r = shown_of (reported_front r) ≡ errors

-- a character that comes does not become the front, unless there is none; then nothing was shown of it
shown_behind : (errors : ℕ) (queue : List Character) (new : Character) (reported : Bool) → shown_of (front_of queue reported) ≡ errors →
    shown_of (front_of (queue ++ new ∷ []) (if length queue == 0 then false else reported)) ≡ errors
shown_behind errors [] new reported e = e
shown_behind errors (front ∷ others) new true e =
    let some : (length (front ∷ others) == 0) ≡ false = grind (arith, common_steps) in rw some e
shown_behind errors (front ∷ others) new false e =
    let some : (length (front ∷ others) == 0) ≡ false = grind (arith, common_steps) in rw some e

shown_arrives : (errors : ℕ) (r : ReceiverState) (byte line : ℕ) → ShownAs errors r →
    ShownAs errors (receiver.arrive false true byte line r)
shown_arrives errors r byte line e =
    both_if (ShownAs errors) _ _ (nat_lt (length r.queue) (room true r.size)) (shown_behind errors r.queue _ r.is_front_reported e) e

-- ---- events

-- what lasts while time passes and characters arrive lasts from the one machine to the other
abbrev pub Elapses : MachineState → MachineState → Type 1
Elapses m n = (P : ReceiverState → Type 0) → ((r : ReceiverState) → P r → P (grow_timeout r)) →
    ((r : ReceiverState) (byte errors : ℕ) → IsMarked true r → r.arrived < length r.marks → P r →
    P (receiver.arrive false true byte errors r)) → P m.chip.receiver → P n.chip.receiver

module _ (m n : MachineState) (lasts : Elapses m n) where
  pub behind_events : (size : FifoSize) (count : ℕ) (taken : List Character) → Behind size count taken m.chip.receiver →
      Behind size count taken n.chip.receiver
  behind_events size count taken =
      lasts (Behind size count taken) (λ r p. p)
      (λ r byte errors marked within p. behind_came size count taken byte errors r _ marked (came r byte errors) p)

  -- what was shown of the front
  pub front_events : (errors : ℕ) → shown_of (reported_front m.chip.receiver) ≡ errors → shown_of (reported_front n.chip.receiver) ≡ errors
  front_events errors = lasts (ShownAs errors) (λ r e. e) (λ r byte line marked within e. shown_arrives errors r byte line e)

  lost_events : IsLost m.chip.receiver.size m.chip.receiver.queue m.chip.receiver.marks →
      IsLost n.chip.receiver.size n.chip.receiver.queue n.chip.receiver.marks
  lost_events = lost_stays m.chip.receiver n.chip.receiver [] [] (λ count p. behind_events m.chip.receiver.size count [] p)

  pub fits_events : (shown : ℕ) → Fits shown m.chip.receiver → Fits shown n.chip.receiver
  fits_events shown p = record {
    front = sym (front_events (character_errors shown) (sym p.front));
    lost = λ was. lost_events (p.lost was);
    flag = lasts FlagTells (λ r f. f)
        (λ r byte errors marked within f. flag_came byte errors r _ marked within (came r byte errors) f) p.flag;
  }

-- ---- a look

pub either : (a b : Bool) → (a || b) ≡ true → (a ≡ true) ⊎ (b ≡ true)
either true b e = inl refl
either false b e = inr e

-- an overrun that joins what was shown was shown before, or is shown now and is not an old one
pub either_shown : (is_old : Bool) (shown line : ℕ) →
    has_any (bit_or shown (bit_and line (told_errors is_old))) LSR.OVERRUN_ERROR.0 ≡ true →
    (has_any shown LSR.OVERRUN_ERROR.0 ≡ true) ⊎ ((is_old ≡ false) × (has_any line LSR.OVERRUN_ERROR.0 ≡ true))
either_shown true shown line e =
    let none = has_not 1 line LSR.CHARACTER_ERRORS.0 refl in
    elim (either (has_any shown LSR.OVERRUN_ERROR.0) (has_any (bit_and line LSR.CHARACTER_ERRORS.0) LSR.OVERRUN_ERROR.0)
    (sym (has_or 1 shown (bit_and line LSR.CHARACTER_ERRORS.0)) ∙ e)) [
      | inl was ↦ inl was
      | inr now ↦ absurd (false≢true (sym none ∙ now))
    ]
either_shown false shown line e =
    elim (either (has_any shown LSR.OVERRUN_ERROR.0) (has_any (bit_and line LSR.LINE_ERRORS.0) LSR.OVERRUN_ERROR.0)
    (sym (has_or 1 shown (bit_and line LSR.LINE_ERRORS.0)) ∙ e)) [
      | inl was ↦ inl was
      | inr now ↦ inr (refl, sym (has_and 1 line LSR.LINE_ERRORS.0 refl) ∙ now)
    ]

-- the errors of a character are told in any case
told_masked : (is_old : Bool) (line : ℕ) → character_errors (bit_and line (told_errors is_old)) ≡ character_errors line
told_masked true line = and_assoc LSR.CHARACTER_ERRORS.0 line LSR.CHARACTER_ERRORS.0
told_masked false line = and_assoc LSR.CHARACTER_ERRORS.0 line LSR.LINE_ERRORS.0

-- what was shown of the front, joined with what this look shows of it, is what has been shown then
joined_front : (queue : List Character) (reported : Bool) →
    bit_or (shown_of (front_of queue reported)) (character_errors (front_errors queue reported)) ≡
    shown_of (front_of queue (if length queue == 0 then reported else true))
joined_front [] reported = refl
joined_front (front ∷ others) true =
    let some : (length (front ∷ others) == 0) ≡ false = grind (arith, common_steps) in
    rw some (or_zero_r (character_errors front.errors))
joined_front (front ∷ others) false =
    let some : (length (front ∷ others) == 0) ≡ false = grind (arith, common_steps) in
    rw some (or_comm 0 _ ∙ (or_zero_r _ ∙ and_twice front.errors LSR.CHARACTER_ERRORS.0))

pub front_look : (c : ChipState) (is_old : Bool) (shown : ℕ) → character_errors shown ≡ shown_of (reported_front c.receiver) →
    character_errors (bit_or shown (bit_and (line_status c) (told_errors is_old))) ≡ shown_of (reported_front (report c.receiver))
front_look c is_old shown front =
    let told = bit_and (line_status c) (told_errors is_old) in
    let masked : character_errors told ≡ character_errors (front_errors c.receiver.queue c.receiver.is_front_reported) =
    told_masked is_old (line_status c) ∙ line_errors c in
    and_or shown told LSR.CHARACTER_ERRORS.0 ∙ ((λ i. bit_or (front i) (masked i))
    ∙ joined_front c.receiver.queue c.receiver.is_front_reported)

fits_look : (c : ChipState) (is_old : Bool) (shown : ℕ) → Fits shown c.receiver →
    Fits (bit_or shown (bit_and (line_status c) (told_errors is_old))) (report c.receiver)
fits_look c is_old shown p = record {
  front = front_look c is_old shown p.front;
  lost = λ now. elim (either_shown is_old shown (line_status c) now) [
    | inl was ↦ p.lost was
    | inr is ↦ p.flag (sym (status_overrun c) ∙ is.1)
  ];
  flag = λ set. absurd (cc);
}

-- ---- what an access leaves

-- the notes are in step with a sound machine
pub record Along (a : Notes) (m : MachineState) : Type 0 where
  pub sound : IsSound m
  pub fifo : m.chip.fifo ≡ true
  pub loopback : is_loopback m.chip.latches ≡ false
  pub latch : a.is_latch ≡ is_dlab_set m.chip.latches
  pub fits : Fits a.shown m.chip.receiver

-- up to the next access
to_access : (a : Notes) (m : MachineState) → Along a m → Elapses m (at_access m)
to_access a m w = λ P idles arrives. access_lasts P idles arrives m w.sound w.fifo w.loopback

pub fits_access : (a : Notes) (m : MachineState) → Along a m → Fits a.shown (at_access m).chip.receiver
fits_access a m w = fits_events m (at_access m) (to_access a m w) a.shown w.fits

behind_access : (a : Notes) (m : MachineState) → Along a m → (size : FifoSize) (count : ℕ) (taken : List Character) →
    Behind size count taken m.chip.receiver → Behind size count taken (at_access m).chip.receiver
behind_access a m w = behind_events m (at_access m) (to_access a m w)

-- from m to n these characters were taken, and of each these errors were noted
pub record Noted (a b : Notes) (m n : MachineState) (takes : List Character) : Type 0 where
  pub along : Along b n
  pub errors : List ℕ
  pub front : List ℕ
  pub noted : front ++ b.noted.items ≡ a.noted.items ++ errors
  pub as_many : length errors ≡ length takes
  pub theirs : AreTheirs errors takes n.chip.receiver
  pub stays : (size : FifoSize) (count : ℕ) (taken : List Character) → Behind size count taken m.chip.receiver →
      Behind size count (taken ++ takes) n.chip.receiver

-- nothing was taken
pub noted_none : (a b : Notes) (m n : MachineState) → Along b n → b.noted ≡ a.noted →
    ((size : FifoSize) (count : ℕ) (taken : List Character) → Behind size count taken m.chip.receiver →
    Behind size count taken n.chip.receiver) → Noted a b m n []
noted_none a b m n along same stays = record {
  along = along;
  errors = [];
  front = [];
  noted = ap (λ (q : Queue). q.items) same ∙ sym (append-nil a.noted.items);
  as_many = refl;
  theirs = tt;
  stays = λ size count taken p.
      subst (λ (cs : List Character). Behind size count cs n.chip.receiver) (sym (append-nil taken)) (stays size count taken p);
}

-- an access that leaves receiver and notes to themselves
noted_still : (a b : Notes) (m n : MachineState) → Along a m → n.chip.receiver ≡ (at_access m).chip.receiver → IsSound n →
    n.chip.fifo ≡ true → is_loopback n.chip.latches ≡ false → b.is_latch ≡ is_dlab_set n.chip.latches → b.shown ≡ a.shown →
    b.noted ≡ a.noted → Noted a b m n []
noted_still a b m n w same sound on off latch shown noted =
    noted_none a b m n (record {
      sound = sound;
      fifo = on;
      loopback = off;
      latch = latch;
      fits =
          let F : ReceiverState → Type 0 = λ r. Fits b.shown r in
          let G : ℕ → Type 0 = λ v. Fits v (at_access m).chip.receiver in
          subst F (sym same) (subst G (sym shown) (fits_access a m w));
    }) noted (λ size count taken p.
    let B : ReceiverState → Type 0 = λ r. Behind size count taken r in
    subst B (sym same) (behind_access a m w size count taken p))

-- the access leaves the receiver to itself, or is a look
pub data Tame : Access → Type 0 where
  Looks : (line : ℕ) → Tame (Read offsets.LSR line)
  Reads : (offset answer : ℕ) → (offset == offsets.LSR) ≡ false → (offset == offsets.DATA) ≡ false → Tame (Read offset answer)
  Sends : (value : ℕ) → Tame (Write offsets.DATA value)
  Enables : (value : ℕ) → Tame (Write offsets.IER value)
  Frames : (value : ℕ) → Tame (Write offsets.LCR value)
  Steers : (value : ℕ) → has_any value MCR.LOOP_BACK.0 ≡ false → Tame (Write offsets.MCR value)
  Keeps : (value : ℕ) → Tame (Write offsets.SPR value)

-- a read leaves latches and mode
pub read_kept : (m n : MachineState) (offset answer : ℕ) → MachineStep m (Read offset answer) n → kept_in n.chip ≡ kept_in m.chip
read_kept m n offset answer s = kept_step (Read offset answer) m n s

pub read_sound : (m n : MachineState) (offset answer : ℕ) → IsSound m → MachineStep m (Read offset answer) n → IsSound n
read_sound m n offset answer w s = subst IsSound (sym s.0) (sound_read offset (at_access m) (sound_access m w))

pub write_sound : (m n : MachineState) (offset value : ℕ) → IsSound m → MachineStep m (Write offset value) n → IsSound n
write_sound m n offset value w s = subst IsSound (sym s) (sound_write offset value (at_access m) (sound_access m w))

-- a read of another register than LSR and DATA, or of DATA under DLAB
read_still : (a : Notes) (m n : MachineState) (offset answer : ℕ) → Along a m → MachineStep m (Read offset answer) n →
    (after_read offset (at_access m).chip).receiver ≡ (at_access m).chip.receiver → Noted a a m n []
read_still a m n offset answer w s same =
    let k = read_kept m n offset answer s in
    noted_still a a m n w (ap (λ (v : MachineState). v.chip.receiver) s.0 ∙ same) (read_sound m n offset answer w.sound s)
    (ap (λ (v : Kept). v.fifo) k ∙ w.fifo) (ap (λ (v : Kept). is_loopback v.latches) k ∙ w.loopback)
    (w.latch ∙ sym (ap (λ (v : Kept). is_dlab_set v.latches) k)) refl refl

pub other_read : (offset : ℕ) (c d : ChipState) → (offset == offsets.LSR) ≡ false → (offset == offsets.DATA) ≡ false → ReadMove offset c d →
    d.receiver ≡ c.receiver
other_read offset c d no_look no_data (takes e q) = let is : (offset == offsets.DATA) ≡ true = rw e refl in absurd (cc)
other_read offset c d no_look no_data (looks e) = let is : (offset == offsets.LSR) ≡ true = rw e refl in absurd (cc)
other_read offset c d no_look no_data _ = refl

-- a look
pub look_noted : (a : Notes) (m n : MachineState) (line : ℕ) → Along a m → MachineStep m (Read offsets.LSR line) n →
    Noted a (with_access (Read offsets.LSR line) a) m n []
look_noted a m n line w s =
    let k = read_kept m n offsets.LSR line s in
    let c = (at_access m).chip in
    let same : n.chip.receiver ≡ report c.receiver = ap (λ (v : MachineState). v.chip.receiver) s.0 in
    noted_none a (with_access (Read offsets.LSR line) a) m n (record {
      sound = read_sound m n offsets.LSR line w.sound s;
      fifo = ap (λ (v : Kept). v.fifo) k ∙ w.fifo;
      loopback = ap (λ (v : Kept). is_loopback v.latches) k ∙ w.loopback;
      latch = w.latch ∙ sym (ap (λ (v : Kept). is_dlab_set v.latches) k);
      fits =
          let F : ReceiverState → Type 0 = λ r. Fits (bit_or a.shown (bit_and line (told_errors a.is_overrun_old))) r in
          let G : ℕ → Type 0 = λ v. Fits (bit_or a.shown (bit_and v (told_errors a.is_overrun_old))) (report c.receiver) in
          subst F (sym same) (subst G (sym s.1) (fits_look c a.is_overrun_old a.shown (fits_access a m w)));
    }) refl (λ size count taken p.
    let B : ReceiverState → Type 0 = λ r. Behind size count taken r in
    subst B (sym same) (behind_access a m w size count taken p))

-- a write that keeps the receiver, the FIFO's mode and the latch
write_still : (a b : Notes) (m n : MachineState) (offset value : ℕ) → Along a m → MachineStep m (Write offset value) n →
    (after_write offset value (at_access m).chip).receiver ≡ (at_access m).chip.receiver →
    n.chip.fifo ≡ m.chip.fifo → is_loopback n.chip.latches ≡ false → b.is_latch ≡ is_dlab_set n.chip.latches → b.shown ≡ a.shown →
    b.noted ≡ a.noted → Noted a b m n []
write_still a b m n offset value w s same fifo off latch shown noted =
    noted_still a b m n w (ap (λ (v : MachineState). v.chip.receiver) s ∙ same) (write_sound m n offset value w.sound s)
    (fifo ∙ w.fifo) off latch shown noted

pub tame_noted : (access : Access) (a : Notes) (m n : MachineState) → Tame access → Along a m → MachineStep m access n →
    Noted a (with_access access a) m n []
tame_noted access a m n (Looks line) w s = look_noted a m n line w s
tame_noted access a m n (Reads offset answer no_look no_data) w s =
    rw (no_look, no_data) (read_still a m n offset answer w s
    (other_read offset (at_access m).chip _ no_look no_data (read_move offset (at_access m).chip)))
tame_noted access a m n (Sends value) w s =
    let k = kept_step (Write offsets.DATA value) m n s in
    let dlab = is_dlab_set m.chip.latches in
    write_still a a m n offsets.DATA value w s
    (both_if (λ (c : ChipState). c.receiver ≡ (at_access m).chip.receiver) _ _ (is_dlab_set (at_access m).chip.latches) refl refl)
    (ap (λ (v : Kept). v.fifo) k ∙ both_if (λ (v : Kept). v.fifo ≡ m.chip.fifo) _ _ dlab refl refl)
    (ap (λ (v : Kept). is_loopback v.latches) k ∙ both_if (λ (v : Kept). is_loopback v.latches ≡ false) _ _ dlab w.loopback w.loopback)
    (w.latch ∙ sym (ap (λ (v : Kept). is_dlab_set v.latches) k
    ∙ both_if (λ (v : Kept). is_dlab_set v.latches ≡ dlab) _ _ dlab refl refl)) refl refl
tame_noted access a m n (Enables value) w s =
    let k = kept_step (Write offsets.IER value) m n s in
    let dlab = is_dlab_set m.chip.latches in
    write_still a a m n offsets.IER value w s
    (both_if (λ (c : ChipState). c.receiver ≡ (at_access m).chip.receiver) _ _ (is_dlab_set (at_access m).chip.latches) refl refl)
    (ap (λ (v : Kept). v.fifo) k ∙ both_if (λ (v : Kept). v.fifo ≡ m.chip.fifo) _ _ dlab refl refl)
    (ap (λ (v : Kept). is_loopback v.latches) k ∙ both_if (λ (v : Kept). is_loopback v.latches ≡ false) _ _ dlab w.loopback w.loopback)
    (w.latch ∙ sym (ap (λ (v : Kept). is_dlab_set v.latches) k
    ∙ both_if (λ (v : Kept). is_dlab_set v.latches ≡ dlab) _ _ dlab refl refl)) refl refl
tame_noted access a m n (Frames value) w s =
    let k = kept_step (Write offsets.LCR value) m n s in
    write_still a (record a { is_latch = has value LCR.DLAB.0 }) m n offsets.LCR value w s refl (ap (λ (v : Kept). v.fifo) k)
    (ap (λ (v : Kept). is_loopback v.latches) k ∙ w.loopback)
    (has_one 7 value ∙ sym (ap (λ (v : Kept). is_dlab_set v.latches) k)) refl refl
tame_noted access a m n (Steers value off) w s =
    let k = kept_step (Write offsets.MCR value) m n s in
    write_still a a m n offsets.MCR value w s refl (ap (λ (v : Kept). v.fifo) k)
    (ap (λ (v : Kept). is_loopback v.latches) k ∙ (kept_bit m.chip.auto_flow 4 value refl refl ∙ off))
    (w.latch ∙ sym (ap (λ (v : Kept). is_dlab_set v.latches) k)) refl refl
tame_noted access a m n (Keeps value) w s =
    let k = kept_step (Write offsets.SPR value) m n s in
    write_still a a m n offsets.SPR value w s refl (ap (λ (v : Kept). v.fifo) k)
    (ap (λ (v : Kept). is_loopback v.latches) k ∙ w.loopback)
    (w.latch ∙ sym (ap (λ (v : Kept). is_dlab_set v.latches) k)) refl refl

-- what is read of the divisor latch is no byte
unlatched : (a : Notes) (low : ℕ) → a.is_latch ≡ true → a ≡ with_access (Read offsets.DLL low) a
unlatched a low on = rw on refl

-- its low byte is read, at the offset of DATA
pub latch_noted : (a : Notes) (m n : MachineState) (low : ℕ) → Along a m → a.is_latch ≡ true → MachineStep m (Read offsets.DLL low) n →
    Noted a (with_access (Read offsets.DLL low) a) m n []
latch_noted a m n low w on s =
    let c = (at_access m).chip in
    let dlab : is_dlab_set c.latches ≡ true = ap (λ (v : Kept). is_dlab_set v.latches) (kept_access m) ∙ (sym w.latch ∙ on) in
    let still : after_read offsets.DATA c ≡ c = rw dlab refl in
    let N : Notes → Type 0 = λ b. Noted a b m n [] in
    subst N (unlatched a low on) (read_still a m n offsets.DATA low w s (ap (λ (v : ChipState). v.receiver) still))

-- ---- one stretch and then another

-- errors stay those of their characters
pub theirs_later : (errors : List ℕ) (characters more : List Character) (r s : ReceiverState) →
    ((size : FifoSize) (count : ℕ) (taken : List Character) → Behind size count taken r → Behind size count (taken ++ more) s) →
    AreTheirs errors characters r → AreTheirs errors (characters ++ more) s
theirs_later [] characters more r s stays h = tt
theirs_later (one ∷ errors) [] more r s stays h = absurd h
theirs_later (one ∷ errors) (character ∷ characters) more r s stays (same, lost, rest) = (
  same,
  (λ shown. lost_stays r s (character ∷ characters) (character ∷ (characters ++ more))
      (λ count p. stays r.size count (character ∷ characters) p) (lost shown)),
  theirs_later errors characters more r s stays rest,
)

pub theirs_append : (errors others : List ℕ) (characters more : List Character) (r : ReceiverState) → length errors ≡ length characters →
    AreTheirs errors (characters ++ more) r → AreTheirs others more r → AreTheirs (errors ++ others) (characters ++ more) r
theirs_append [] others [] more r same h k = k
theirs_append [] others (character ∷ characters) more r same h k = absurd (omega (arith, same))
theirs_append (one ∷ errors) others [] more r same h k = absurd (omega (arith, same))
theirs_append (one ∷ errors) others (character ∷ characters) more r same h k =
    (h.0, h.1, theirs_append errors others characters more r (omega (arith, same)) h.2 k)

pub noted_then : (a b c : Notes) (m n o : MachineState) (ts us : List Character) → Noted a b m n ts → Noted b c n o us →
    Noted a c m o (ts ++ us)
noted_then a b c m n o ts us p q = record {
  along = q.along;
  errors = p.errors ++ q.errors;
  front = p.front ++ q.front;
  noted = append_assoc p.front q.front c.noted.items ∙ (ap (λ zs. p.front ++ zs) q.noted
      ∙ (sym (append_assoc p.front b.noted.items q.errors) ∙ (ap (λ zs. zs ++ q.errors) p.noted
      ∙ append_assoc a.noted.items p.errors q.errors)));
  as_many =
      let first = length-append p.errors q.errors in
      let second = length-append ts us in omega (arith, first, second, p.as_many, q.as_many);
  theirs = theirs_append p.errors q.errors ts us o.chip.receiver p.as_many
      (theirs_later p.errors ts us n.chip.receiver o.chip.receiver q.stays p.theirs) q.theirs;
  stays = λ size count taken h. subst (λ (cs : List Character). Behind size count cs o.chip.receiver) (append_assoc taken ts us)
      (q.stays size count (taken ++ ts) (p.stays size count taken h));
}

pub noted_start : (a : Notes) (m : MachineState) → Along a m → Noted a a m m []
noted_start a m w = noted_none a a m m w refl (λ size count taken p. p)

-- what these accesses make of the notes
abbrev pub with_accesses : List Access → Notes → Notes
with_accesses [] a = a
with_accesses (access ∷ accesses) a = with_accesses accesses (with_access access a)

pub with_append : (xs ys : List Access) (a : Notes) → with_accesses (xs ++ ys) a ≡ with_accesses ys (with_accesses xs a)
with_append [] ys a = refl
with_append (x ∷ xs) ys a = with_append xs ys (with_access x a)

-- only such accesses
abbrev pub AllTame : List Access → Type 0
AllTame accesses = AllByRecursion Tame accesses

pub all_tame_noted : (l : List Access) (a : Notes) (m n : MachineState) → AllTame l → Along a m → Path MachineStep m l n →
    Noted a (with_accesses l a) m n []
all_tame_noted [] a m n tame w p = rw p (noted_start a m w)
all_tame_noted (access ∷ accesses) a m n tame w p =
    let first = tame_noted access a m p.0 tame.0 w p.1 in
    noted_then a (with_access access a) (with_accesses accesses (with_access access a)) m p.0 n [] [] first
    (all_tame_noted accesses (with_access access a) p.0 n tame.1 first.along p.2)

-- ---- where the notes begin

pub front_until : (m : MachineState) → IsSound m → m.chip.fifo ≡ true → is_loopback m.chip.latches ≡ false → (errors : ℕ) →
    shown_of (reported_front m.chip.receiver) ≡ errors → shown_of (reported_front (at_access m).chip.receiver) ≡ errors
front_until m sound on off errors e =
    front_events m (at_access m) (λ P idles arrives. access_lasts P idles arrives m sound on off) errors e

-- after the first look, if nothing was shown before of a character that waits
pub notes_begin : (a : Notes) (m n : MachineState) (line : ℕ) → IsSound m → m.chip.fifo ≡ true → is_loopback m.chip.latches ≡ false →
    AreUnlooked a → shown_of (reported_front m.chip.receiver) ≡ 0 → MachineStep m (Read offsets.LSR line) n →
    IsInStep (with_access (Read offsets.LSR line) a) n.chip.receiver
notes_begin a m n line sound on off begins none s =
    let c = (at_access m).chip in
    let same : n.chip.receiver ≡ report c.receiver = ap (λ (v : MachineState). v.chip.receiver) s.0 in
    let before : character_errors a.shown ≡ shown_of (reported_front c.receiver) =
    ap character_errors begins.shown ∙ sym (front_until m sound on off 0 none) in
    let told = told_errors a.is_overrun_old in
    let shows : character_errors (bit_or a.shown (bit_and line told)) ≡ shown_of (reported_front n.chip.receiver) =
    ap (λ (v : ℕ). character_errors (bit_or a.shown (bit_and v told))) s.1
    ∙ (front_look c a.is_overrun_old a.shown before ∙ ap (λ (r : ReceiverState). shown_of (reported_front r)) (sym same)) in
    record {
      latch = begins.latch;
      shown = shows;
      lost = λ set. elim (either_shown a.is_overrun_old a.shown line set) [
        | inl was ↦ let not : has_any a.shown LSR.OVERRUN_ERROR.0 ≡ false = rw begins.shown refl in absurd (false≢true (sym not ∙ was))
        | inr is ↦ absurd (false≢true (sym is.0 ∙ begins.old))
      ];
      flag = λ set. let cleared : n.chip.receiver.is_overrun ≡ false = ap (λ (r : ReceiverState). r.is_overrun) same in
          absurd (false≢true (sym cleared ∙ set));
    }

-- ---- up to the next mark

pub noted_mark : (a : Notes) (m : MachineState) → Along a m → Noted a a m (at_mark m) []
noted_mark a m w =
    let lasts : Elapses m (at_mark m) = λ P idles arrives. mark_lasts P idles arrives m w.sound w.fifo w.loopback in
    let k = kept-before_mark m.ahead m.chip in
    noted_none a a m (at_mark m) (record {
      sound = sound_mark m w.sound;
      fifo = ap (λ (v : Kept). v.fifo) k ∙ w.fifo;
      loopback = ap (λ (v : Kept). is_loopback v.latches) k ∙ w.loopback;
      latch = w.latch ∙ sym (ap (λ (v : Kept). is_dlab_set v.latches) k);
      fits = fits_events m (at_mark m) lasts a.shown w.fits;
    }) refl (behind_events m (at_mark m) lasts)
