-- What a chip keeps while nobody resets its FIFO or writes MCR: its outputs, and each character for which there is room.
use Rattle.uart_link.proofs.Names.{◌≡◌, ℕ, zero, suc, ◌+◌, ◌≤◌, ◌<◌, ◌==◌, ◌||◌, Bool, true, false, nat_lt, List, [], ◌∷◌, length, map}
use Rattle.uart_link.proofs.Names.{refl, sym, ◌∙◌, ap, subst, arith, if◌then◌else◌, bit_or, ◌⊎◌, inl, inr, length-append, AllByRecursion}
use Rattle.uart_link.proofs.Names.{common_steps, nat_tests, or-false, Event, Ticks, Arrive, Lines, Gate, Mark, Path, has, has_any, IsWithin}
use Rattle.uart_link.proofs.Names.{Access, Read, Write, Character, Arrived, kept_mcr, kept_bit, ReceiverState, take_front, report}
use Rattle.uart_link.proofs.Names.{grow_timeout, looped_byte, ChipState, is_loopback, is_held_off, is_dlab_set, interrupt, is_thr_empty}
use Rattle.uart_link.proofs.Names.{tick, ticks, arrive, change_lines, answer, after_read, after_write, cut_of, control_modem, with_latches}
use Rattle.uart_link.proofs.Names.{MachineState, MachineStep, before_access, after_access, at_access, before_mark, IsSound, characters}
use Rattle.uart_link.proofs.Names.{has_one, has_or, has_not, each-append, origin_stands, Drop, drop_split, no_drop-set, LastsInEvents}
use Rattle.uart_link.proofs.Names.{chip_lasts-before, chip_lasts-before_mark, latches-read, sound_access, sound_step}
use Rattle.uart_events.specs.declared.event.ArrivalMark.TheVariants as marks
use Rattle.uart_spec.specs.declared.registers.modem_control.TheConstants.MCR
use Rattle.uart_spec.specs.declared.registers.modem_status.TheConstants.MSR
use Rattle.uart_spec.specs.declared.registers.offsets.TheConstants as offsets
use Rattle.uart_chip.specs.Modem.{ModemState}
use Rattle.uart_chip.specs.Receiver as receiver
use Rattle.uart_chip.specs.Transmitter as transmitter
use Rattle.uart_chip.proofs.conservation.Blocks.{is_quiet, Block, Look, Hit, Burst, Other, Divisor, accesses_of, AllQuiet, IsFit}
use Rattle.uart_chip.proofs.conservation.Blocks.{AllFit, flat}
use Rattle.uart_link.proofs.Held.{ShowsCts, AllShowCts}

-- ---- accesses that reset nothing

-- the access does not write FCR, and writes no loopback to MCR
abbrev pub IsMild : Access → Type 0
IsMild (Read offset value) = Unit {0}
IsMild (Write offset value) =
    ((offset == offsets.FCR) ≡ false)
    × ((offset == offsets.MCR) ≡ true → has_any value MCR.LOOP_BACK.0 ≡ false)

abbrev pub AllMild : List Access → Type 0
AllMild accesses = AllByRecursion IsMild accesses

-- nor MCR at all
abbrev pub LeavesMcr : Access → Type 0
LeavesMcr (Read offset value) = Unit {0}
LeavesMcr (Write offset value) = ((offset == offsets.FCR) ≡ false) × ((offset == offsets.MCR) ≡ false)

abbrev pub AllLeaveMcr : List Access → Type 0
AllLeaveMcr accesses = AllByRecursion LeavesMcr accesses

pub all_mild : (accesses : List Access) → AllLeaveMcr accesses → AllMild accesses
all_mild [] h = tt
all_mild (Read offset value ∷ accesses) h = (tt, all_mild accesses h.1)
all_mild (Write offset value ∷ accesses) h =
    ((h.0.0, λ e. absurd (let f = h.0.1 in cc)), all_mild accesses h.1)

quiet_leaves : (access : Access) → is_quiet access ≡ true → LeavesMcr access
quiet_leaves (Read offset value) q = tt
quiet_leaves (Write offset value) q = go (offset == offsets.IER) refl q
  where
    go : (b : Bool) → (offset == offsets.IER) ≡ b → (b || (offset == offsets.SPR)) ≡ true → LeavesMcr (Write offset value)
    go true e q = let is : offset ≡ offsets.IER = grind (arith, nat_tests) in rw is (refl, refl)
    go false e q = let is : offset ≡ offsets.SPR = grind (arith, nat_tests) in rw is (refl, refl)

quiets_leave : (accesses : List Access) → AllQuiet accesses → AllLeaveMcr accesses
quiets_leave [] q = tt
quiets_leave (access ∷ accesses) q = (quiet_leaves access q.0, quiets_leave accesses q.1)

writes_leave : (bytes : List ℕ) → AllLeaveMcr (map (Write offsets.DATA) bytes)
writes_leave [] = tt
writes_leave (byte ∷ bytes) = ((refl, refl), writes_leave bytes)

block_leaves : (most : ℕ) (block : Block) → IsFit most block → AllLeaveMcr (accesses_of block)
block_leaves most (Look line) h = (tt, tt)
block_leaves most (Hit line byte) h = (tt, (tt, tt))
block_leaves most (Burst line checks bytes) h =
    (tt, each-append LeavesMcr checks (map (Write offsets.DATA) bytes) (quiets_leave checks h.1) (writes_leave bytes))
block_leaves most (Other access) h = (quiet_leaves access h, tt)
block_leaves most (Divisor lcr low high) h = (tt, ((refl, refl), (tt, (tt, ((refl, refl), tt)))))

pub blocks_leave : (most : ℕ) (blocks : List Block) → AllFit most blocks → AllLeaveMcr (flat blocks)
blocks_leave most [] h = tt
blocks_leave most (block ∷ blocks) h =
    each-append LeavesMcr (accesses_of block) (flat blocks) (block_leaves most block h.0) (blocks_leave most blocks h.1)

-- ---- what MCR and the modem lines are

modem_if : (m : ModemState) (x y : ChipState) (b : Bool) → x.modem.lines ≡ m.lines → y.modem.lines ≡ m.lines →
    (if b then x else y).modem.lines ≡ m.lines
modem_if m x y true p q = p
modem_if m x y false p q = q

lines-read : (offset : ℕ) (c : ChipState) → (after_read offset c).modem.lines ≡ c.modem.lines
lines-read offset c =
    modem_if c.modem _ _ (offset == offsets.DATA) (modem_if c.modem _ _ (is_dlab_set c.latches) refl refl)
    (modem_if c.modem _ _ (offset == offsets.ISR) (modem_if c.modem _ _ (is_thr_empty (interrupt c)) refl refl)
    (modem_if c.modem _ _ (offset == offsets.LSR) refl (modem_if c.modem _ _ (offset == offsets.MSR) refl refl)))

-- MCR and the modem lines stay
record SameFace (c d : ChipState) : Type 0 where
  pub mcr : d.latches.mcr ≡ c.latches.mcr
  pub lines : d.modem.lines ≡ c.modem.lines

face_if : (c x y : ChipState) (b : Bool) → SameFace c x → SameFace c y → SameFace c (if b then x else y)
face_if c x y true p q = p
face_if c x y false p q = q

face_write : (offset value : ℕ) (c : ChipState) → LeavesMcr (Write offset value) → SameFace c (after_write offset value c)
face_write offset value c h =
    rw (h.0, h.1) (face_if c _ _ (offset == offsets.DATA)
    (face_if c _ _ (is_dlab_set c.latches) (record { mcr = refl; lines = refl }) (record { mcr = refl; lines = refl }))
    (face_if c _ _ (offset == offsets.IER)
    (face_if c _ _ (is_dlab_set c.latches) (record { mcr = refl; lines = refl }) (record { mcr = refl; lines = refl }))
    (face_if c _ _ (offset == offsets.LCR) (record { mcr = refl; lines = refl })
    (face_if c _ _ (offset == offsets.SPR) (record { mcr = refl; lines = refl }) (record { mcr = refl; lines = refl })))))

-- ---- the outputs stay

mcr_lasts : (v : ℕ) → LastsInEvents (λ c. c.latches.mcr ≡ v)
mcr_lasts v = record { in_tick = λ c p. p; in_arrival = λ byte errors c p. p; in_lines = λ inputs c p. p }

pub mcr_settled : (v : ℕ) (events : List Event) (c : ChipState) → c.latches.mcr ≡ v → (before_mark events c).latches.mcr ≡ v
mcr_settled v events c p = chip_lasts-before_mark (λ c. c.latches.mcr ≡ v) (mcr_lasts v) events c p

pub mcr_path : (v : ℕ) (made : List Access) (m n : MachineState) → AllLeaveMcr made → m.chip.latches.mcr ≡ v →
    Path MachineStep m made n → n.chip.latches.mcr ≡ v
mcr_path v [] m n h p path = rw path p
mcr_path v (Read offset value ∷ made) m n h p (mid, step, rest) =
    let now = chip_lasts-before (λ c. c.latches.mcr ≡ v) (mcr_lasts v) m.ahead m.chip p in
    mcr_path v made mid n h.1 (rw step.0 (ap (λ l. l.mcr) (latches-read offset (at_access m).chip) ∙ now)) rest
mcr_path v (Write offset value ∷ made) m n h p (mid, step, rest) =
    let now = chip_lasts-before (λ c. c.latches.mcr ≡ v) (mcr_lasts v) m.ahead m.chip p in
    mcr_path v made mid n h.1 (rw step ((face_write offset value (at_access m).chip h.0).mcr ∙ now)) rest

-- ---- the other end's RTS stays on or off

-- each change of the lines that comes leaves CTS so
abbrev pub LeavesCts : (cts : Bool) → Event → Type 0
LeavesCts cts (Lines inputs) = has_any inputs MSR.CTS.0 ≡ cts
LeavesCts cts _ = Unit {0}

abbrev pub AllLeaveCts : (cts : Bool) → List Event → Type 0
AllLeaveCts cts events = AllByRecursion (LeavesCts cts) events

-- loopback is off, and MSR shows CTS so
pub record HasCts (cts : Bool) (c : ChipState) : Type 0 where
  pub loopback : has_any c.latches.mcr MCR.LOOP_BACK.0 ≡ false
  pub line : has_any c.modem.lines MSR.CTS.0 ≡ cts

face_ticks : (n : ℕ) (c : ChipState) → SameFace c (ticks n c)
face_ticks zero c = record { mcr = refl; lines = refl }
face_ticks (suc n) c = let f = face_ticks n c in record { mcr = f.mcr; lines = f.lines }

module _ (cts : Bool) where
  cts_face : (c d : ChipState) → SameFace c d → HasCts cts c → HasCts cts d
  cts_face c d f h = record {
    loopback = ap (λ v. has_any v MCR.LOOP_BACK.0) f.mcr ∙ h.loopback;
    line = ap (λ v. has_any v MSR.CTS.0) f.lines ∙ h.line;
  }

  cts_lines : (inputs : ℕ) (c : ChipState) → has_any inputs MSR.CTS.0 ≡ cts → has_any c.latches.mcr MCR.LOOP_BACK.0 ≡ false →
      HasCts cts (change_lines inputs c)
  cts_lines inputs c e h = record { loopback = h; line = rw h e }

  cts_before : (events : List Event) (c : ChipState) → AllLeaveCts cts events → HasCts cts c → HasCts cts (before_access events c)
  cts_before [] c e h = cts_face c (tick c) (record { mcr = refl; lines = refl }) h
  cts_before (Gate ∷ events) c e h = h
  cts_before (Mark ∷ events) c e h = cts_face c (tick c) (record { mcr = refl; lines = refl }) h
  cts_before (Ticks n ∷ events) c e h = cts_before events (ticks n c) e.1 (cts_face c (ticks n c) (face_ticks n c) h)
  cts_before (Arrive byte errors ∷ events) c e h =
      cts_before events (arrive byte errors c) e.1 (cts_face c (arrive byte errors c) (record { mcr = refl; lines = refl }) h)
  cts_before (Lines inputs ∷ events) c e h = cts_before events (change_lines inputs c) e.1 (cts_lines inputs c e.0 h.loopback)

  pub cts_after : (events : List Event) → AllLeaveCts cts events → AllLeaveCts cts (after_access events)
  cts_after [] e = tt
  cts_after (Gate ∷ events) e = e.1
  cts_after (Mark ∷ events) e = e
  cts_after (event ∷ events) e = cts_after events e.1

  -- what a read shows then
  shows_cts : (offset value : ℕ) (c : ChipState) → HasCts cts c → IsWithin c.modem.deltas MSR.CHANGES.0 → value ≡ answer offset c →
      ShowsCts cts (Read offset value)
  shows_cts offset value c h w e = (λ is. lines is, λ is. loop is)
    where
      lines : offset ≡ offsets.MSR → has value MSR.CTS.0 ≡ cts
      lines is =
          let shown : value ≡ bit_or c.modem.lines c.modem.deltas = e ∙ ap (λ o. answer o c) is in
          let low : has_any c.modem.deltas MSR.CTS.0 ≡ false =
          ap (λ v. has_any v MSR.CTS.0) (sym w) ∙ has_not 4 c.modem.deltas MSR.CHANGES.0 refl in
          has_one 4 value ∙ (ap (λ v. has_any v MSR.CTS.0) shown ∙ (has_or 4 c.modem.lines c.modem.deltas ∙
          (ap (λ b. has_any c.modem.lines MSR.CTS.0 || b) low ∙ (or-false (has_any c.modem.lines MSR.CTS.0) ∙ h.line))))

      loop : offset ≡ offsets.MCR → has value MCR.LOOP_BACK.0 ≡ false
      loop is = has_one 4 value ∙ (ap (λ v. has_any v MCR.LOOP_BACK.0) (e ∙ ap (λ o. answer o c) is) ∙ h.loopback)

  -- what accesses show, once the lines have come
  pub cts_path : (made : List Access) (m n : MachineState) → IsSound m → HasCts cts (at_access m).chip → AllLeaveCts cts m.ahead →
      AllLeaveMcr made → Path MachineStep m made n → AllShowCts cts made
  cts_path [] m n s h e q path = tt
  cts_path (Read offset value ∷ made) m n s h e q (mid, step, rest) =
      let c = (at_access m).chip in
      let sound = sound_access m s in
      let same : SameFace c (after_read offset c) =
      record { mcr = ap (λ l. l.mcr) (latches-read offset c); lines = lines-read offset c } in
      let next : HasCts cts mid.chip = rw step.0 (cts_face c (after_read offset c) same h) in
      let ahead : AllLeaveCts cts mid.ahead = rw step.0 (cts_after m.ahead e) in (
        shows_cts offset value c h sound.chip.modem.deltas step.1,
        cts_path made mid n (sound_step m mid (Read offset value) s step) (cts_before mid.ahead mid.chip ahead next) ahead q.1 rest,
      )
  cts_path (Write offset value ∷ made) m n s h e q (mid, step, rest) =
      let c = (at_access m).chip in
      let next : HasCts cts mid.chip = rw step (cts_face c (after_write offset value c) (face_write offset value c q.0) h) in
      let ahead : AllLeaveCts cts mid.ahead = rw step (cts_after m.ahead e) in
      (tt, cts_path made mid n (sound_step m mid (Write offset value) s step) (cts_before mid.ahead mid.chip ahead next) ahead q.1 rest)

  -- the lines come first
  pub cts_first : (inputs : ℕ) (events : List Event) (c : ChipState) → AllLeaveCts cts (Lines inputs ∷ events) →
      has_any c.latches.mcr MCR.LOOP_BACK.0 ≡ false → HasCts cts (before_access (Lines inputs ∷ events) c)
  cts_first inputs events c e h = cts_before events (change_lines inputs c) e.1 (cts_lines inputs c e.0 h)

-- ---- no character is dropped for which there is room

-- the FIFO is on and loopback off; and as long as no more than so many have arrived, there is room for the others, and none was
-- dropped since r
pub record HasRoomTo (last : ℕ) (r : ReceiverState) (c : ChipState) : Type 0 where
  pub fifo : c.fifo ≡ true
  pub loopback : is_loopback c.latches ≡ false
  pub room : c.receiver.arrived ≤ last → length c.receiver.queue + last ≤ characters c.receiver.size + c.receiver.arrived
  pub whole : c.receiver.arrived ≤ last → Drop r c.receiver → ⊥

-- the marks and the missing flag stay
pub no_drop_same : (r s : ReceiverState) → s.marks ≡ r.marks → s.is_unscheduled_lost ≡ r.is_unscheduled_lost → Drop r s → ⊥
no_drop_same r s m l d = let h : origin_stands r.marks r.is_unscheduled_lost d.origin ≡ false = rw (m, l) at d.lost in cc (d.stood)

-- no character came, and none was dropped
record IsStill (r s : ReceiverState) : Type 0 where
  pub arrived : s.arrived ≡ r.arrived
  pub fewer : length s.queue ≤ length r.queue
  pub size : s.size ≡ r.size
  pub whole : Drop r s → ⊥

still_same : (r s : ReceiverState) → s.arrived ≡ r.arrived → s.queue ≡ r.queue → s.marks ≡ r.marks →
    s.is_unscheduled_lost ≡ r.is_unscheduled_lost → s.size ≡ r.size → IsStill r s
still_same r s arrived queue marks lost size = record {
  arrived = arrived;
  fewer = rw queue (omega arith);
  size = size;
  whole = λ d. no_drop_same r s marks lost d;
}

room_still : (last : ℕ) (r : ReceiverState) (c d : ChipState) → d.fifo ≡ c.fifo → is_loopback d.latches ≡ false →
    IsStill c.receiver d.receiver → HasRoomTo last r c → HasRoomTo last r d
room_still last r c d fifo loopback s h = record {
  fifo = fifo ∙ h.fifo;
  loopback = loopback;
  room = λ few. let g : c.receiver.arrived ≤ last = omega (arith, few, s.arrived) in
      let k = h.room g in
      let same = ap characters s.size in omega (arith, k, s.arrived, s.fewer, same);
  whole = λ few d. let g : c.receiver.arrived ≤ last = omega (arith, few, s.arrived) in split g (drop_split r c.receiver _ d);
}
  where
    split : c.receiver.arrived ≤ last → Drop r c.receiver ⊎ Drop c.receiver d.receiver → ⊥
    split g (inl e) = h.whole g e
    split g (inr e) = s.whole e

tick_still : (c : ChipState) → is_loopback c.latches ≡ false →
    tick c ≡ record c { transmitter = transmitter.tick false (is_held_off c) c.transmitter; receiver = grow_timeout c.receiver }
tick_still c e =
    ap (λ (b : Bool). record c {
      transmitter = transmitter.tick b (is_held_off c) c.transmitter;
      receiver = receiver.tick c.fifo (looped_byte b c.transmitter.shift_register) c.receiver;
    }) e

room_tick : (last : ℕ) (r : ReceiverState) (c : ChipState) → HasRoomTo last r c → HasRoomTo last r (tick c)
room_tick last r c h = rw (tick_still c h.loopback)
    (room_still last r c _ refl h.loopback (still_same c.receiver _ refl refl refl refl refl) h)

-- a character arrives while there is room
record Enters (r s : ReceiverState) : Type 0 where
  pub arrived : s.arrived ≡ r.arrived + 1
  pub fuller : length r.queue < characters r.size → length s.queue ≡ length r.queue + 1
  pub whole : length r.queue < characters r.size → Drop r s → ⊥
  pub size : s.size ≡ r.size

enters : (r : ReceiverState) (byte errors : ℕ) → Enters r (receiver.arrive false true byte errors r)
enters r byte errors = go (nat_lt (length r.queue) (characters r.size)) refl
  where
    go : (b : Bool) → nat_lt (length r.queue) (characters r.size) ≡ b → Enters r (receiver.arrive false true byte errors r)
    go true e = rw e (record {
      arrived = refl;
      fuller = λ few. simp length-append (omega arith);
      whole = λ few d. no_drop-set r _ (Arrived r.arrived) marks.Waiting (λ q. cc) refl refl d;
      size = refl;
    })
    go false e =
        let full : characters r.size ≤ length r.queue = grind (arith, common_steps) in
        rw e (record {
          arrived = refl;
          fuller = λ few. absurd (omega (arith, few, full));
          whole = λ few d. omega (arith, few, full);
          size = refl;
        })

room_entered : (last : ℕ) (r s : ReceiverState) (c : ChipState) → Enters c.receiver s → HasRoomTo last r c →
    HasRoomTo last r (record c { receiver = s })
room_entered last r s c n h = record {
  fifo = h.fifo;
  loopback = h.loopback;
  room = λ few.
      let g : c.receiver.arrived ≤ last = omega (arith, few, n.arrived) in
      let k = h.room g in
      let free : length c.receiver.queue < characters c.receiver.size = omega (arith, few, n.arrived, k) in
      let same = ap characters n.size in omega (arith, k, n.arrived, n.fuller free, same);
  whole = λ few d.
      let g : c.receiver.arrived ≤ last = omega (arith, few, n.arrived) in
      let k = h.room g in
      let free : length c.receiver.queue < characters c.receiver.size = omega (arith, few, n.arrived, k) in
      split g free (drop_split r c.receiver s d);
}
  where
    split : c.receiver.arrived ≤ last → length c.receiver.queue < characters c.receiver.size → Drop r c.receiver ⊎ Drop c.receiver s → ⊥
    split g free (inl e) = h.whole g e
    split g free (inr e) = n.whole free e

room_arrive : (last : ℕ) (r : ReceiverState) (byte errors : ℕ) (c : ChipState) → HasRoomTo last r c →
    HasRoomTo last r (arrive byte errors c)
room_arrive last r byte errors c h =
    let cut = cut_of c byte in
    let same : receiver.arrive (is_loopback c.latches) c.fifo cut errors c.receiver ≡ receiver.arrive false true cut errors c.receiver =
    ap (λ (b : Bool). receiver.arrive b c.fifo cut errors c.receiver) h.loopback ∙
    ap (λ (b : Bool). receiver.arrive false b cut errors c.receiver) h.fifo in
    let P : ReceiverState → Type 0 = λ s. HasRoomTo last r (record c { receiver = s }) in
    subst P (sym same) (room_entered last r (receiver.arrive false true cut errors c.receiver) c (enters c.receiver cut errors) h)

room_events : (last : ℕ) (r : ReceiverState) → LastsInEvents (HasRoomTo last r)
room_events last r = record {
  in_tick = room_tick last r;
  in_arrival = room_arrive last r;
  in_lines = λ inputs c h.
      room_still last r c (change_lines inputs c) refl h.loopback (still_same c.receiver c.receiver refl refl refl refl refl) h;
}

module _ (last : ℕ) (r : ReceiverState) where
  room_if : (c d : ChipState) (b : Bool) → HasRoomTo last r c → HasRoomTo last r d → HasRoomTo last r (if b then c else d)
  room_if c d true p q = p
  room_if c d false p q = q

  -- the receiver stays, and loopback stays off
  room_same : (c d : ChipState) → d.fifo ≡ c.fifo → is_loopback d.latches ≡ false → d.receiver ≡ c.receiver → HasRoomTo last r c →
      HasRoomTo last r d
  room_same c d fifo loopback same h =
      let R : ReceiverState → Type 0 = λ s. IsStill c.receiver s in
      room_still last r c d fifo loopback (subst R (sym same) (still_same c.receiver c.receiver refl refl refl refl refl)) h

  still_front : (s : ReceiverState) (queue : List Character) → s.queue ≡ queue → IsStill s (take_front queue s)
  still_front s [] e = still_same s s refl refl refl refl refl
  still_front s (front ∷ others) e = record {
    arrived = refl;
    fewer = rw e (omega arith);
    size = refl;
    whole = λ d. no_drop-set s _ front.origin marks.Read (λ q. cc) refl refl d;
  }

  room_read : (offset : ℕ) (c : ChipState) → HasRoomTo last r c → HasRoomTo last r (after_read offset c)
  room_read offset c h =
      room_if _ _ (offset == offsets.DATA)
      (room_if _ _ (is_dlab_set c.latches) h
      (room_still last r c _ refl h.loopback (still_front c.receiver c.receiver.queue refl) h))
      (room_if _ _ (offset == offsets.ISR)
      (room_if _ _ (is_thr_empty (interrupt c)) (room_same c _ refl h.loopback refl h) h)
      (room_if _ _ (offset == offsets.LSR)
      (room_still last r c _ refl h.loopback (still_same c.receiver (report c.receiver) refl refl refl refl refl) h)
      (room_if _ _ (offset == offsets.MSR) (room_same c _ refl h.loopback refl h) h)))

  room_write : (offset value : ℕ) (c : ChipState) → IsMild (Write offset value) → HasRoomTo last r c →
      HasRoomTo last r (after_write offset value c)
  room_write offset value c mild h =
      rw mild.0 (room_if _ _ (offset == offsets.DATA)
      (room_if _ _ (is_dlab_set c.latches) (room_same c _ refl h.loopback refl h) (room_same c _ refl h.loopback refl h))
      (room_if _ _ (offset == offsets.IER)
      (room_if _ _ (is_dlab_set c.latches) (room_same c _ refl h.loopback refl h) (room_same c _ refl h.loopback refl h))
      (room_if _ _ (offset == offsets.LCR) (room_same c _ refl h.loopback refl h)
      (controls (offset == offsets.MCR) refl))))
    where
      controls : (b : Bool) → (offset == offsets.MCR) ≡ b →
          HasRoomTo last r (if b then control_modem (kept_mcr c.auto_flow value) c
          else if offset == offsets.SPR then with_latches (record c.latches { scr = value }) c else c)
      controls true e = room_same c _ refl (kept_bit c.auto_flow 4 value refl refl ∙ mild.1 e) refl h
      controls false e = room_if _ _ (offset == offsets.SPR) (room_same c _ refl h.loopback refl h) h

  pub room_path : (made : List Access) (m n : MachineState) → AllMild made → HasRoomTo last r m.chip → Path MachineStep m made n →
      HasRoomTo last r n.chip
  room_path [] m n mild h path = rw path h
  room_path (Read offset value ∷ made) m n mild h (mid, step, rest) =
      let now = chip_lasts-before (HasRoomTo last r) (room_events last r) m.ahead m.chip h in
      room_path made mid n mild.1 (rw step.0 (room_read offset (at_access m).chip now)) rest
  room_path (Write offset value ∷ made) m n mild h (mid, step, rest) =
      let now = chip_lasts-before (HasRoomTo last r) (room_events last r) m.ahead m.chip h in
      room_path made mid n mild.1 (rw step (room_write offset value (at_access m).chip mild.0 now)) rest

  pub room_settled : (events : List Event) (c : ChipState) → HasRoomTo last r c → HasRoomTo last r (before_mark events c)
  room_settled events c h = chip_lasts-before_mark (HasRoomTo last r) (room_events last r) events c h

-- at first
pub room_first : (last : ℕ) (c : ChipState) → c.fifo ≡ true → is_loopback c.latches ≡ false →
    length c.receiver.queue + last ≤ characters c.receiver.size + c.receiver.arrived → HasRoomTo last c.receiver c
room_first last c fifo loopback h = record {
  fifo = fifo;
  loopback = loopback;
  room = λ few. h;
  whole = λ few d. no_drop_same c.receiver c.receiver refl refl d;
}
