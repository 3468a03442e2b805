-- Time passes at an end, and characters arrive there: what ticks and arrivals bring, whatever calls are made meanwhile.
use Rattle.uart_link.proofs.Names.{◌≡◌, ℕ, zero, suc, ◌+◌, ◌-◌, ◌*◌, ◌≤◌, ◌==◌, Bool, true, false, nat_lt, List, [], ◌∷◌, ◌++◌, length}
use Rattle.uart_link.proofs.Names.{Option, Some, None, min, if◌then◌else◌, length-append, refl, sym, ◌∙◌, ap, subst, arith, common_steps}
use Rattle.uart_link.proofs.Names.{Event, Ticks, Arrive, Lines, Write, steady_tick, steady_ticks, steady_arrive, steady_read, steady_write}
use Rattle.uart_link.proofs.Names.{latches-read, FifoSize, ChipState, is_loopback, is_held_off, is_dlab_set, is_thr_empty, interrupt, tick}
use Rattle.uart_link.proofs.Names.{ticks, after_read, after_write, cut_of, control_modem, with_latches, perform, kept_mcr, kept_bit}
use Rattle.uart_link.proofs.Names.{never_held_off, IsSound, IsSoundChip, IsSoundTransmitter, IsTicking, TransmitterState, shift, refill}
use Rattle.uart_link.proofs.Names.{load, room, shift_bytes, Shifting, Moment, events_of, unknown, ticks_in, arrives_in}
use Rattle.uart_spec.specs.declared.registers.offsets.TheConstants as offsets
use Rattle.uart_chip.proofs.conservation.Sends.{sends-tick}
use Rattle.uart_chip.proofs.lasting.Constants.{pace_tick}
use Rattle.uart_chip.proofs.lasting.FifoSizes.{same_size-ticks}
use Rattle.uart_chip.specs.Transmitter.{out}
use Rattle.uart_chip.specs.Transmitter as transmitter
use Rattle.uart_link.specs.declared.call.Moment.TheVariants as moment
use Rattle.uart_link.proofs.{Budgets.ahead_of, Budgets.Spends, Calm.IsMild}

-- ---- moments as events

-- the ticks of an event; the characters that arrive in it
abbrev pub ticks_of : Event → ℕ
ticks_of (Ticks n) = n
ticks_of _ = 0

abbrev pub arrives_of : Event → ℕ
arrives_of (Arrive byte errors) = 1
arrives_of _ = 0

pub ticks_ahead : (moments : List Moment) (cable : List ℕ) (lines count : ℕ) →
    ahead_of ticks_of (events_of moments cable lines ++ unknown count) ≡ ticks_in moments
ticks_ahead [] cable lines count = refl
ticks_ahead (moment.Ticks n ∷ moments) cable lines count = ap (λ k. n + k) (ticks_ahead moments cable lines count)
ticks_ahead (moment.Arrives ∷ moments) [] lines count = ticks_ahead moments [] lines count
ticks_ahead (moment.Arrives ∷ moments) (byte ∷ cable) lines count =
    let r = ticks_ahead moments cable lines count in omega (arith, r)
ticks_ahead (moment.Lines ∷ moments) cable lines count = let r = ticks_ahead moments cable lines count in omega (arith, r)
ticks_ahead (moment.Access ∷ moments) cable lines count = let r = ticks_ahead moments cable lines count in omega (arith, r)

-- as many characters arrive as may, or all that are on the cable
pub arrives_ahead : (moments : List Moment) (cable : List ℕ) (lines count : ℕ) →
    min (arrives_in moments) (length cable) ≤ ahead_of arrives_of (events_of moments cable lines ++ unknown count)
arrives_ahead [] cable lines count = omega arith
arrives_ahead (moment.Ticks n ∷ moments) cable lines count =
    let r = arrives_ahead moments cable lines count in omega (arith, r)
arrives_ahead (moment.Arrives ∷ moments) [] lines count = omega arith
arrives_ahead (moment.Arrives ∷ moments) (byte ∷ cable) lines count =
    let r = arrives_ahead moments cable lines count in omega (arith, r)
arrives_ahead (moment.Lines ∷ moments) cable lines count =
    let r = arrives_ahead moments cable lines count in omega (arith, r)
arrives_ahead (moment.Access ∷ moments) cable lines count =
    let r = arrives_ahead moments cable lines count in omega (arith, r)

-- ---- the ticks until so many bytes have left a transmitter

-- where so many of the bytes that it holds are still to leave
abbrev pub need_of : (char_ticks : ℕ) → Option Shifting → ℕ → ℕ
need_of char_ticks place zero = 0
need_of char_ticks None (suc bytes) = 1 + char_ticks * suc bytes
need_of char_ticks (Some s) (suc bytes) = s.ticks_left + char_ticks * bytes

abbrev pub need : ℕ → TransmitterState → ℕ
need goal t = need_of t.char_ticks t.shift_register (goal - length t.wire)

-- one more character
times : (n k : ℕ) → n * suc k ≡ n + n * k
times n k = grind (arith, common_steps)

-- after a tick, or after a part of it
record Sooner (goal : ℕ) (t u : TransmitterState) : Type 0 where
  pub fewer : need goal u ≤ need goal t - 1
  pub capacity : u.capacity ≡ t.capacity
  pub char_ticks : u.char_ticks ≡ t.char_ticks

-- nothing is needed where all has left
none_needed : (char_ticks : ℕ) (place : Option Shifting) (n : ℕ) → n ≡ 0 → need_of char_ticks place n ≡ 0
none_needed char_ticks place n e = rw e refl

sooner_none : (goal : ℕ) (t : TransmitterState) (queue : List ℕ) → t.shift_register ≡ None → t.queue ≡ queue → goal ≤ length (out t) →
    Sooner goal t (refill None queue t)
sooner_none goal t [] e f have =
    let long : length (out t) ≡ length t.wire + 0 = rw (e, f) (simp length-append (omega arith)) in
    record {
      fewer = let none = none_needed t.char_ticks t.shift_register (goal - length t.wire) (omega (arith, have, long)) in
          omega (arith, none);
      capacity = refl;
      char_ticks = refl;
    }
sooner_none goal t (x ∷ []) e f have = record {
  fewer = rw e (by t.char_ticks (goal - length t.wire));
  capacity = refl;
  char_ticks = refl;
}
  where
    by : (n j : ℕ) → need_of n (Some (record { byte = x; ticks_left = n })) j ≤ need_of n None j - 1
    by n zero = omega arith
    by n (suc j) = let p = times n j in omega (arith, p)
sooner_none goal t (x ∷ y ∷ xs) e f have = record {
  fewer = rw e (by t.char_ticks (goal - length t.wire));
  capacity = refl;
  char_ticks = refl;
}
  where
    by : (n j : ℕ) → need_of n (Some (record { byte = x; ticks_left = n })) j ≤ need_of n None j - 1
    by n zero = omega arith
    by n (suc j) = let p = times n j in omega (arith, p)

-- a character has left the shift register for the wire, and the next one takes its place
sooner_freed : (goal : ℕ) (s : Shifting) (t u : TransmitterState) → t.shift_register ≡ Some s → 1 ≤ s.ticks_left →
    u.shift_register ≡ None → u.queue ≡ t.queue → length u.wire ≡ length t.wire + 1 → u.char_ticks ≡ t.char_ticks →
    u.capacity ≡ t.capacity → goal ≤ length (out t) → Sooner goal t (refill None u.queue u)
sooner_freed goal s t u e some f g wire c k have = go u.queue refl
  where
    long : length (out t) ≡ length t.wire + suc (length t.queue)
    long = rw e (length-append t.wire (s.byte ∷ t.queue))

    -- one character fewer is to leave
    next : (n j : ℕ) (byte : ℕ) → need_of n (Some (record { byte = byte; ticks_left = n })) (j - 1) ≤ need_of n (Some s) j - 1
    next n zero byte = omega arith
    next n (suc zero) byte = omega arith
    next n (suc (suc j)) byte =
        let p = times n j in
        let e : suc (suc j) - 1 ≡ suc j = omega arith in rw e (omega (arith, p, some))

    filled : (byte : ℕ) → need_of u.char_ticks (Some (record { byte = byte; ticks_left = u.char_ticks })) (goal - length u.wire) ≤
        need goal t - 1
    filled byte =
        let j : goal - length u.wire ≡ (goal - length t.wire) - 1 = omega (arith, wire) in
        rw (j, c, e) (next t.char_ticks (goal - length t.wire) byte)

    go : (queue : List ℕ) → u.queue ≡ queue → Sooner goal t (refill None queue u)
    go [] q =
        let few : length t.queue ≡ 0 = ap length (sym g ∙ q) in
        let none = none_needed u.char_ticks u.shift_register (goal - length u.wire) (omega (arith, have, long, few, wire)) in
        record { fewer = omega (arith, none); capacity = k; char_ticks = c }
    go (x ∷ []) q = record { fewer = filled x; capacity = k; char_ticks = c }
    go (x ∷ y ∷ xs) q = record { fewer = filled x; capacity = k; char_ticks = c }

sooner_shifted : (goal : ℕ) (t u : TransmitterState) → shift false t.shift_register t ≡ u →
    Sooner goal t (refill u.shift_register u.queue u) → Sooner goal t (transmitter.tick false false t)
sooner_shifted goal t u e n = subst (λ (v : TransmitterState). Sooner goal t (refill v.shift_register v.queue v)) (sym e) n

sooner_some : (goal : ℕ) (s : Shifting) (t : TransmitterState) → t.shift_register ≡ Some s → 1 ≤ s.ticks_left → goal ≤ length (out t) →
    goal ≤ t.capacity → Sooner goal t (transmitter.tick false false t)
sooner_some goal s t e some have room = go (nat_lt 1 s.ticks_left) refl
  where
    shifts : (u : TransmitterState) → shift false (Some s) t ≡ u → shift false t.shift_register t ≡ u
    shifts u h = ap (λ place. shift false place t) e ∙ h

    less : (n j : ℕ) → need_of n (Some (record { byte = s.byte; ticks_left = s.ticks_left - 1 })) j ≤ need_of n (Some s) j - 1
    less n zero = omega arith
    less n (suc j) = omega (arith, some)

    sent : (free : Bool) → nat_lt (length t.wire) t.capacity ≡ free → nat_lt 1 s.ticks_left ≡ false →
        Sooner goal t (transmitter.tick false false t)
    sent true h f =
        let u : TransmitterState = record t { shift_register = None; wire = t.wire ++ s.byte ∷ [] } in
        sooner_shifted goal t u (shifts u (rw (f, h) refl))
        (sooner_freed goal s t u e some refl refl (length-append t.wire (s.byte ∷ [])) refl refl have)
    sent false h f =
        let full : t.capacity ≤ length t.wire = grind (arith, common_steps) in
        let none = none_needed t.char_ticks t.shift_register (goal - length t.wire) (omega (arith, full, room)) in
        let stays : Sooner goal t (refill t.shift_register t.queue t) = subst (λ (place : Option Shifting).
        Sooner goal t (refill place t.queue t)) (sym e) (record { fewer = omega (arith, none); capacity = refl; char_ticks = refl }) in
        sooner_shifted goal t t (shifts t (rw (f, h) refl)) stays

    go : (more : Bool) → nat_lt 1 s.ticks_left ≡ more → Sooner goal t (transmitter.tick false false t)
    go true f =
        let u : TransmitterState = record t { shift_register = Some (record { byte = s.byte; ticks_left = s.ticks_left - 1 }) } in
        sooner_shifted goal t u (shifts u (rw f refl))
        (record { fewer = rw e (less t.char_ticks (goal - length t.wire)); capacity = refl; char_ticks = refl })
    go false f = sent (nat_lt (length t.wire) t.capacity) refl f

sooner_tick : (goal : ℕ) (fifo : Bool) (t : TransmitterState) → IsSoundTransmitter fifo t → goal ≤ length (out t) → goal ≤ t.capacity →
    Sooner goal t (transmitter.tick false false t)
sooner_tick goal fifo t w have room = go t.shift_register refl
  where
    go : (place : Option Shifting) → t.shift_register ≡ place → Sooner goal t (transmitter.tick false false t)
    go None e =
        sooner_shifted goal t t (ap (λ place. shift false place t) e)
        (subst (λ (place : Option Shifting). Sooner goal t (refill place t.queue t)) (sym e) (sooner_none goal t t.queue e refl have))
    go (Some s) e = let ticking : IsTicking t.char_ticks (Some s) = rw e at w.ticking in sooner_some goal s t e ticking.0 have room

-- ---- the ticks that are due at an end

-- outside of loopback, and without automatic flow control, so many ticks are enough for so many bytes to leave, which the transmitter has,
-- and the wire has room for
pub record DueTicks (goal : ℕ) (c : ChipState) (ticks : ℕ) : Type 0 where
  pub loopback : is_loopback c.latches ≡ false
  pub flow : c.auto_flow ≡ false
  pub have : goal ≤ length (out c.transmitter)
  pub room : goal ≤ c.transmitter.capacity
  pub few : need goal c.transmitter ≤ ticks

due_less : (goal : ℕ) (c : ChipState) (j k : ℕ) → j ≤ k → DueTicks goal c j → DueTicks goal c k
due_less goal c j k h d =
    record { loopback = d.loopback; flow = d.flow; have = d.have; room = d.room; few = omega (arith, h, d.few) }

due_tick : (goal : ℕ) (c : ChipState) (n : ℕ) → IsSoundChip c → DueTicks goal c n → DueTicks goal (tick c) (n - 1)
due_tick goal c n w d =
    let t = c.transmitter in
    let s = sooner_tick goal c.fifo t w.transmitter d.have d.room in
    let same : (tick c).transmitter ≡ transmitter.tick false false t =
    ap (λ b. transmitter.tick b (is_held_off c) t) d.loopback ∙ ap (λ b. transmitter.tick false b t) (never_held_off c d.flow) in
    let grown : length (out (transmitter.tick false false t)) ≡ length (out t ++ []) = ap length (sends-tick false t).grows in
    let sum = length-append (out t) [] in
    let capacity = s.capacity in
    let T : TransmitterState → Type 0 = λ u. DueTicks goal (record (tick c) { transmitter = u }) (n - 1) in
    let after : DueTicks goal (record (tick c) { transmitter = transmitter.tick false false t }) (n - 1) = record {
      loopback = d.loopback;
      flow = d.flow;
      have = let h = d.have in omega (arith, h, grown, sum);
      room = let h = d.room in omega (arith, h, capacity);
      few = let h = d.few in omega (arith, h, s.fewer);
    } in
    subst T (sym same) after

due_ticks : (goal n : ℕ) (c : ChipState) (k : ℕ) → IsSoundChip c → DueTicks goal c (n + k) → DueTicks goal (ticks n c) k
due_ticks goal zero c k w d = due_less goal c (0 + k) k (omega arith) d
due_ticks goal (suc n) c k w d =
    let more : suc n + k ≤ n + (k + 1) = omega arith in
    let a = due_ticks goal n c (k + 1) w (due_less goal c (suc n + k) (n + (k + 1)) more d) in
    due_less goal (tick (ticks n c)) ((k + 1) - 1) k (omega arith) (due_tick goal (ticks n c) (k + 1) (steady_ticks n c w).sound a)

-- what is due stays, if the transmitter has at least what it had
record Keeps (t u : TransmitterState) : Type 0 where
  pub wire : u.wire ≡ t.wire
  pub place : u.shift_register ≡ t.shift_register
  pub queue : length t.queue ≤ length u.queue
  pub capacity : u.capacity ≡ t.capacity
  pub char_ticks : u.char_ticks ≡ t.char_ticks
  pub size : u.size ≡ t.size

keeps-refl : (t : TransmitterState) → Keeps t t
keeps-refl t = record { wire = refl; place = refl; queue = omega arith; capacity = refl; char_ticks = refl; size = refl }

due_kept : (goal : ℕ) (c d : ChipState) (n : ℕ) → is_loopback d.latches ≡ false → d.auto_flow ≡ c.auto_flow →
    Keeps c.transmitter d.transmitter → DueTicks goal c n → DueTicks goal d n
due_kept goal c d n off flow k h =
    let t = c.transmitter in
    let u = d.transmitter in
    let before = length-append t.wire (shift_bytes t.shift_register ++ t.queue) in
    let after = length-append u.wire (shift_bytes u.shift_register ++ u.queue) in
    let held_before = length-append (shift_bytes t.shift_register) t.queue in
    let held_after = length-append (shift_bytes u.shift_register) u.queue in
    let wire : length u.wire ≡ length t.wire = ap length k.wire in
    let place : length (shift_bytes u.shift_register) ≡ length (shift_bytes t.shift_register) =
    ap (λ p. length (shift_bytes p)) k.place in
    let same : need goal u ≡ need goal t = rw (k.wire, k.place, k.char_ticks) refl in
    record {
      loopback = off;
      flow = flow ∙ h.flow;
      have = let have = h.have in omega (arith, have, before, after, held_before, held_after, wire, place, k.queue);
      room = let room = h.room in let e = k.capacity in omega (arith, room, e);
      few = let few = h.few in omega (arith, few, same);
    }

-- ---- what accesses leave

keeps_if : (t : TransmitterState) (c d : ChipState) (b : Bool) → Keeps t c.transmitter → Keeps t d.transmitter →
    Keeps t (if b then c else d).transmitter
keeps_if t c d true p q = p
keeps_if t c d false p q = q

-- only the interrupt is told or not
keeps_pending : (t : TransmitterState) (pending : Bool) → Keeps t (record t { is_thr_pending = pending })
keeps_pending t pending = record { wire = refl; place = refl; queue = omega arith; capacity = refl; char_ticks = refl; size = refl }

read_keeps : (offset : ℕ) (c : ChipState) → Keeps c.transmitter (after_read offset c).transmitter
read_keeps offset c =
    let t = c.transmitter in
    let same = keeps-refl t in
    keeps_if t _ _ (offset == offsets.DATA) (keeps_if t _ _ (is_dlab_set c.latches) same same)
    (keeps_if t _ _ (offset == offsets.ISR) (keeps_if t _ _ (is_thr_empty (interrupt c)) (keeps_pending t false) same)
    (keeps_if t _ _ (offset == offsets.LSR) same (keeps_if t _ _ (offset == offsets.MSR) same same)))

-- a byte is put last, or one that waits without FIFO is replaced
load_keeps : (fifo : Bool) (byte : ℕ) (t : TransmitterState) → IsSoundTransmitter fifo t → Keeps t (load fifo byte t)
load_keeps fifo byte t w = go (nat_lt (length t.queue) (room fifo t.size)) refl
  where
    kept : (on : Bool) → length t.queue ≤ room on t.size → length t.queue ≤ length (if on then t.queue else byte ∷ [])
    kept true r = omega arith
    kept false r = r

    go : (free : Bool) → nat_lt (length t.queue) (room fifo t.size) ≡ free → Keeps t (load fifo byte t)
    go true e = rw e (record {
      wire = refl;
      place = refl;
      queue = let k = length-append t.queue (byte ∷ []) in omega (arith, k);
      capacity = refl;
      char_ticks = refl;
      size = refl;
    })
    go false e = rw e (record { wire = refl; place = refl; queue = kept fifo w.in_room; capacity = refl; char_ticks = refl; size = refl })

write_keeps : (offset value : ℕ) (c : ChipState) → IsMild (Write offset value) → IsSoundChip c →
    Keeps c.transmitter (after_write offset value c).transmitter
write_keeps offset value c mild w =
    let t = c.transmitter in
    let same = keeps-refl t in
    rw mild.0 (keeps_if t _ _ (offset == offsets.DATA)
    (keeps_if t _ _ (is_dlab_set c.latches) same (load_keeps c.fifo (cut_of c value) t w.transmitter))
    (keeps_if t _ _ (offset == offsets.IER) (keeps_if t _ _ (is_dlab_set c.latches) same (keeps_pending t _))
    (keeps_if t _ _ (offset == offsets.LCR) same
    (keeps_if t _ _ (offset == offsets.MCR) same (keeps_if t _ _ (offset == offsets.SPR) same same)))))

-- and loopback stays off
off_if : (c d : ChipState) (b : Bool) → is_loopback c.latches ≡ false → is_loopback d.latches ≡ false →
    is_loopback (if b then c else d).latches ≡ false
off_if c d true p q = p
off_if c d false p q = q

write_off : (offset value : ℕ) (c : ChipState) → IsMild (Write offset value) → is_loopback c.latches ≡ false →
    is_loopback (after_write offset value c).latches ≡ false
write_off offset value c mild off =
    rw mild.0 (off_if _ _ (offset == offsets.DATA) (off_if _ _ (is_dlab_set c.latches) off off)
    (off_if _ _ (offset == offsets.IER) (off_if _ _ (is_dlab_set c.latches) off off)
    (off_if _ _ (offset == offsets.LCR) off (controls (offset == offsets.MCR) refl))))
  where
    controls : (b : Bool) → (offset == offsets.MCR) ≡ b →
        is_loopback (if b then control_modem (kept_mcr c.auto_flow value) c
        else if offset == offsets.SPR then with_latches (record c.latches { scr = value }) c else c).latches ≡ false
    controls true e = kept_bit c.auto_flow 4 value refl refl ∙ mild.1 e
    controls false e = off_if _ _ (offset == offsets.SPR) off off

-- nor does the chip get automatic flow control
flow_if : (c x y : ChipState) (b : Bool) → x.auto_flow ≡ c.auto_flow → y.auto_flow ≡ c.auto_flow →
    (if b then x else y).auto_flow ≡ c.auto_flow
flow_if c x y true p q = p
flow_if c x y false p q = q

write_flow : (offset value : ℕ) (c : ChipState) → IsMild (Write offset value) → (after_write offset value c).auto_flow ≡ c.auto_flow
write_flow offset value c mild =
    rw mild.0 (flow_if c _ _ (offset == offsets.DATA) (flow_if c _ _ (is_dlab_set c.latches) refl refl)
    (flow_if c _ _ (offset == offsets.IER) (flow_if c _ _ (is_dlab_set c.latches) refl refl)
    (flow_if c _ _ (offset == offsets.LCR) refl (flow_if c _ _ (offset == offsets.MCR) refl
    (flow_if c _ _ (offset == offsets.SPR) refl refl)))))

read_flow : (offset : ℕ) (c : ChipState) → (after_read offset c).auto_flow ≡ c.auto_flow
read_flow offset c =
    flow_if c _ _ (offset == offsets.DATA) (flow_if c _ _ (is_dlab_set c.latches) refl refl)
    (flow_if c _ _ (offset == offsets.ISR) (flow_if c _ _ (is_thr_empty (interrupt c)) refl refl)
    (flow_if c _ _ (offset == offsets.LSR) refl (flow_if c _ _ (offset == offsets.MSR) refl refl)))

read_off : (offset : ℕ) (c : ChipState) → is_loopback c.latches ≡ false → is_loopback (after_read offset c).latches ≡ false
read_off offset c off = ap (λ l. is_loopback l) (latches-read offset c) ∙ off

pub ticks_spend : (goal : ℕ) → Spends ticks_of (DueTicks goal)
ticks_spend goal = record {
  in_event = in_event;
  in_tick = λ c n w h. due_less goal (tick c) (n - 1) n (omega arith) (due_tick goal c n w h);
  in_read = λ offset c n w h.
      due_kept goal c (after_read offset c) n (read_off offset c h.loopback) (read_flow offset c) (read_keeps offset c) h;
  in_write = λ offset value c n mild w h.
      due_kept goal c (after_write offset value c) n (write_off offset value c mild h.loopback) (write_flow offset value c mild)
      (write_keeps offset value c mild w) h;
}
  where
    in_event : (event : Event) (events : List Event) (c : ChipState) (n : ℕ) → IsSound (record { chip = c; ahead = event ∷ events }) →
        DueTicks goal c (ticks_of event + n) → DueTicks goal (perform event c) n
    in_event (Ticks k) events c n s h = due_ticks goal k c n s.chip h
    in_event (Arrive byte errors) events c n s h =
        due_kept goal c _ n h.loopback refl (keeps-refl c.transmitter) (due_less goal c (0 + n) n (omega arith) h)
    in_event (Lines inputs) events c n s h =
        due_kept goal c _ n h.loopback refl (keeps-refl c.transmitter) (due_less goal c (0 + n) n (omega arith) h)
    in_event event events c n s h = due_less goal c (0 + n) n (omega arith) h

-- ---- the arrivals that are due at an end

-- so many arrivals are enough for so many characters to have arrived, and the chip's journal has room for these
pub record DueArrivals (goal : ℕ) (c : ChipState) (count : ℕ) : Type 0 where
  pub room : goal ≤ length c.receiver.marks
  pub few : goal ≤ c.receiver.arrived + count

due_steady : (goal : ℕ) (c d : ChipState) (n k : ℕ) → length d.receiver.marks ≡ length c.receiver.marks →
    c.receiver.arrived + n ≤ d.receiver.arrived + k → DueArrivals goal c n → DueArrivals goal d k
due_steady goal c d n k known number h = record {
  room = let r = h.room in omega (arith, r, known);
  few = let f = h.few in omega (arith, f, number);
}

pub arrivals_spend : (goal : ℕ) → Spends arrives_of (DueArrivals goal)
arrivals_spend goal = record {
  in_event = in_event;
  in_tick = λ c n w h. let s = steady_tick c w in let e = s.number in due_steady goal c (tick c) n n s.known (omega (arith, e)) h;
  in_read = λ offset c n w h. let s = steady_read offset c w in
      let e = s.number in due_steady goal c (after_read offset c) n n s.known (omega (arith, e)) h;
  in_write = λ offset value c n mild w h. let s = steady_write offset value c w in
      let e = s.number in due_steady goal c (after_write offset value c) n n s.known (omega (arith, e)) h;
}
  where
    in_event : (event : Event) (events : List Event) (c : ChipState) (n : ℕ) → IsSound (record { chip = c; ahead = event ∷ events }) →
        DueArrivals goal c (arrives_of event + n) → DueArrivals goal (perform event c) n
    in_event (Ticks k) events c n s h =
        let t = steady_ticks k c s.chip in
        let e = t.number in due_steady goal c (ticks k c) (0 + n) n t.known (omega (arith, e)) h
    in_event (Arrive byte errors) events c n s h =
        let f = s.foreseen in
        let t = steady_arrive byte errors c s.chip (omega (arith, f)) s.legal.0 in
        let e = t.number in due_steady goal c (perform (Arrive byte errors) c) (1 + n) n t.known (omega (arith, e)) h
    in_event (Lines inputs) events c n s h = due_steady goal c (perform (Lines inputs) c) (0 + n) n refl (omega arith) h
    in_event event events c n s h = due_steady goal c c (0 + n) n refl (omega arith) h

-- ---- the room of an end

-- outside of loopback: how many bytes the wire has room for, how many arrivals the journal has, the ticks of a
-- character, the size of the FIFO, and whether the chip has automatic flow control. Nothing changes them
pub record HasRooms (bytes arrivals ticks : ℕ) (size : FifoSize) (flow : Bool) (c : ChipState) (none : ℕ) : Type 0 where
  pub loopback : is_loopback c.latches ≡ false
  pub capacity : c.transmitter.capacity ≡ bytes
  pub marks : length c.receiver.marks ≡ arrivals
  pub char_ticks : c.transmitter.char_ticks ≡ ticks
  pub same_size : c.transmitter.size ≡ size
  pub same_flow : c.auto_flow ≡ flow

module _ (bytes arrivals ticks_each : ℕ) (size : FifoSize) (flow : Bool) where
  abbrev Rooms : ChipState → ℕ → Type 0
  Rooms = HasRooms bytes arrivals ticks_each size flow

  rooms_kept : (c d : ChipState) (n k : ℕ) → is_loopback d.latches ≡ false → d.auto_flow ≡ c.auto_flow →
      Keeps c.transmitter d.transmitter → length d.receiver.marks ≡ length c.receiver.marks → Rooms c n → Rooms d k
  rooms_kept c d n k off same kept known h = record {
    loopback = off;
    capacity = kept.capacity ∙ h.capacity;
    marks = known ∙ h.marks;
    char_ticks = kept.char_ticks ∙ h.char_ticks;
    same_size = kept.size ∙ h.same_size;
    same_flow = same ∙ h.same_flow;
  }

  rooms_tick : (c : ChipState) (n k : ℕ) → IsSoundChip c → Rooms c n → Rooms (tick c) k
  rooms_tick c n k w h =
      let t = c.transmitter in
      let pace = pace_tick (is_loopback c.latches) (is_held_off c) t in
      record {
        loopback = h.loopback;
        capacity = pace.capacity ∙ h.capacity;
        marks = (steady_tick c w).known ∙ h.marks;
        char_ticks = pace.char_ticks ∙ h.char_ticks;
        same_size = (same_size-ticks 1 c).transmitter ∙ h.same_size;
        same_flow = h.same_flow;
      }

  rooms_ticks : (count : ℕ) (c : ChipState) (n k : ℕ) → IsSoundChip c → Rooms c n → Rooms (ticks count c) k
  rooms_ticks zero c n k w h = rooms_kept c c n k h.loopback refl (keeps-refl c.transmitter) refl h
  rooms_ticks (suc count) c n k w h = rooms_tick (ticks count c) n k (steady_ticks count c w).sound (rooms_ticks count c n n w h)

  pub rooms_spend : Spends arrives_of Rooms
  rooms_spend = record {
    in_event = in_event;
    in_tick = λ c n w h. rooms_tick c n n w h;
    in_read = λ offset c n w h.
        rooms_kept c (after_read offset c) n n (read_off offset c h.loopback) (read_flow offset c) (read_keeps offset c)
        (steady_read offset c w).known h;
    in_write = λ offset value c n mild w h.
        rooms_kept c (after_write offset value c) n n (write_off offset value c mild h.loopback) (write_flow offset value c mild)
        (write_keeps offset value c mild w)
        (steady_write offset value c w).known h;
  }
    where
      in_event : (event : Event) (events : List Event) (c : ChipState) (n : ℕ) → IsSound (record { chip = c; ahead = event ∷ events }) →
          Rooms c (arrives_of event + n) → Rooms (perform event c) n
      in_event (Ticks k) events c n s h = rooms_ticks k c (0 + n) n s.chip h
      in_event (Arrive byte errors) events c n s h =
          let f = s.foreseen in
          rooms_kept c (perform (Arrive byte errors) c) (1 + n) n h.loopback refl (keeps-refl c.transmitter)
          (steady_arrive byte errors c s.chip (omega (arith, f)) s.legal.0).known h
      in_event (Lines inputs) events c n s h =
          rooms_kept c (perform (Lines inputs) c) (0 + n) n h.loopback refl (keeps-refl c.transmitter) refl h
      in_event event events c n s h = rooms_kept c c (0 + n) n h.loopback refl (keeps-refl c.transmitter) refl h
