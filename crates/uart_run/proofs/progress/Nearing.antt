-- Where ticks come before each access and the wire has room, each access that sends nothing brings the transmitter nearer to its end.
use Rattle.uart_run.proofs.Names.{Bool, false, sym, ap, subst, ◌∙◌, ◌&&◌, ◌≡◌, ℕ, zero, suc, ◌+◌, ◌-◌, ◌≤◌, true, refl, List, [], ◌∷◌, ◌++◌}
use Rattle.uart_run.proofs.Names.{length, length-append, Option, Some, None, arith, Path, Access, Read, Write, Event, Ticks, Gate, Mark}
use Rattle.uart_run.proofs.Names.{Shifting, TransmitterState, out, shift_bytes, has_any, FifoSize, ChipState, is_dlab_set, is_loopback}
use Rattle.uart_run.proofs.Names.{is_auto_flow, tick, ticks, after_read, after_write, MachineState, MachineStep, perform, before_access}
use Rattle.uart_run.proofs.Names.{after_access, at_access, IsSoundChip, IsSound, TickedAfter, IsTicked, left_of, HasRoom, IsUnheld}
use Rattle.uart_run.proofs.Names.{off_goes_on, steady_ticks, sound_perform, sound_step, latches-ticks, LastsInAccesses, Lasts, SendsNothing}
use Rattle.uart_run.proofs.Names.{AllSendNothing, lasts-read, lasts-write, lasts-latch, lasts-before, lasts-path}
use Rattle.uart_spec.specs.declared.registers.offsets.TheConstants as offsets
use Rattle.uart_spec.specs.declared.registers.modem_control.TheConstants.MCR
use Rattle.uart_chip.specs.Transmitter as transmitter
use Rattle.uart_run.proofs.Latches.{Kept, kept_step}
use Rattle.uart_run.proofs.progress.Left.{Nearer, nearer-refl, nearer-trans, nearer-less, nearer-tick, NoLonger, no_longer-tick}

-- the wire takes all that is to go out
abbrev pub Fits : TransmitterState → Type 0
Fits t = length (out t) ≤ t.capacity

fits-nearer : (k : ℕ) (t u : TransmitterState) → Nearer k t u → Fits t → Fits u
fits-nearer k t u a h = let c = a.capacity in omega (arith, a.no_longer, c, h)

-- outside of loopback it does
abbrev pub Flows : ChipState → Type 0
Flows c = is_loopback c.latches ≡ false → Fits c.transmitter

flows-nearer : (k : ℕ) (c d : ChipState) → d.latches ≡ c.latches → Nearer k c.transmitter d.transmitter → Flows c → Flows d
flows-nearer k c d same a h e = fits-nearer k c.transmitter d.transmitter a (h (ap (λ l. is_loopback l) (sym same) ∙ e))

-- ---- events

-- automatic flow control is off
abbrev IsOff : ChipState → Type 0
IsOff c = is_auto_flow c ≡ false

-- time leaves it as it is
off-ticks : (n : ℕ) (c : ChipState) → is_auto_flow (ticks n c) ≡ is_auto_flow c
off-ticks zero c = refl
off-ticks (suc n) c = off-ticks n c

nearer-one : (c : ChipState) → IsSoundChip c → Flows c → IsOff c → Nearer 1 c.transmitter (tick c).transmitter
nearer-one c w h off =
    let T : Bool → Type 0 = λ held_off. Nearer 1 c.transmitter (transmitter.tick (is_loopback c.latches) held_off c.transmitter) in
    subst T (sym (off_goes_on c off)) (nearer-tick c.fifo (is_loopback c.latches) c.transmitter w.transmitter h)

nearer-ticks : (n : ℕ) (c : ChipState) → IsSoundChip c → Flows c → IsOff c → Nearer n c.transmitter (ticks n c).transmitter
nearer-ticks zero c w h off = nearer-refl c.transmitter
nearer-ticks (suc n) c w h off =
    let d = ticks n c in
    let a = nearer-ticks n c w h off in
    let b = nearer-one d (steady_ticks n c w).sound (flows-nearer n c d (latches-ticks n c) a h) (off-ticks n c ∙ off) in
    nearer-less (suc n) (n + 1) c.transmitter (tick d).transmitter (omega arith)
    (nearer-trans n 1 c.transmitter d.transmitter (tick d).transmitter a b)

-- the events before an access, of which one is a tick if none passed before
nearer-before : (passed : ℕ) (events : List Event) (c : ChipState) → IsSound (record { chip = c; ahead = events }) → Flows c → IsOff c →
    TickedAfter passed events → Nearer (1 - passed) c.transmitter (before_access events c).transmitter
nearer-before passed [] c w h off t = nearer-less (1 - passed) 1 _ _ (omega arith) (nearer-one c w.chip h off)
nearer-before passed (Ticks n ∷ events) c w h off t =
    let d = ticks n c in
    let a = nearer-ticks n c w.chip h off in
    let b = nearer-before (passed + n) events d (sound_perform (Ticks n) events c w) (flows-nearer n c d (latches-ticks n c) a h)
    (off-ticks n c ∙ off) t in
    nearer-less (1 - passed) (n + (1 - (passed + n))) _ _ (omega arith)
    (nearer-trans n (1 - (passed + n)) c.transmitter d.transmitter _ a b)
nearer-before passed (Gate ∷ events) c w h off t = nearer-less (1 - passed) 0 _ _ (omega (arith, t.0)) (nearer-refl c.transmitter)
nearer-before passed (Mark ∷ events) c w h off t = nearer-less (1 - passed) 1 _ _ (omega arith) (nearer-one c w.chip h off)
nearer-before passed (event ∷ events) c w h off t =
    nearer-before passed events (perform event c) (sound_perform event events c w) h off t

ticked-after : (passed : ℕ) (events : List Event) → TickedAfter passed events → TickedAfter 0 (after_access events)
ticked-after passed [] t = tt
ticked-after passed (Ticks n ∷ events) t = ticked-after (passed + n) events t
ticked-after passed (Gate ∷ events) t = t.1
ticked-after passed (Mark ∷ events) t = t
ticked-after passed (_ ∷ events) t = ticked-after passed events t

pub ticked-step : (m n : MachineState) (access : Access) → IsTicked m → MachineStep m access n → IsTicked n
ticked-step m n (Read offset value) t s = rw s.0 (ticked-after 0 m.ahead t)
ticked-step m n (Write offset value) t s = rw s (ticked-after 0 m.ahead t)

pub ticked-path : (made : List Access) (m n : MachineState) → IsTicked m → Path MachineStep m made n → IsTicked n
ticked-path [] m n t p = rw p t
ticked-path (access ∷ made) m n t p = ticked-path made p.0 n (ticked-step m p.0 access t p.1) p.2

-- ---- effects

-- what is at least as near as the transmitter was lasts
near_lasts : (t : TransmitterState) → LastsInAccesses (Nearer 0 t)
near_lasts t = record {
  pending = λ u pending a. record { fewer = a.fewer; no_longer = a.no_longer; capacity = a.capacity; char_ticks = a.char_ticks };
  cleared = λ u pending a. emptied u u.size pending a;
  resized = λ u size a. emptied u size u.is_thr_pending a;
}
  where
    fewer_left : (n : ℕ) (place : Option Shifting) (queue : List ℕ) → left_of n place [] ≤ left_of n place queue
    fewer_left n None [] = omega arith
    fewer_left n None (x ∷ xs) = omega arith
    fewer_left n (Some s) queue = omega arith

    shorter : (wire : List ℕ) (place : Option Shifting) (queue : List ℕ) →
        length (wire ++ (shift_bytes place ++ [])) ≤ length (wire ++ (shift_bytes place ++ queue))
    shorter wire place queue = simp length-append (omega arith)

    emptied : (u : TransmitterState) (size : FifoSize) (pending : Bool) → Nearer 0 t u →
        Nearer 0 t (record u { size = size; queue = []; is_thr_pending = pending })
    emptied u size pending a = record {
      fewer = let h = fewer_left u.char_ticks u.shift_register u.queue in omega (arith, a.fewer, h);
      no_longer = let h = shorter u.wire u.shift_register u.queue in omega (arith, a.no_longer, h);
      capacity = a.capacity;
      char_ticks = a.char_ticks;
    }

-- ---- accesses

-- what a machine needs for progress
pub record Runs (m : MachineState) : Type 0 where
  pub sound : IsSound m
  pub ticked : IsTicked m
  pub flows : Flows m.chip
  pub off : IsUnheld m

-- the events before an access
nearer-access : (m : MachineState) → Runs m → Nearer 1 m.chip.transmitter (at_access m).chip.transmitter
nearer-access m r =
    nearer-before 0 m.ahead m.chip
    (record { chip = r.sound.chip; foreseen = r.sound.foreseen; legal = r.sound.legal }) r.flows r.off r.ticked

-- and an effect
nearer-effect : (m n : MachineState) (d : ChipState) → Runs m → n ≡ record (at_access m) { chip = d } →
    Nearer 0 (at_access m).chip.transmitter d.transmitter → Nearer 1 m.chip.transmitter n.chip.transmitter
nearer-effect m n d r e effect =
    rw e (nearer-trans 1 0 m.chip.transmitter (at_access m).chip.transmitter d.transmitter (nearer-access m r) effect)

pub nearer-step : (m n : MachineState) (access : Access) → Runs m → SendsNothing access → MachineStep m access n →
    Nearer 1 m.chip.transmitter n.chip.transmitter
nearer-step m n (Read offset value) r q s =
    let c = (at_access m).chip in
    nearer-effect m n (after_read offset c) r s.0
    (lasts-read (Nearer 0 c.transmitter) (near_lasts c.transmitter) offset c (nearer-refl c.transmitter))
nearer-step m n (Write offset value) r q s =
    let c = (at_access m).chip in
    nearer-effect m n (after_write offset value c) r s
    (lasts-write (Nearer 0 c.transmitter) (near_lasts c.transmitter) offset value c q (nearer-refl c.transmitter))

-- a look leaves the modes as they are
pub runs-look : (m n : MachineState) (line : ℕ) → Runs m → MachineStep m (Read offsets.LSR line) n →
    Nearer 1 m.chip.transmitter n.chip.transmitter → Runs n
runs-look m n line r s a = record {
  sound = sound_step m n (Read offsets.LSR line) r.sound s;
  ticked = ticked-step m n (Read offsets.LSR line) r.ticked s;
  flows = flows-nearer 1 m.chip n.chip (ap (λ (k : Kept). k.latches) (kept_step (Read offsets.LSR line) m n s)) a r.flows;
  off = ap (λ (k : Kept). k.auto_flow && has_any k.latches.mcr MCR.AUTO_FLOW.0) (kept_step (Read offsets.LSR line) m n s) ∙ r.off;
}

-- ---- with room on the wire, in whatever mode

-- with room for so much more
pub record RunsWith (more : ℕ) (m : MachineState) : Type 0 where
  pub sound : IsSound m
  pub ticked : IsTicked m
  pub room : HasRoom more m

abbrev pub RunsFree : MachineState → Type 0
RunsFree m = RunsWith 0 m

-- nothing holds the transmitter off
pub free_runs : (m : MachineState) → IsUnheld m → RunsFree m → Runs m
free_runs m off r = record { sound = r.sound; ticked = r.ticked; flows = λ e. omega (arith, r.room); off = off }

-- no more is to go out than was, whether it was held off on the way or not
no_longer_lasts : (t : TransmitterState) → Lasts (NoLonger t)
no_longer_lasts t = record {
  in_accesses = record {
    pending = λ u pending a. record { no_longer = a.no_longer; capacity = a.capacity };
    cleared = λ u pending a. record {
      no_longer = let h = shorter u.wire u.shift_register u.queue in omega (arith, a.no_longer, h);
      capacity = a.capacity;
    };
    resized = λ u size a. record {
      no_longer = let h = shorter u.wire u.shift_register u.queue in omega (arith, a.no_longer, h);
      capacity = a.capacity;
    };
  };
  in_tick = λ loopback held_off u a. let b = no_longer-tick loopback held_off u in
      record { no_longer = omega (arith, a.no_longer, b.no_longer); capacity = b.capacity ∙ a.capacity };
}
  where
    shorter : (wire : List ℕ) (place : Option Shifting) (queue : List ℕ) →
        length (wire ++ (shift_bytes place ++ [])) ≤ length (wire ++ (shift_bytes place ++ queue))
    shorter wire place queue = simp length-append (omega arith)

free-step : {more : ℕ} (m n : MachineState) (access : Access) → RunsWith more m → MachineStep m access n →
    NoLonger m.chip.transmitter n.chip.transmitter → RunsWith more n
free-step m n access r s a = record {
  sound = sound_step m n access r.sound s;
  ticked = ticked-step m n access r.ticked s;
  room = let c = a.capacity in let h = a.no_longer in let k = r.room in omega (arith, c, h, k);
}

-- some accesses that send nothing
pub free-path : {more : ℕ} (made : List Access) (m n : MachineState) → RunsWith more m → AllSendNothing made → Path MachineStep m made n →
    RunsWith more n
free-path [] m n r q p = rw p r
free-path (access ∷ made) m n r q p =
    let t = m.chip.transmitter in
    let a = lasts-path (NoLonger t) (no_longer_lasts t) (access ∷ []) m p.0 (q.0, tt)
    (record { no_longer = omega arith; capacity = refl }) (p.0, p.1, refl) in
    free-path made p.0 n (free-step m p.0 access r p.1 a) q.1 p.2

-- and a write of the divisor latch, under DLAB
pub free-latch : {more : ℕ} (m n : MachineState) (value : ℕ) → RunsWith more m → is_dlab_set (at_access m).chip.latches ≡ true →
    MachineStep m (Write offsets.DLL value) n → RunsWith more n
free-latch m n value r on s =
    let t = m.chip.transmitter in
    let lasts = no_longer_lasts t in
    let a = lasts-latch (NoLonger t) lasts.in_accesses value (at_access m).chip on
    (lasts-before (NoLonger t) lasts.in_tick m.ahead m.chip (record { no_longer = omega arith; capacity = refl })) in
    free-step m n (Write offsets.DLL value) r s (rw s a)
