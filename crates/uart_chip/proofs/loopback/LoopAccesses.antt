-- Single accesses in loopback: what each does to the line.
use Rattle.std.proofs.Common.{◌≡◌, ℕ, ◌+◌, ◌≤◌, ◌<◌, Bool, true, false, ◌==◌, List, [], ◌∷◌, ◌++◌, length, append-nil, map, refl, arith}
use Rattle.std.proofs.Common.{sym, ◌∙◌, ap, if◌then◌else◌}
use Rattle.std.proofs.lemmas.Grind.{common_steps}
use Rattle.uart_chip.specs.declared.receiver.Character.{Character}
use Rattle.uart_spec.specs.Access.{Path}
use Rattle.uart_spec.specs.declared.access.Access.{Access}
use Rattle.uart_spec.specs.declared.access.Access.TheVariants.{Read, Write}
use Rattle.uart_spec.specs.Bits.{has_any}
use Rattle.uart_spec.specs.declared.registers.modem_control.TheConstants.MCR
use Rattle.uart_spec.specs.declared.registers.offsets.TheConstants as offsets
use Rattle.uart_spec.specs.declared.setup.FifoSize.TheVariants.{Sixteen}
use Rattle.uart_chip.specs.Transmitter.{TransmitterState, load, room}
use Rattle.uart_chip.specs.Receiver.{ReceiverState, report, take_front}
use Rattle.uart_chip.specs.Chip.{ChipState, cut_of, is_dlab_set, interrupt, is_thr_empty, with_latches, enable, answer, after_read}
use Rattle.uart_chip.specs.Chip.{after_write}
use Rattle.uart_chip.specs.Machine.{MachineState, MachineStep, at_access}
use Rattle.uart_chip.proofs.Sizes.{room_least}
use Rattle.uart_chip.proofs.conservation.Blocks.{is_quiet, AllQuiet}
use Rattle.uart_chip.proofs.conservation.Went.{Modes, IsIn, fixed_in, dlab, dlab-in, loopback}
use Rattle.uart_chip.proofs.loopback.Loops.{line_of, line_in, Carries, carries-refl, Loops, loops-trans, loops-still, loops-refl}
use Rattle.uart_chip.proofs.loopback.Loops.{line-length, Fits, fits-after, loops_before}

-- these modes are those of a loopback test: loopback is set, and DLAB and automatic flow control are not
pub record IsLooped (x : Modes) : Type 0 where
  pub dlab : dlab x ≡ false
  pub loopback : loopback x ≡ true
  pub goes_on : has_any x.mcr MCR.AUTO_FLOW.0 ≡ false

-- ---- effects on the chip

-- the line stays as it is
loops_same : (x : Modes) (c d : ChipState) → IsIn x c → d.latches.lcr ≡ c.latches.lcr → d.latches.mcr ≡ c.latches.mcr →
    fixed_in d ≡ fixed_in c →
    Carries c.transmitter d.transmitter c.receiver d.receiver → Loops x c d [] []
loops_same x c d w lcr mcr fifo a =
    loops-still x c d
    (record {
      lcr = lcr ∙ w.lcr;
      mcr = mcr ∙ w.mcr;
      fifo = ap (λ (p : Bool × (ℕ → ℕ)). p.0) fifo ∙ w.fifo;
      cut = ap (λ (p : Bool × (ℕ → ℕ)). p.1) fifo ∙ w.cut;
    }) a

loops_if : (x : Modes) (c d e : ChipState) (b : Bool) → Loops x c d [] [] → Loops x c e [] [] → Loops x c (if b then d else e) [] []
loops_if x c d e true p q = p
loops_if x c d e false p q = q

-- the queues are the same
same_queues : (t u : TransmitterState) (r s : ReceiverState) → u.queue ≡ t.queue → u.shift_register ≡ t.shift_register → u.wire ≡ t.wire →
    s.queue ≡ r.queue → s.size ≡ r.size → Carries t u r s
same_queues t u r s queue place wire waits size = record {
  line = rw (queue, place, waits) refl;
  wire = wire;
  place = rw queue (omega arith);
  fuller = rw waits (omega arith);
  size = size;
}

-- a read of anything but the data
loops_after_read : (x : Modes) (offset : ℕ) (c : ChipState) → IsIn x c → (offset == offsets.DATA) ≡ false →
    Loops x c (after_read offset c) [] []
loops_after_read x offset c w other =
    let told =
    loops_same x c (record c { transmitter = record c.transmitter { is_thr_pending = false } }) w refl refl refl
    (same_queues c.transmitter _ c.receiver _ refl refl refl refl refl) in
    let looked =
    loops_same x c (record c { receiver = report c.receiver }) w refl refl refl
    (same_queues c.transmitter _ c.receiver _ refl refl refl refl refl) in
    let seen =
    loops_same x c (record c { modem = record c.modem { deltas = 0 } }) w refl refl refl (carries-refl c.transmitter c.receiver) in
    rw other (loops_if x c _ _ (offset == offsets.ISR) (loops_if x c _ _ (is_thr_empty (interrupt c)) told (loops-refl x c w))
    (loops_if x c _ _ (offset == offsets.LSR) looked (loops_if x c _ _ (offset == offsets.MSR) seen (loops-refl x c w))))

-- a write of IER or SPR
loops_after_write : (x : Modes) (offset value : ℕ) (c : ChipState) → IsIn x c → is_quiet (Write offset value) ≡ true →
    Loops x c (after_write offset value c) [] []
loops_after_write x offset value c w q = either (offset == offsets.IER) refl
  where
    latched : Loops x c (with_latches (record c.latches { dlm = value }) c) [] []
    latched = loops_same x c _ w refl refl refl (carries-refl c.transmitter c.receiver)

    enabled : Loops x c (enable value c) [] []
    enabled = loops_same x c (enable value c) w refl refl refl (same_queues c.transmitter _ c.receiver c.receiver refl refl refl refl refl)

    kept : Loops x c (with_latches (record c.latches { scr = value }) c) [] []
    kept = loops_same x c _ w refl refl refl (carries-refl c.transmitter c.receiver)

    either : (b : Bool) → (offset == offsets.IER) ≡ b → Loops x c (after_write offset value c) [] []
    either true e = let f : offset ≡ offsets.IER = grind arith in rw f (loops_if x c _ _ (is_dlab_set c.latches) latched enabled)
    either false e = let f : offset ≡ offsets.SPR = grind arith in rw f kept

-- the front of the line is taken
loops_front : (x : Modes) (c : ChipState) (byte : ℕ) → dlab x ≡ false → IsIn x c → 0 < length c.receiver.queue →
    byte ≡ answer offsets.DATA c → Loops x c (after_read offsets.DATA c) [] (byte ∷ [])
loops_front x c byte off w some b = go c.receiver.queue refl
  where
    go : (queue : List Character) → c.receiver.queue ≡ queue → Loops x c (after_read offsets.DATA c) [] (byte ∷ [])
    go [] e = let h : 0 < 0 = rw e at some in absurd (omega arith)
    go (front ∷ others) e =
        let f : byte ≡ front.byte = b ∙ rw (dlab-in x c w ∙ off, e) refl in
        let g : after_read offsets.DATA c ≡ record c { receiver = take_front (front ∷ others) c.receiver } =
        rw (dlab-in x c w ∙ off, e) refl in
        let taken = record c { receiver = take_front (front ∷ others) c.receiver } in
        let k : line_in c ≡ front.byte ∷ line_in taken = rw e refl in
        rw g (record {
          modes = record { lcr = w.lcr; mcr = w.mcr; fifo = w.fifo; cut = w.cut };
          line = ap (λ v. v ∷ line_in taken) f ∙ (sym k ∙ sym (append-nil (line_in c)));
          wire = refl;
          place = omega arith;
          fuller = rw e (omega arith);
          size = refl;
        })

-- a byte comes to the end of the line, cut
loops_load : (x : Modes) (c : ChipState) (byte : ℕ) → dlab x ≡ false → IsIn x c →
    length c.transmitter.queue < room x.fifo c.transmitter.size → Loops x c (after_write offsets.DATA byte c) (x.cut byte ∷ []) []
loops_load x c byte off w free =
    let e : after_write offsets.DATA byte c ≡ record c { transmitter = load c.fifo (cut_of c byte) c.transmitter } =
    rw (dlab-in x c w ∙ off) refl in
    let f : load c.fifo (cut_of c byte) c.transmitter ≡ load x.fifo (x.cut byte) c.transmitter =
    ap (λ (b : Bool). load b (cut_of c byte) c.transmitter) w.fifo ∙ ap (λ (g : ℕ → ℕ). load x.fifo (g byte) c.transmitter) w.cut in
    rw (e, f) (record {
      modes = record { lcr = w.lcr; mcr = w.mcr; fifo = w.fifo; cut = w.cut };
      line = last x.fifo (x.cut byte) c.transmitter c.receiver free;
      wire = same_wire x.fifo (x.cut byte) c.transmitter free;
      place = one_more x.fifo (x.cut byte) c.transmitter free;
      fuller = omega arith;
      size = refl;
    })
  where
    last : (fifo : Bool) (byte : ℕ) (t : TransmitterState) (r : ReceiverState) → length t.queue < room fifo t.size →
        line_of (load fifo byte t) r ≡ line_of t r ++ byte ∷ []
    last fifo byte t r free = grind (arith, common_steps)

    same_wire : (fifo : Bool) (byte : ℕ) (t : TransmitterState) → length t.queue < room fifo t.size → (load fifo byte t).wire ≡ t.wire
    same_wire fifo byte t free = grind (arith, common_steps)

    one_more : (fifo : Bool) (byte : ℕ) (t : TransmitterState) → length t.queue < room fifo t.size →
        length (load fifo byte t).queue ≤ length t.queue + 1
    one_more fifo byte t free = grind (arith, common_steps)

-- ---- single accesses

-- the events before an access, and then its effect, in the modes that it leaves
pub loops_effect : (x y : Modes) (m n : MachineState) (d : ChipState) (ws rs : List ℕ) → loopback x ≡ true → Fits x m.chip →
    n ≡ record (at_access m) { chip = d } →
    (Loops x m.chip (at_access m).chip [] [] → Loops y (at_access m).chip d ws rs) → Loops y m.chip n.chip ws rs
loops_effect x y m n d ws rs l f e effect =
    let a : Loops x m.chip (at_access m).chip [] [] = loops_before x m.ahead m.chip l f in
    rw e (loops-trans x y m.chip (at_access m).chip d [] ws [] rs a (effect a))

pub loops_read : (x : Modes) (m n : MachineState) (offset value : ℕ) → loopback x ≡ true → Fits x m.chip →
    (offset == offsets.DATA) ≡ false → MachineStep m (Read offset value) n → Loops x m.chip n.chip [] []
loops_read x m n offset value l f other s =
    loops_effect x x m n (after_read offset (at_access m).chip) [] [] l f s.0
    (λ a. loops_after_read x offset (at_access m).chip a.modes other)

quiet_other : (offset value : ℕ) → is_quiet (Read offset value) ≡ true → (offset == offsets.DATA) ≡ false
quiet_other offset value q = either (offset == offsets.DATA) refl
  where
    either : (b : Bool) → (offset == offsets.DATA) ≡ b → (offset == offsets.DATA) ≡ false
    either true e =
        let f : offset ≡ offsets.DATA = grind arith in let g : is_quiet (Read offsets.DATA value) ≡ true = rw f at q in absurd (cc)
    either false e = e

pub loops_quiet : (x : Modes) (m n : MachineState) (access : Access) → loopback x ≡ true → Fits x m.chip → is_quiet access ≡ true →
    MachineStep m access n → Loops x m.chip n.chip [] []
loops_quiet x m n (Read offset value) l f q s = loops_read x m n offset value l f (quiet_other offset value q) s
loops_quiet x m n (Write offset value) l f q s =
    loops_effect x x m n (after_write offset value (at_access m).chip) [] [] l f s
    (λ a. loops_after_write x offset value (at_access m).chip a.modes q)

pub loops_take : (x : Modes) (m n : MachineState) (byte : ℕ) → IsLooped x → Fits x m.chip → 0 < length m.chip.receiver.queue →
    MachineStep m (Read offsets.DATA byte) n → Loops x m.chip n.chip [] (byte ∷ [])
loops_take x m n byte i f some s =
    loops_effect x x m n (after_read offsets.DATA (at_access m).chip) [] (byte ∷ []) i.loopback f s.0
    (λ a. loops_front x (at_access m).chip byte i.dlab a.modes (omega (arith, a.fuller, some)) s.1)

loops_send : (x : Modes) (m n : MachineState) (byte : ℕ) → IsLooped x → Fits x m.chip →
    length m.chip.transmitter.queue < room x.fifo Sixteen →
    MachineStep m (Write offsets.DATA byte) n →
    Loops x m.chip n.chip (x.cut byte ∷ []) []
loops_send x m n byte i f free s =
    loops_effect x x m n (after_write offsets.DATA byte (at_access m).chip) (x.cut byte ∷ []) [] i.loopback f s
    (λ a. let any = room_least x.fifo (at_access m).chip.transmitter.size in
    loops_load x (at_access m).chip byte i.dlab a.modes (omega (arith, a.place, free, any)))

-- ---- some accesses of one kind

pub loops_none : (x : Modes) (m n : MachineState) → IsIn x m.chip → n ≡ m → Loops x m.chip n.chip [] []
loops_none x m n w e = rw e (loops-refl x m.chip w)

pub loops_quiets : (x : Modes) (accesses : List Access) (m n : MachineState) → loopback x ≡ true → Fits x m.chip → AllQuiet accesses →
    Path MachineStep m accesses n → Loops x m.chip n.chip [] []
loops_quiets x [] m n l f q p = loops_none x m n f.modes p
loops_quiets x (access ∷ accesses) m n l f q p =
    let a = loops_quiet x m p.0 access l f q.0 p.1 in
    loops-trans x x m.chip p.0.chip n.chip [] [] [] [] a
    (loops_quiets x accesses p.0 n l (fits-after x x m.chip p.0.chip [] refl f a) q.1 p.2)

pub loops_sends : (x : Modes) (bytes : List ℕ) (m n : MachineState) → IsLooped x → IsIn x m.chip →
    length (line_in m.chip) + length bytes ≤ room x.fifo m.chip.receiver.size →
    length m.chip.transmitter.queue + length bytes ≤ room x.fifo Sixteen → Path MachineStep m (map (Write offsets.DATA) bytes) n →
    Loops x m.chip n.chip (map x.cut bytes) []
loops_sends x [] m n i w few free p = loops_none x m n w p
loops_sends x (byte ∷ bytes) m n i w few free p =
    let a = loops_send x m p.0 byte i (record { modes = w; few = omega (arith, few) }) (omega (arith, free)) p.1 in
    let long = line-length x m.chip p.0.chip (x.cut byte ∷ []) [] a in
    let same = ap (room x.fifo) a.size in
    loops-trans x x m.chip p.0.chip n.chip (x.cut byte ∷ []) (map x.cut bytes) [] [] a
    (loops_sends x bytes p.0 n i a.modes (omega (arith, long, few, same)) (omega (arith, a.place, free)) p.2)
