-- What each block of a session does to the machine, and what a list of blocks does.
use Rattle.std.proofs.Common.{◌≡◌, ℕ, ◌+◌, ◌≤◌, ◌<◌, Bool, true, false, ◌==◌, nat_lt, List, [], ◌∷◌, ◌++◌, length, map, refl, arith, sym}
use Rattle.std.proofs.Common.{◌∙◌, ap, subst, bit_or}
use Rattle.std.proofs.lemmas.List.{map-append}
use Rattle.std.proofs.lemmas.Grind.{common_steps}
use Rattle.uart_chip.specs.declared.receiver.Character.{Character}
use Rattle.uart_spec.specs.Access.{Path}
use Rattle.uart_spec.specs.declared.access.Access.{Access}
use Rattle.uart_spec.specs.declared.access.Access.TheVariants.{Read, Write}
use Rattle.uart_spec.specs.Bits.{has_any}
use Rattle.uart_spec.specs.declared.registers.line_control.TheConstants.LCR
use Rattle.uart_spec.specs.declared.registers.line_status.TheConstants.LSR
use Rattle.uart_spec.specs.declared.registers.offsets.TheConstants as offsets
use Rattle.uart_chip.specs.Transmitter.{room}
use Rattle.uart_chip.specs.Receiver.{report}
use Rattle.uart_chip.specs.Chip.{word_length, line_status, after_read, after_write}
use Rattle.uart_chip.specs.Machine.{MachineState, MachineStep, at_access}
use Rattle.uart_chip.specs.Sound.{IsSound}
use Rattle.uart_chip.proofs.Bits.{has_or, word_same}
use Rattle.uart_chip.proofs.statuses.Status.{status_room, status_data}
use Rattle.uart_chip.proofs.soundness.Sounds.{sound_access, sound_read, sound_write}
use Rattle.uart_chip.proofs.conservation.Blocks.{is_quiet, Block, Look, Hit, Burst, Other, Divisor, accesses_of, AllQuiet, IsFit, AllFit}
use Rattle.uart_chip.proofs.conservation.Blocks.{flat, written_in, read_in, data_written, data_read}
use Rattle.uart_chip.proofs.conservation.Went.{Modes, IsIn, fixed, dlab, loopback, Went}
use Rattle.uart_chip.proofs.statuses.Reports.{IsReported, report_reported}
use Rattle.uart_chip.proofs.conservation.Effects.{went-look, went-send, TookFront, went-take, went-read_latch, went-write_lcr}
use Rattle.uart_chip.proofs.conservation.Effects.{went-read_1, went-write_low, went-write_high, went-write_frame}
use Rattle.uart_chip.proofs.conservation.Effects.{went-quiet_read, went-quiet_write, IsLevel, went-write_level}
use Rattle.uart_chip.proofs.conservation.Passed.{Passed, passed-refl, passed-trans, passed-access, passed-effect}

-- a path of a list is one of the same list
pub path_as : (m n : MachineState) (l k : List Access) → l ≡ k → Path MachineStep m l n → Path MachineStep m k n
path_as m n l k e p = let P : List Access → Type 0 = λ v. Path MachineStep m v n in subst P e p

-- a path of two lists leads through a state between
pub path_split : {S : Type 0} (step : S → Access → S → Type 0) (a c : S) (xs ys : List Access) → Path step a (xs ++ ys) c →
    (b : S) × Path step a xs b × Path step b ys c
path_split step a c [] ys p = (a, refl, p)
path_split step a c (x ∷ xs) ys p = let q = path_split step p.0 c xs ys p.2 in (q.0, (p.0, p.1, q.1), q.2)

-- these modes are those of a session: neither DLAB nor loopback is set
pub record IsOpen (x : Modes) : Type 0 where
  pub dlab : dlab x ≡ false
  pub loopback : loopback x ≡ false

-- a sound machine in these modes
pub record Stands (x : Modes) (m : MachineState) : Type 0 where
  pub sound : IsSound m
  pub modes : IsIn x m.chip

pub stands-after : (x : Modes) (m n : MachineState) (made : List Access) (ws : List ℕ) (ts : List Character) → Passed x m n made ws ts →
    Stands x n
stands-after x m n made ws ts p = record { sound = p.sound; modes = p.went.modes }

-- ---- single accesses

-- a read: the events before it, and its effect
passed_read : (x : Modes) (m n : MachineState) (offset value : ℕ) (ts : List Character) → loopback x ≡ false → Stands x m →
    MachineStep m (Read offset value) n →
    (Passed x m (at_access m) [] [] [] →
    Went x (at_access m).chip (after_read offset (at_access m).chip) [] (Read offset value ∷ []) [] ts) →
    Passed x m n (Read offset value ∷ []) [] ts
passed_read x m n offset value ts l w s effect =
    passed-effect x x m n (after_read offset (at_access m).chip) (Read offset value) [] ts l refl w.sound w.modes s.0
    (sound_read offset (at_access m) (sound_access m w.sound)) effect

-- a write, which may change the modes
passed_write : (x y : Modes) (m n : MachineState) (offset value : ℕ) (ws : List ℕ) → loopback x ≡ false → fixed y ≡ fixed x → Stands x m →
    MachineStep m (Write offset value) n →
    (Passed x m (at_access m) [] [] [] →
    Went y (at_access m).chip (after_write offset value (at_access m).chip) [] (Write offset value ∷ []) ws []) →
    Passed y m n (Write offset value ∷ []) ws []
passed_write x y m n offset value ws l same w s effect =
    passed-effect x y m n (after_write offset value (at_access m).chip) (Write offset value) ws [] l same w.sound w.modes s
    (sound_write offset value (at_access m) (sound_access m w.sound)) effect

pub passed-look : (x : Modes) (m n : MachineState) (line : ℕ) → loopback x ≡ false → Stands x m → MachineStep m (Read offsets.LSR line) n →
    Passed x m n (Read offsets.LSR line ∷ []) [] []
passed-look x m n line l w s = passed_read x m n 5 line [] l w s (λ p. went-look x (at_access m).chip line p.sound.chip p.went.modes s.1)

-- what a look shows of the machine after it
pub look_data : (m n : MachineState) (line : ℕ) → MachineStep m (Read offsets.LSR line) n →
    has_any line LSR.DATA_READY.0 ≡ nat_lt 0 (length n.chip.receiver.queue)
look_data m n line s =
    let e : has_any line LSR.DATA_READY.0 ≡ has_any (line_status (at_access m).chip) LSR.DATA_READY.0 =
    ap (λ l. has_any l LSR.DATA_READY.0) s.1 in
    e ∙ (status_data (at_access m).chip ∙ sym (ap (λ (o : MachineState). nat_lt 0 (length o.chip.receiver.queue)) s.0))

pub look_room : (m n : MachineState) (line : ℕ) → MachineStep m (Read offsets.LSR line) n →
    has_any line LSR.THR_EMPTY.0 ≡ (length n.chip.transmitter.queue == 0)
look_room m n line s =
    let e : has_any line LSR.THR_EMPTY.0 ≡ has_any (line_status (at_access m).chip) LSR.THR_EMPTY.0 =
    ap (λ l. has_any l LSR.THR_EMPTY.0) s.1 in
    e ∙ (status_room (at_access m).chip ∙ sym (ap (λ (o : MachineState). length o.chip.transmitter.queue == 0) s.0))

-- a look reports what waits
pub look_reported : (fifo : Bool) (m n : MachineState) (line : ℕ) → MachineStep m (Read offsets.LSR line) n →
    0 < length n.chip.receiver.queue → IsReported fifo n.chip.receiver
look_reported fifo m n line s some =
    let same : n.chip.receiver ≡ report (at_access m).chip.receiver = ap (λ (o : MachineState). o.chip.receiver) s.0 in
    rw same (report_reported fifo (at_access m).chip.receiver (rw same at some))

-- a character is taken, which must wait and have been reported
pub record Took (x : Modes) (m n : MachineState) (byte : ℕ) : Type 0 where
  pub front : Character
  pub rest : List Character
  pub queue : (at_access m).chip.receiver.queue ≡ front ∷ rest
  pub is_byte : front.byte ≡ byte
  pub passed : Passed x m n (Read offsets.DATA byte ∷ []) [] (front ∷ [])

pub took : (x : Modes) (m n : MachineState) (byte : ℕ) → IsOpen x → Stands x m → IsReported x.fifo m.chip.receiver →
    MachineStep m (Read offsets.DATA byte) n → Took x m n byte
took x m n byte o w told s =
    let p : Passed x m (at_access m) [] [] [] = passed-access x m o.loopback w.sound w.modes in
    let t : TookFront x (at_access m).chip byte =
    went-take x (at_access m).chip byte o.dlab p.sound.chip p.went.modes (p.went.reports.still refl told) s.1 in
    record {
      front = t.front;
      rest = t.rest;
      queue = t.queue;
      is_byte = t.is_byte;
      passed = passed_read x m n 0 byte (t.front ∷ []) o.loopback w s (λ q. t.went);
    }

passed_send : (x : Modes) (m n : MachineState) (byte : ℕ) → IsOpen x → Stands x m →
    length m.chip.transmitter.queue < room x.fifo m.chip.transmitter.size →
    MachineStep m (Write offsets.DATA byte) n →
    Passed x m n (Write offsets.DATA byte ∷ []) (byte ∷ []) []
passed_send x m n byte o w free s =
    passed_write x x m n offsets.DATA byte (byte ∷ []) o.loopback refl w s
    (λ p. let same = ap (room x.fifo) p.went.sends.size in
    went-send x (at_access m).chip byte o.dlab p.sound.chip p.went.modes (omega (arith, p.went.sends.place, free, same)))

pub passed_quiet : (x : Modes) (m n : MachineState) (access : Access) → IsOpen x → Stands x m → is_quiet access ≡ true →
    MachineStep m access n → Passed x m n (access ∷ []) [] []
passed_quiet x m n (Read offset value) o w q s =
    passed_read x m n offset value [] o.loopback w s
    (λ p. went-quiet_read x (at_access m).chip offset value p.sound.chip p.went.modes q s.1)
passed_quiet x m n (Write offset value) o w q s =
    passed_write x x m n offset value [] o.loopback refl w s
    (λ p. went-quiet_write x (at_access m).chip offset value o.dlab p.sound.chip p.went.modes q)

-- FCR is written while the FIFO is on, and nothing is reset
pub passed_level : (x : Modes) (m n : MachineState) (value : ℕ) → IsOpen x → x.fifo ≡ true → IsLevel value → Stands x m →
    MachineStep m (Write offsets.FCR value) n → Passed x m n (Write offsets.FCR value ∷ []) [] []
passed_level x m n value o on level w s =
    passed_write x x m n offsets.FCR value [] o.loopback refl w s
    (λ p. went-write_level x (at_access m).chip value o.dlab on level p.sound.chip p.went.modes)

-- ---- some accesses of one kind

passed_none : (x : Modes) (m n : MachineState) → Stands x m → n ≡ m → Passed x m n [] [] []
passed_none x m n w e = rw e (passed-refl x m w.sound w.modes)

passed_quiets : (x : Modes) (accesses : List Access) (m n : MachineState) → IsOpen x → Stands x m → AllQuiet accesses →
    Path MachineStep m accesses n → Passed x m n accesses [] []
passed_quiets x [] m n o w q p = passed_none x m n w p
passed_quiets x (access ∷ accesses) m n o w q p =
    let a = passed_quiet x m p.0 access o w q.0 p.1 in
    passed-trans x x m p.0 n (access ∷ []) accesses [] [] [] [] refl a
    (passed_quiets x accesses p.0 n o (stands-after x m p.0 _ _ _ a) q.1 p.2)

passed_sends : (x : Modes) (bytes : List ℕ) (m n : MachineState) → IsOpen x → Stands x m →
    length m.chip.transmitter.queue + length bytes ≤ room x.fifo m.chip.transmitter.size →
    Path MachineStep m (map (Write offsets.DATA) bytes) n → Passed x m n (map (Write offsets.DATA) bytes) bytes []
passed_sends x [] m n o w h p = passed_none x m n w p
passed_sends x (byte ∷ bytes) m n o w h p =
    let a = passed_send x m p.0 byte o w (omega (arith, h)) p.1 in
    let same = ap (room x.fifo) a.went.sends.size in
    passed-trans x x m p.0 n (Write offsets.DATA byte ∷ []) (map (Write offsets.DATA) bytes) (byte ∷ []) bytes [] [] refl a
    (passed_sends x bytes p.0 n o (stands-after x m p.0 _ _ _ a) (omega (arith, a.went.sends.place, h, same)) p.2)

-- ---- blocks

-- these blocks were passed: what was taken are the bytes that they read
pub record PassedBlocks (x : Modes) (m n : MachineState) (made : List Access) (written read : List ℕ) : Type 0 where
  pub takes : List Character
  pub bytes : map (λ character. character.byte) takes ≡ read
  pub passed : Passed x m n made written takes

pub nothing_taken : (x : Modes) (m n : MachineState) (made : List Access) (written : List ℕ) → Passed x m n made written [] →
    PassedBlocks x m n made written []
nothing_taken x m n made written p = record { takes = []; bytes = refl; passed = p }

passed_hit : (x : Modes) (m n : MachineState) (line byte : ℕ) → IsOpen x → Stands x m → has_any line LSR.DATA_READY.0 ≡ true →
    Path MachineStep m (Read offsets.LSR line ∷ Read offsets.DATA byte ∷ []) n →
    PassedBlocks x m n (Read offsets.LSR line ∷ Read offsets.DATA byte ∷ []) [] (byte ∷ [])
passed_hit x m n line byte o w h (m₁, s₁, (m₂, s₂, e)) =
    let a = passed-look x m m₁ line o.loopback w s₁ in
    let t : nat_lt 0 (length m₁.chip.receiver.queue) ≡ true = sym (look_data m m₁ line s₁) ∙ h in
    let some : 0 < length m₁.chip.receiver.queue = grind (arith, common_steps) in
    let told : IsReported x.fifo m₁.chip.receiver = look_reported x.fifo m m₁ line s₁ some in
    let b : Took x m₁ m₂ byte = took x m₁ m₂ byte o (stands-after x m m₁ _ _ _ a) told s₂ in
    rw e (record {
      takes = b.front ∷ [];
      bytes = ap (λ v. v ∷ []) b.is_byte;
      passed = passed-trans x x m m₁ m₂ (Read offsets.LSR line ∷ []) (Read offsets.DATA byte ∷ []) [] [] [] (b.front ∷ []) refl a b.passed;
    })

passed_burst : (x : Modes) (m n : MachineState) (line : ℕ) (checks : List Access) (bytes : List ℕ) → IsOpen x → Stands x m →
    has_any line LSR.THR_EMPTY.0 ≡ true → AllQuiet checks →
    length bytes ≤ room x.fifo m.chip.transmitter.size →
    Path MachineStep m (Read offsets.LSR line ∷ (checks ++ map (Write offsets.DATA) bytes)) n →
    Passed x m n (Read offsets.LSR line ∷ (checks ++ map (Write offsets.DATA) bytes)) bytes []
passed_burst x m n line checks bytes o w h q few (m₁, s₁, p) =
    let a = passed-look x m m₁ line o.loopback w s₁ in
    let t : (length m₁.chip.transmitter.queue == 0) ≡ true = sym (look_room m m₁ line s₁) ∙ h in
    let none : length m₁.chip.transmitter.queue ≡ 0 = grind (arith, common_steps) in
    let r = path_split MachineStep m₁ n checks (map (Write offsets.DATA) bytes) p in
    let b = passed_quiets x checks m₁ r.0 o (stands-after x m m₁ _ _ _ a) q r.1 in
    let same = ap (room x.fifo) (b.went.sends.size ∙ a.went.sends.size) in
    let c = passed_sends x bytes r.0 n o (stands-after x m₁ r.0 _ _ _ b) (omega (arith, b.went.sends.place, none, few, same)) r.2 in
    let bc = passed-trans x x m₁ r.0 n checks (map (Write offsets.DATA) bytes) [] bytes [] [] refl b c in
    passed-trans x x m m₁ n (Read offsets.LSR line ∷ []) (checks ++ map (Write offsets.DATA) bytes) [] bytes [] [] refl a bc

-- the divisor latch is shown, read, and hidden again
passed_divisor : (x : Modes) (m n : MachineState) (lcr low high : ℕ) → IsOpen x → Stands x m →
    Path MachineStep m (accesses_of (Divisor lcr low high)) n →
    Passed x m n (accesses_of (Divisor lcr low high)) [] []
passed_divisor x m n lcr low high o w (m₁, s₁, (m₂, s₂, (m₃, s₃, (m₄, s₄, (m₅, s₅, e))))) =
    let y : Modes = record x { lcr = bit_or lcr LCR.DLAB.0 } in
    let z : Modes = record x { lcr = lcr } in
    let a = passed_quiet x m m₁ (Read offsets.LCR lcr) o w refl s₁ in
    let same : lcr ≡ x.lcr = s₁.1 ∙ (sym (ap (λ (n : MachineState). n.chip.latches.lcr) s₁.0) ∙ a.went.modes.lcr) in
    let on : dlab y ≡ true = has_or 7 lcr 128 ∙ grind (arith, common_steps) in
    let b : Passed y m₁ m₂ (Write offsets.LCR (bit_or lcr LCR.DLAB.0) ∷ []) [] [] =
    passed_write x y m₁ m₂ offsets.LCR (bit_or lcr LCR.DLAB.0) [] o.loopback refl (stands-after x m m₁ _ _ _ a) s₂
    (λ p. went-write_lcr x (at_access m₁).chip (bit_or lcr LCR.DLAB.0) p.sound.chip p.went.modes
    (word_same lcr ∙ ap word_length (same ∙ sym p.went.modes.lcr))) in
    let c : Passed y m₂ m₃ (Read offsets.DLL low ∷ []) [] [] =
    passed_read y m₂ m₃ 0 low [] o.loopback (stands-after y m₁ m₂ _ _ _ b) s₃
    (λ p. went-read_latch y (at_access m₂).chip low on p.sound.chip p.went.modes) in
    let d : Passed y m₃ m₄ (Read offsets.DLM high ∷ []) [] [] =
    passed_read y m₃ m₄ 1 high [] o.loopback (stands-after y m₂ m₃ _ _ _ c) s₄
    (λ p. went-read_1 y (at_access m₃).chip high p.sound.chip p.went.modes) in
    let f : Passed z m₄ m₅ (Write offsets.LCR lcr ∷ []) [] [] =
    passed_write y z m₄ m₅ offsets.LCR lcr [] o.loopback refl (stands-after y m₃ m₄ _ _ _ d) s₅
    (λ p. went-write_lcr y (at_access m₄).chip lcr p.sound.chip p.went.modes
    (sym (word_same lcr) ∙ ap word_length (sym p.went.modes.lcr))) in
    let df = passed-trans y z m₃ m₄ m₅ (Read offsets.DLM high ∷ []) (Write offsets.LCR lcr ∷ []) [] [] [] [] refl d f in
    let cdf =
    passed-trans y z m₂ m₃ m₅ (Read offsets.DLL low ∷ []) (Read offsets.DLM high ∷ Write offsets.LCR lcr ∷ []) [] [] [] [] refl c df in
    let bcdf =
    passed-trans y z m₁ m₂ m₅ (Write offsets.LCR (bit_or lcr LCR.DLAB.0) ∷ [])
    (Read offsets.DLL low ∷ Read offsets.DLM high ∷ Write offsets.LCR lcr ∷ []) [] [] [] [] refl b cdf in
    let all =
    passed-trans x z m m₁ m₅ (Read offsets.LCR lcr ∷ [])
    (Write offsets.LCR (bit_or lcr LCR.DLAB.0) ∷ Read offsets.DLL low ∷ Read offsets.DLM high ∷ Write offsets.LCR lcr ∷
    []) [] [] [] [] refl a bcdf in
    let back : z ≡ x = ap (λ v. record x { lcr = v }) same in
    rw e (rw back at all)

-- LCR is read, and written with the same word length
pub record Relined (x : Modes) (m n : MachineState) (lcr value : ℕ) : Type 0 where
  pub same : lcr ≡ x.lcr
  pub passed : Passed (record x { lcr = value }) m n (Read offsets.LCR lcr ∷ Write offsets.LCR value ∷ []) [] []

pub relined : (x : Modes) (m n : MachineState) (lcr value : ℕ) → IsOpen x → Stands x m → word_length value ≡ word_length lcr →
    Path MachineStep m (Read offsets.LCR lcr ∷ Write offsets.LCR value ∷ []) n → Relined x m n lcr value
relined x m n lcr value o w word (m₁, s₁, (m₂, s₂, e)) =
    let z : Modes = record x { lcr = value } in
    let a = passed_quiet x m m₁ (Read offsets.LCR lcr) o w refl s₁ in
    let same : lcr ≡ x.lcr = s₁.1 ∙ (sym (ap (λ (n : MachineState). n.chip.latches.lcr) s₁.0) ∙ a.went.modes.lcr) in
    let b : Passed z m₁ m₂ (Write offsets.LCR value ∷ []) [] [] =
    passed_write x z m₁ m₂ offsets.LCR value [] o.loopback refl (stands-after x m m₁ _ _ _ a) s₂
    (λ p. went-write_lcr x (at_access m₁).chip value p.sound.chip p.went.modes (word ∙ ap word_length (same ∙ sym p.went.modes.lcr))) in
    rw e (record {
      same = same;
      passed = passed-trans x z m m₁ m₂ (Read offsets.LCR lcr ∷ []) (Write offsets.LCR value ∷ []) [] [] [] [] refl a b;
    })

-- the divisor latch is shown and written, and hidden again, with another frame in LCR, on a machine that cuts nothing
pub passed_frame : (x : Modes) (m n : MachineState) (low high frame : ℕ) → IsOpen x → Stands x m → x.cut ≡ (λ (byte : ℕ). byte) →
    Path MachineStep m (Write offsets.LCR (bit_or frame LCR.DLAB.0) ∷ Write offsets.DLL low ∷ Write offsets.DLM high ∷
    Write offsets.LCR frame ∷ []) n →
    Passed (record x { lcr = frame }) m n (Write offsets.LCR (bit_or frame LCR.DLAB.0) ∷ Write offsets.DLL low ∷ Write offsets.DLM high ∷
    Write offsets.LCR frame ∷ []) [] []
passed_frame x m n low high frame o w whole (m₁, s₁, (m₂, s₂, (m₃, s₃, (m₄, s₄, e)))) =
    let y : Modes = record x { lcr = bit_or frame LCR.DLAB.0 } in
    let z : Modes = record x { lcr = frame } in
    let on : dlab y ≡ true = has_or 7 frame 128 ∙ grind (arith, common_steps) in
    let a : Passed y m m₁ (Write offsets.LCR (bit_or frame LCR.DLAB.0) ∷ []) [] [] =
    passed_write x y m m₁ offsets.LCR (bit_or frame LCR.DLAB.0) [] o.loopback refl w s₁
    (λ p. went-write_frame x (at_access m).chip (bit_or frame LCR.DLAB.0) p.sound.chip p.went.modes whole) in
    let b : Passed y m₁ m₂ (Write offsets.DLL low ∷ []) [] [] =
    passed_write y y m₁ m₂ offsets.DATA low [] o.loopback refl (stands-after y m m₁ _ _ _ a) s₂
    (λ p. went-write_low y (at_access m₁).chip low on p.sound.chip p.went.modes) in
    let c : Passed y m₂ m₃ (Write offsets.DLM high ∷ []) [] [] =
    passed_write y y m₂ m₃ offsets.IER high [] o.loopback refl (stands-after y m₁ m₂ _ _ _ b) s₃
    (λ p. went-write_high y (at_access m₂).chip high on p.sound.chip p.went.modes) in
    let d : Passed z m₃ m₄ (Write offsets.LCR frame ∷ []) [] [] =
    passed_write y z m₃ m₄ offsets.LCR frame [] o.loopback refl (stands-after y m₂ m₃ _ _ _ c) s₄
    (λ p. went-write_frame y (at_access m₃).chip frame p.sound.chip p.went.modes whole) in
    let cd = passed-trans y z m₂ m₃ m₄ (Write offsets.DLM high ∷ []) (Write offsets.LCR frame ∷ []) [] [] [] [] refl c d in
    let bcd =
    passed-trans y z m₁ m₂ m₄ (Write offsets.DLL low ∷ []) (Write offsets.DLM high ∷ Write offsets.LCR frame ∷ []) [] [] [] [] refl b cd in
    rw e (passed-trans y z m m₁ m₄ (Write offsets.LCR (bit_or frame LCR.DLAB.0) ∷ [])
    (Write offsets.DLL low ∷ Write offsets.DLM high ∷ Write offsets.LCR frame ∷ []) [] [] [] [] refl a bcd)

-- what a block does to a machine of a session that has room for as many bytes as are written after one look
pub passed_block : (x : Modes) (most : ℕ) (m n : MachineState) (block : Block) → IsOpen x → Stands x m →
    most ≤ room x.fifo m.chip.transmitter.size → IsFit most block → Path MachineStep m (accesses_of block) n →
    PassedBlocks x m n (accesses_of block) (written_in block) (read_in block)
passed_block x most m n (Look line) o w fits h p = nothing_taken x m n _ [] (rw p.2 (passed-look x m p.0 line o.loopback w p.1))
passed_block x most m n (Hit line byte) o w fits h p = passed_hit x m n line byte o w h p
passed_block x most m n (Burst line checks bytes) o w fits h p =
    let few = h.2 in
    nothing_taken x m n _ bytes (passed_burst x m n line checks bytes o w h.0 h.1 (omega (arith, few, fits)) p)
passed_block x most m n (Other access) o w fits h p = nothing_taken x m n _ [] (rw p.2 (passed_quiet x m p.0 access o w h p.1))
passed_block x most m n (Divisor lcr low high) o w fits h p = nothing_taken x m n _ [] (passed_divisor x m n lcr low high o w p)

pub passed_blocks-trans : (x : Modes) (m n o : MachineState) (xs ys : List Access) (ws vs rs qs : List ℕ) → PassedBlocks x m n xs ws rs →
    PassedBlocks x n o ys vs qs →
    PassedBlocks x m o (xs ++ ys) (ws ++ vs) (rs ++ qs)
passed_blocks-trans x m n o xs ys ws vs rs qs a b =
    let byte : Character → ℕ = λ character. character.byte in
    record {
      takes = a.takes ++ b.takes;
      bytes = map-append byte a.takes b.takes ∙ (ap (λ zs. zs ++ map byte b.takes) a.bytes ∙ ap (λ zs. rs ++ zs) b.bytes);
      passed = passed-trans x x m n o xs ys ws vs a.takes b.takes refl a.passed b.passed;
    }

-- and what a list of blocks does
pub passed_blocks : (x : Modes) (most : ℕ) (blocks : List Block) (m n : MachineState) → IsOpen x → Stands x m →
    most ≤ room x.fifo m.chip.transmitter.size → AllFit most blocks → Path MachineStep m (flat blocks) n →
    PassedBlocks x m n (flat blocks) (data_written blocks) (data_read blocks)
passed_blocks x most [] m n o w fits h p = nothing_taken x m n [] [] (passed_none x m n w p)
passed_blocks x most (block ∷ blocks) m n o w fits h p =
    let q = path_split MachineStep m n (accesses_of block) (flat blocks) p in
    let a = passed_block x most m q.0 block o w fits h.0 q.1 in
    let same = ap (room x.fifo) a.passed.went.sends.size in
    passed_blocks-trans x m q.0 n (accesses_of block) (flat blocks) (written_in block) (data_written blocks) (read_in block)
    (data_read blocks) a
    (passed_blocks x most blocks q.0 n o (stands-after x m q.0 _ _ _ a.passed) (omega (arith, fits, same)) h.1 q.2)
