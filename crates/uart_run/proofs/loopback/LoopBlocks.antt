-- Blocks in loopback: what they write is what they read.
use Rattle.uart_run.proofs.Names.{◌≡◌, ℕ, ◌+◌, ◌≤◌, ◌<◌, true, ◌==◌, nat_lt, List, [], ◌∷◌, ◌++◌, length, length-append, map, refl, arith}
use Rattle.uart_run.proofs.Names.{sym, ◌∙◌, ap, subst, bit_or, map-append, length-map, common_steps, Path, Access, Read, Write, has_any}
use Rattle.uart_run.proofs.Names.{Sixteen, room, room_least, ChipState, word_length, cut_to, after_read, after_write, MachineState}
use Rattle.uart_run.proofs.Names.{MachineStep, at_access, has_or, word_same, Block, Look, Hit, Other, Divisor, accesses_of, AllQuiet, IsFit}
use Rattle.uart_run.proofs.Names.{AllFit, flat, written_in, read_in, data_written, data_read, Modes, IsIn, dlab, dlab-in, loopback}
use Rattle.uart_run.proofs.Names.{path_split, look_data, look_room, line_in, Loops, loops-trans, loops-still, loops-refl, carries-refl}
use Rattle.uart_run.proofs.Names.{line-length, Fits, fits-after, IsLooped, loops_effect, loops_read, loops_quiet, loops_take, loops_none}
use Rattle.uart_run.proofs.Names.{loops_quiets, loops_sends}
use Rattle.uart_spec.specs.declared.registers.offsets.TheConstants as offsets
use Rattle.uart_spec.specs.declared.registers.line_status.TheConstants.LSR
use Rattle.uart_spec.specs.declared.registers.line_control.TheConstants.LCR
use Rattle.uart_chip.proofs.conservation.Blocks.{Burst}
use Rattle.uart_run.proofs.CallBlocks.{InBlocks}

-- ---- the divisor latch

-- under DLAB the data are left alone
loops_latch : (x : Modes) (m n : MachineState) (low : ℕ) → loopback x ≡ true → dlab x ≡ true → Fits x m.chip →
    MachineStep m (Read offsets.DLL low) n → Loops x m.chip n.chip [] []
loops_latch x m n low l on f s =
    loops_effect x x m n (after_read 0 (at_access m).chip) [] [] l f s.0
    (λ a. rw (dlab-in x (at_access m).chip a.modes ∙ on) (loops-refl x (at_access m).chip a.modes))

-- LCR is written, and the mode with it
loops_lcr : (x : Modes) (m n : MachineState) (value : ℕ) → loopback x ≡ true → Fits x m.chip → word_length value ≡ word_length x.lcr →
    MachineStep m (Write offsets.LCR value) n → Loops (record x { lcr = value }) m.chip n.chip [] []
loops_lcr x m n value l f same s =
    let c = (at_access m).chip in
    loops_effect x (record x { lcr = value }) m n (after_write 3 value c) [] [] l f s
    (λ a. loops-still (record x { lcr = value }) c (after_write 3 value c)
    (record {
      lcr = refl;
      mcr = a.modes.mcr;
      fifo = a.modes.fifo;
      cut = ap {B = ℕ → ℕ} (λ (length : ℕ) (byte : ℕ). cut_to c.cuts length byte) (same ∙ ap word_length (sym a.modes.lcr)) ∙ a.modes.cut;
    })
    (carries-refl c.transmitter c.receiver))

loops_divisor : (x : Modes) (m n : MachineState) (lcr low high : ℕ) → IsLooped x → Fits x m.chip →
    Path MachineStep m (accesses_of (Divisor lcr low high)) n → Loops x m.chip n.chip [] []
loops_divisor x m n lcr low high i f (m₁, s₁, (m₂, s₂, (m₃, s₃, (m₄, s₄, (m₅, s₅, e))))) =
    let y : Modes = record x { lcr = bit_or lcr LCR.DLAB.0 } in
    let z : Modes = record x { lcr = lcr } in
    let l = i.loopback in
    let a = loops_read x m m₁ 3 lcr l f refl s₁ in
    let f₁ = fits-after x x m.chip m₁.chip [] refl f a in
    let same : lcr ≡ x.lcr = s₁.1 ∙ (sym (ap (λ (o : MachineState). o.chip.latches.lcr) s₁.0) ∙ a.modes.lcr) in
    let on : dlab y ≡ true = has_or 7 lcr LCR.DLAB.0 ∙ grind (arith, common_steps) in
    let b : Loops y m₁.chip m₂.chip [] [] = loops_lcr x m₁ m₂ (bit_or lcr LCR.DLAB.0) l f₁ (word_same lcr ∙ ap word_length same) s₂ in
    let f₂ = fits-after x y m₁.chip m₂.chip [] refl f₁ b in
    let c = loops_latch y m₂ m₃ low l on f₂ s₃ in
    let f₃ = fits-after y y m₂.chip m₃.chip [] refl f₂ c in
    let d = loops_read y m₃ m₄ 1 high l f₃ refl s₄ in
    let f₄ = fits-after y y m₃.chip m₄.chip [] refl f₃ d in
    let g : Loops z m₄.chip m₅.chip [] [] = loops_lcr y m₄ m₅ lcr l f₄ (sym (word_same lcr)) s₅ in
    let dg = loops-trans y z m₃.chip m₄.chip m₅.chip [] [] [] [] d g in
    let cdg = loops-trans y z m₂.chip m₃.chip m₅.chip [] [] [] [] c dg in
    let bcdg = loops-trans y z m₁.chip m₂.chip m₅.chip [] [] [] [] b cdg in
    let all = loops-trans x z m.chip m₁.chip m₅.chip [] [] [] [] a bcdg in
    let back : z ≡ x = ap (λ v. record x { lcr = v }) same in
    rw e (rw back at all)

-- ---- blocks

loops_look : (x : Modes) (m n : MachineState) (line : ℕ) → loopback x ≡ true → Fits x m.chip → MachineStep m (Read offsets.LSR line) n →
    Loops x m.chip n.chip [] []
loops_look x m n line l f s = loops_read x m n 5 line l f refl s

loops_hit : (x : Modes) (m n : MachineState) (line byte : ℕ) → IsLooped x → Fits x m.chip → has_any line LSR.DATA_READY.0 ≡ true →
    Path MachineStep m (Read offsets.LSR line ∷ Read offsets.DATA byte ∷ []) n → Loops x m.chip n.chip [] (byte ∷ [])
loops_hit x m n line byte i f h (m₁, s₁, (m₂, s₂, e)) =
    let a = loops_look x m m₁ line i.loopback f s₁ in
    let t : nat_lt 0 (length m₁.chip.receiver.queue) ≡ true = sym (look_data m m₁ line s₁) ∙ h in
    let some : 0 < length m₁.chip.receiver.queue = grind (arith, common_steps) in
    rw e
    (loops-trans x x m.chip m₁.chip m₂.chip [] [] [] (byte ∷ []) a
    (loops_take x m₁ m₂ byte i (fits-after x x m.chip m₁.chip [] refl f a) some s₂))

loops_burst : (x : Modes) (m n : MachineState) (line : ℕ) (checks : List Access) (bytes : List ℕ) → IsLooped x → IsIn x m.chip →
    length (line_in m.chip) + length bytes ≤ room x.fifo m.chip.receiver.size → length bytes ≤ room x.fifo Sixteen →
    has_any line LSR.THR_EMPTY.0 ≡ true → AllQuiet checks →
    Path MachineStep m (Read offsets.LSR line ∷ (checks ++ map (Write offsets.DATA) bytes)) n → Loops x m.chip n.chip (map x.cut bytes) []
loops_burst x m n line checks bytes i w few burst h q (m₁, s₁, p) =
    let f : Fits x m.chip = record { modes = w; few = omega (arith, few) } in
    let a = loops_look x m m₁ line i.loopback f s₁ in
    let t : (length m₁.chip.transmitter.queue == 0) ≡ true = sym (look_room m m₁ line s₁) ∙ h in
    let none : length m₁.chip.transmitter.queue ≡ 0 = grind (arith, common_steps) in
    let r = path_split MachineStep m₁ n checks (map (Write offsets.DATA) bytes) p in
    let b = loops_quiets x checks m₁ r.0 i.loopback (fits-after x x m.chip m₁.chip [] refl f a) q r.1 in
    let long_a = line-length x m.chip m₁.chip [] [] a in
    let long_b = line-length x m₁.chip r.0.chip [] [] b in
    let same = ap (room x.fifo) (b.size ∙ a.size) in
    let c = loops_sends x bytes r.0 n i b.modes (omega (arith, long_a, long_b, few, same)) (omega (arith, b.place, none, burst)) r.2 in
    loops-trans x x m.chip m₁.chip n.chip [] (map x.cut bytes) [] [] a
    (loops-trans x x m₁.chip r.0.chip n.chip [] (map x.cut bytes) [] [] b c)

-- what a block does in loopback, where what it writes still fits into the line, and into any FIFO. A loopback test writes no more, so it
-- does not matter for how large the driver takes the FIFO
loops_block : (x : Modes) (most : ℕ) (m n : MachineState) (block : Block) → IsLooped x → IsIn x m.chip →
    length (line_in m.chip) + length (written_in block) ≤ room x.fifo m.chip.receiver.size →
    length (written_in block) ≤ room x.fifo Sixteen → IsFit most block →
    Path MachineStep m (accesses_of block) n → Loops x m.chip n.chip (map x.cut (written_in block)) (read_in block)
loops_block x most m n (Look line) i w few small h p =
    rw p.2 (loops_look x m p.0 line i.loopback (record { modes = w; few = omega (arith, few) }) p.1)
loops_block x most m n (Hit line byte) i w few small h p = loops_hit x m n line byte i (record { modes = w; few = omega (arith, few) }) h p
loops_block x most m n (Burst line checks bytes) i w few small h p = loops_burst x m n line checks bytes i w few small h.0 h.1 p
loops_block x most m n (Other access) i w few small h p =
    rw p.2 (loops_quiet x m p.0 access i.loopback (record { modes = w; few = omega (arith, few) }) h p.1)
loops_block x most m n (Divisor lcr low high) i w few small h p =
    loops_divisor x m n lcr low high i (record { modes = w; few = omega (arith, few) }) p

-- and what a list of blocks does
loops_blocks : (x : Modes) (most : ℕ) (blocks : List Block) (m n : MachineState) → IsLooped x → IsIn x m.chip →
    length (line_in m.chip) + length (data_written blocks) ≤ room x.fifo m.chip.receiver.size →
    length (data_written blocks) ≤ room x.fifo Sixteen → AllFit most blocks →
    Path MachineStep m (flat blocks) n → Loops x m.chip n.chip (map x.cut (data_written blocks)) (data_read blocks)
loops_blocks x most [] m n i w few small h p = loops_none x m n w p
loops_blocks x most (block ∷ blocks) m n i w few small h p =
    let q = path_split MachineStep m n (accesses_of block) (flat blocks) p in
    let e : length (written_in block ++ data_written blocks) ≡ length (written_in block) + length (data_written blocks) =
    length-append (written_in block) (data_written blocks) in
    let a = loops_block x most m q.0 block i w (omega (arith, e, few)) (omega (arith, e, small)) h.0 q.1 in
    let long = line-length x m.chip q.0.chip (map x.cut (written_in block)) (read_in block) a in
    let size : length (map x.cut (written_in block)) ≡ length (written_in block) = length-map (written_in block) x.cut in
    let same = ap (room x.fifo) a.size in
    let both : map x.cut (written_in block) ++ map x.cut (data_written blocks) ≡ map x.cut (written_in block ++ data_written blocks) =
    sym (map-append x.cut (written_in block) (data_written blocks)) in
    subst (λ (ws : List ℕ). Loops x m.chip n.chip ws (read_in block ++ data_read blocks)) both
    (loops-trans x x m.chip q.0.chip n.chip (map x.cut (written_in block)) (map x.cut (data_written blocks))
    (read_in block) (data_read blocks) a
    (loops_blocks x most blocks q.0 n i a.modes (omega (arith, e, long, size, few, same)) (omega (arith, e, small)) h.1 q.2))

-- what accesses in blocks do
pub loops_in_blocks : (x : Modes) (most : ℕ) (m n : MachineState) (made : List Access) (ws rs : List ℕ) → IsLooped x → IsIn x m.chip →
    length (line_in m.chip) + length ws ≤ room x.fifo m.chip.receiver.size → length ws ≤ room x.fifo Sixteen →
    InBlocks most made ws rs → Path MachineStep m made n → Loops x m.chip n.chip (map x.cut ws) rs
loops_in_blocks x most m n made ws rs i w few small b p =
    let a = loops_blocks x most b.blocks m n i w (rw b.is_written few) (rw b.is_written small) b.fit (rw b.joined at p) in
    rw (b.is_written, b.is_read) at a

-- ---- all that was sent comes back

same_lists : (xs ys zs : List ℕ) → xs ++ ys ≡ zs → length xs ≡ length zs → (xs ≡ zs) × (ys ≡ [])
same_lists [] [] zs e h = (e, refl)
same_lists [] (y ∷ ys) [] e h = absurd (cc)
same_lists [] (y ∷ ys) (z ∷ zs) e h = absurd (omega arith)
same_lists (x ∷ xs) ys [] e h = absurd (omega arith)
same_lists (x ∷ xs) ys (z ∷ zs) e h =
    let f : xs ++ ys ≡ zs = cc in
    let g : x ≡ z = cc in
    let k : length xs ≡ length zs = omega arith in
    let i = same_lists xs ys zs f k in (cc (i.0), i.1)

-- in these modes of a loopback test the line is empty, and the wire is this
pub record IsIdle (x : Modes) (gone : List ℕ) (c : ChipState) : Type 0 where
  pub modes : IsIn x c
  pub line : line_in c ≡ []
  pub wire : c.transmitter.wire ≡ gone

-- what was read is what came to the line, and it is empty again
pub record CameBack (x : Modes) (gone : List ℕ) (c : ChipState) (written read : List ℕ) : Type 0 where
  pub same : read ≡ written
  pub idle : IsIdle x gone c

pub comes_back : (x : Modes) (most : ℕ) (gone : List ℕ) (m n : MachineState) (made : List Access) (ws rs : List ℕ) → IsLooped x →
    IsIdle x gone m.chip → length ws ≤ room x.fifo Sixteen → length rs ≡ length ws → InBlocks most made ws rs →
    Path MachineStep m made n → CameBack x gone n.chip (map x.cut ws) rs
comes_back x most gone m n made ws rs i idle few all b p =
    let none : length (line_in m.chip) ≡ 0 = ap length idle.line in
    let any = room_least x.fifo m.chip.receiver.size in
    let a = loops_in_blocks x most m n made ws rs i idle.modes (omega (arith, none, few, any)) few b p in
    let e : rs ++ line_in n.chip ≡ map x.cut ws = a.line ∙ ap (λ zs. zs ++ map x.cut ws) idle.line in
    let s = same_lists rs (line_in n.chip) (map x.cut ws) e (all ∙ sym (length-map ws x.cut)) in
    record { same = s.0; idle = record { modes = a.modes; line = s.1; wire = a.wire ∙ idle.wire } }
