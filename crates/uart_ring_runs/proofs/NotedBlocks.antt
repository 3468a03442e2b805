-- What each block of accesses does to the machine and to the notes above it, with the FIFO on.
use Rattle.uart_ring_runs.proofs.Names.{◌≡◌, ◌⊎◌, ℕ, ◌<◌, ◌≤◌, Bool, true, false, ◌==◌, inl, inr, List, [], ◌∷◌, ◌++◌, length, map, nat_lt}
use Rattle.uart_ring_runs.proofs.Names.{take, refl, sym, ◌∙◌, ap, subst, arith, ◌-◌, bit_or, common_steps, take-append-drop, map-append}
use Rattle.uart_ring_runs.proofs.Names.{Path, has, has_any, Access, Read, Write, is_dlab_set, is_loopback, room, reported_front}
use Rattle.uart_ring_runs.proofs.Names.{MachineState, MachineStep, at_access, ReceiverState, Character, has_one, has_or, each-append}
use Rattle.uart_ring_runs.proofs.Names.{each-weaker, IsOpen, Stands, stands-after, path_split, passed-look, look_data, look_reported, Took}
use Rattle.uart_ring_runs.proofs.Names.{took, PassedBlocks, passed_block, Passed, passed-refl, passed-trans, passed-access, Modes, dlab-in}
use Rattle.uart_ring_runs.proofs.Names.{character_errors, InBlocks, none_reported, Kept, HitTells, hit_tells, lost_stays, Notes}
use Rattle.uart_ring_runs.proofs.Names.{with_access, with_latest, shown_of, only_bytes, IsInStep}
use Rattle.uart_spec.specs.declared.registers.line_control.TheConstants.LCR
use Rattle.uart_spec.specs.declared.registers.line_status.TheConstants.LSR
use Rattle.uart_spec.specs.declared.registers.offsets.TheConstants as offsets
use Rattle.uart_chip.proofs.conservation.Blocks.{is_quiet, Block, Look, Hit, Burst, Other, Divisor, accesses_of, AllQuiet, IsFit, AllFit}
use Rattle.uart_chip.proofs.conservation.Blocks.{flat, written_in, read_in, data_written, data_read}
use Rattle.uart_chip.proofs.statuses.Reports.{IsReported}
use Rattle.uart_ring_runs.proofs.NotedAccesses.{Along, Noted, Tame, Looks, Reads, Sends, Enables, Frames, Keeps, AllTame, all_tame_noted}
use Rattle.uart_ring_runs.proofs.NotedAccesses.{either, either_shown, look_noted, tame_noted, latch_noted, noted_then, noted_start}
use Rattle.uart_ring_runs.proofs.NotedAccesses.{with_accesses, with_append, fits_access, read_kept, read_sound}

-- ---- blocks that take nothing

refuted : (b : Bool) → (b ≡ true → ⊥) → b ≡ false
refuted true h = absurd (h refl)
refuted false h = refl

-- no quiet read is of this register
not_quiet : (offset register answer : ℕ) → is_quiet (Read register answer) ≡ false → is_quiet (Read offset answer) ≡ true →
    (offset == register) ≡ false
not_quiet offset register answer loud quiet = refuted (offset == register) (λ e.
    let same : offset ≡ register = grind (arith, common_steps) in
    let Q : ℕ → Type 0 = λ v. is_quiet (Read v answer) ≡ true in
    let wrong = subst Q same quiet in absurd (cc))

quiet_tame : (access : Access) → is_quiet access ≡ true → Tame access
quiet_tame (Read offset answer) q =
    Reads offset answer (not_quiet offset offsets.LSR answer refl q) (not_quiet offset offsets.DATA answer refl q)
quiet_tame (Write offset value) q = elim (either (offset == offsets.IER) (offset == offsets.SPR) q) [
  | inl e ↦ let same : offsets.IER ≡ offset = grind (arith, common_steps) in subst (λ (v : ℕ). Tame (Write v value)) same (Enables value)
  | inr e ↦ let same : offsets.SPR ≡ offset = grind (arith, common_steps) in subst (λ (v : ℕ). Tame (Write v value)) same (Keeps value)
]

sends_tame : (bytes : List ℕ) → AllTame (map (Write offsets.DATA) bytes)
sends_tame [] = tt
sends_tame (byte ∷ bytes) = (Sends byte, sends_tame bytes)

quiets_tame : (accesses : List Access) → AllQuiet accesses → AllTame accesses
quiets_tame accesses quiet = each-weaker (λ (access : Access). is_quiet access ≡ true) Tame quiet_tame accesses quiet

-- the divisor latch is shown, read, and hidden again
divisor_noted : (lcr low high : ℕ) (a : Notes) (m n : MachineState) → Along a m →
    Path MachineStep m (accesses_of (Divisor lcr low high)) n →
    Noted a (with_accesses (accesses_of (Divisor lcr low high)) a) m n []
divisor_noted lcr low high a m n w (m₁, s₁, (m₂, s₂, (m₃, s₃, (m₄, s₄, (m₅, s₅, e))))) =
    let shown = bit_or lcr LCR.DLAB.0 in
    let b : Notes = record a { is_latch = has shown LCR.DLAB.0 } in
    let on : has shown LCR.DLAB.0 ≡ true = has_one 7 shown ∙ (has_or 7 lcr 128 ∙ grind (arith, common_steps)) in
    let one = tame_noted (Read offsets.LCR lcr) a m m₁ (Reads offsets.LCR lcr refl refl) w s₁ in
    let two = tame_noted (Write offsets.LCR shown) a m₁ m₂ (Frames shown) one.along s₂ in
    let three = latch_noted b m₂ m₃ low two.along on s₃ in
    let c : Notes = with_access (Read offsets.DLL low) b in
    let four = tame_noted (Read offsets.DLM high) c m₃ m₄ (Reads offsets.DLM high refl refl) three.along s₄ in
    let five = tame_noted (Write offsets.LCR lcr) c m₄ m₅ (Frames lcr) four.along s₅ in
    let d : Notes = with_access (Write offsets.LCR lcr) c in
    let last = noted_then c c d m₃ m₄ m₅ [] [] four five in
    let more = noted_then b c d m₂ m₃ m₅ [] [] three last in
    let most = noted_then a b d m₁ m₂ m₅ [] [] two more in
    rw e (noted_then a a d m m₁ m₅ [] [] one most)

-- ---- blocks

-- these blocks were passed: what was taken are the bytes that they read, and of each its errors were noted
pub record NotedBlocks (x : Modes) (a b : Notes) (m n : MachineState) (made : List Access) (written read : List ℕ) : Type 0 where
  pub takes : List Character
  pub bytes : only_bytes takes ≡ read
  pub passed : Passed x m n made written takes
  pub noted : Noted a b m n takes

pub no_bytes : (characters : List Character) → only_bytes characters ≡ [] → characters ≡ []
no_bytes [] e = refl
no_bytes (character ∷ characters) e = absurd (cc)

pub noted_nothing : (x : Modes) (a b : Notes) (m n : MachineState) (made : List Access) (ws : List ℕ) → PassedBlocks x m n made ws [] →
    Noted a b m n [] → NotedBlocks x a b m n made ws []
noted_nothing x a b m n made ws p noted = record {
  takes = [];
  bytes = refl;
  passed = subst (λ (cs : List Character). Passed x m n made ws cs) (no_bytes p.takes p.bytes) p.passed;
  noted = noted;
}

-- with the FIFO on, what was reported is the front
front_reported : (fifo : Bool) (r : ReceiverState) → fifo ≡ true → IsReported fifo r → r.is_front_reported ≡ true
front_reported fifo r on told = go told.reported
  where
    go : (r.is_front_reported ≡ true) ⊎ ((fifo ≡ false) × (r.is_overrun ≡ true)) → r.is_front_reported ≡ true
    go (inl set) = set
    go (inr (off, overrun)) = absurd (cc)

hit_noted : (x : Modes) (a : Notes) (m n : MachineState) (line byte : ℕ) → IsOpen x → x.fifo ≡ true → Stands x m → Along a m →
    has_any line LSR.DATA_READY.0 ≡ true → Path MachineStep m (Read offsets.LSR line ∷ Read offsets.DATA byte ∷ []) n →
    NotedBlocks x a (with_accesses (Read offsets.LSR line ∷ Read offsets.DATA byte ∷ []) a) m n
    (Read offsets.LSR line ∷ Read offsets.DATA byte ∷ []) [] (byte ∷ [])
hit_noted x a m n line byte o on w along h (m₁, s₁, (m₂, s₂, e)) =
    let a₁ : Notes = with_access (Read offsets.LSR line) a in
    let seen = look_noted a m m₁ line along s₁ in
    let look = passed-look x m m₁ line o.loopback w s₁ in
    let stands = stands-after x m m₁ _ _ _ look in
    let t : nat_lt 0 (length m₁.chip.receiver.queue) ≡ true = sym (look_data m m₁ line s₁) ∙ h in
    let some : 0 < length m₁.chip.receiver.queue = grind (arith, common_steps) in
    let told = look_reported x.fifo m m₁ line s₁ some in
    let b : Took x m₁ m₂ byte = took x m₁ m₂ byte o stands told s₂ in
    let events = passed-access x m₁ o.loopback stands.sound stands.modes in
    let off : is_dlab_set (at_access m₁).chip.latches ≡ false = dlab-in x (at_access m₁).chip events.went.modes ∙ o.dlab in
    let tells : HitTells line b.front m m₂ = hit_tells x m m₁ m₂ line byte b.front b.rest on o w stands s₁ s₂ b.queue off in
    let reported : (at_access m₁).chip.receiver.is_front_reported ≡ true =
    front_reported x.fifo (at_access m₁).chip.receiver on (events.went.reports.still refl told) in
    let front : shown_of (reported_front (at_access m₁).chip.receiver) ≡ character_errors b.front.errors = rw (b.queue, reported) refl in
    let cleared : m₂.chip.receiver.is_front_reported ≡ false = rw (s₂.0, off, b.queue) refl in
    let closed : a.is_latch ≡ false = along.latch ∙ (dlab-in x m.chip w.modes ∙ o.dlab) in
    let a₂ : Notes = record a₁ { noted = with_latest a₁.shown a₁.noted; shown = 0 } in
    let same : a₂ ≡ with_access (Read offsets.DATA byte) a₁ = rw closed refl in
    let all = a.noted.items ++ a₁.shown ∷ [] in
    let k = read_kept m₁ m₂ offsets.DATA byte s₂ in
    let N : Notes → Type 0 = λ v. NotedBlocks x a v m n (Read offsets.LSR line ∷ Read offsets.DATA byte ∷ []) [] (byte ∷ []) in
    subst N same (rw e (record {
      takes = b.front ∷ [];
      bytes = ap (λ v. v ∷ []) b.is_byte;
      passed = passed-trans x x m m₁ m₂ (Read offsets.LSR line ∷ []) (Read offsets.DATA byte ∷ []) [] [] [] (b.front ∷ []) refl look
          b.passed;
      noted = record {
        along = record {
          sound = read_sound m₁ m₂ offsets.DATA byte seen.along.sound s₂;
          fifo = ap (λ (v : Kept). v.fifo) k ∙ seen.along.fifo;
          loopback = ap (λ (v : Kept). is_loopback v.latches) k ∙ seen.along.loopback;
          latch = seen.along.latch ∙ sym (ap (λ (v : Kept). is_dlab_set v.latches) k);
          fits = record {
            front = sym (ap shown_of (none_reported m₂.chip.receiver cleared));
            lost = λ set. absurd (cc);
            flag = tells.flag;
          };
        };
        errors = a₁.shown ∷ [];
        front = take (length all - a.noted.capacity) all;
        noted = take-append-drop (length all - a.noted.capacity) all;
        as_many = refl;
        theirs = (
          (fits_access a₁ m₁ seen.along).front ∙ front,
          (λ set. elim (either_shown a.is_overrun_old a.shown line set) [
            | inl before ↦ lost_stays m.chip.receiver m₂.chip.receiver [] (b.front ∷ [])
                (λ count p. tells.stays m.chip.receiver.size count [] p) (along.fits.lost before)
            | inr now ↦ tells.tells along.fits.flag now.1
          ]),
          tt,
        );
        stays = tells.stays;
      };
    }))

-- after a byte that was read behind a look, whatever was noted before
pub hit_begins : (x : Modes) (a : Notes) (m n : MachineState) (line byte : ℕ) → IsOpen x → x.fifo ≡ true → Stands x m →
    a.is_latch ≡ false → has_any line LSR.DATA_READY.0 ≡ true → Path MachineStep m (Read offsets.LSR line ∷ Read offsets.DATA byte ∷ []) n →
    IsInStep (with_accesses (Read offsets.LSR line ∷ Read offsets.DATA byte ∷ []) a) n.chip.receiver
hit_begins x a m n line byte o on w closed h (m₁, s₁, (m₂, s₂, e)) =
    let a₁ : Notes = with_access (Read offsets.LSR line) a in
    let stands = stands-after x m m₁ _ _ _ (passed-look x m m₁ line o.loopback w s₁) in
    let t : nat_lt 0 (length m₁.chip.receiver.queue) ≡ true = sym (look_data m m₁ line s₁) ∙ h in
    let some : 0 < length m₁.chip.receiver.queue = grind (arith, common_steps) in
    let b : Took x m₁ m₂ byte = took x m₁ m₂ byte o stands (look_reported x.fifo m m₁ line s₁ some) s₂ in
    let events = passed-access x m₁ o.loopback stands.sound stands.modes in
    let off : is_dlab_set (at_access m₁).chip.latches ≡ false = dlab-in x (at_access m₁).chip events.went.modes ∙ o.dlab in
    let tells : HitTells line b.front m m₂ = hit_tells x m m₁ m₂ line byte b.front b.rest on o w stands s₁ s₂ b.queue off in
    let cleared : m₂.chip.receiver.is_front_reported ≡ false = rw (s₂.0, off, b.queue) refl in
    let a₂ : Notes = record a₁ { noted = with_latest a₁.shown a₁.noted; shown = 0 } in
    let same : a₂ ≡ with_access (Read offsets.DATA byte) a₁ = rw closed refl in
    let I : Notes → Type 0 = λ v. IsInStep v n.chip.receiver in
    subst I same (rw e (record {
      latch = closed;
      shown = sym (ap shown_of (none_reported m₂.chip.receiver cleared));
      lost = λ set. absurd (cc);
      flag = tells.flag;
    }))

noted_block : (x : Modes) (most : ℕ) (block : Block) (a : Notes) (m n : MachineState) → IsOpen x → x.fifo ≡ true → Stands x m →
    Along a m → most ≤ room x.fifo m.chip.transmitter.size → IsFit most block → Path MachineStep m (accesses_of block) n →
    NotedBlocks x a (with_accesses (accesses_of block) a) m n (accesses_of block) (written_in block) (read_in block)
noted_block x most (Look line) a m n o on w along fits fit p =
    noted_nothing x a _ m n _ _ (passed_block x most m n (Look line) o w fits fit p)
    (all_tame_noted (accesses_of (Look line)) a m n (Looks line, tt) along p)
noted_block x most (Hit line byte) a m n o on w along fits fit p = hit_noted x a m n line byte o on w along fit p
noted_block x most (Burst line checks bytes) a m n o on w along fits fit p =
    noted_nothing x a _ m n _ _ (passed_block x most m n (Burst line checks bytes) o w fits fit p)
    (all_tame_noted (accesses_of (Burst line checks bytes)) a m n
    (Looks line, each-append Tame checks (map (Write offsets.DATA) bytes) (quiets_tame checks fit.1) (sends_tame bytes)) along p)
noted_block x most (Other access) a m n o on w along fits fit p =
    noted_nothing x a _ m n _ _ (passed_block x most m n (Other access) o w fits fit p)
    (all_tame_noted (accesses_of (Other access)) a m n (quiet_tame access fit, tt) along p)
noted_block x most (Divisor lcr low high) a m n o on w along fits fit p =
    noted_nothing x a _ m n _ _ (passed_block x most m n (Divisor lcr low high) o w fits fit p) (divisor_noted lcr low high a m n along p)

pub noted_blocks : (x : Modes) (most : ℕ) (blocks : List Block) (a : Notes) (m n : MachineState) → IsOpen x → x.fifo ≡ true → Stands x m →
    Along a m → most ≤ room x.fifo m.chip.transmitter.size → AllFit most blocks → Path MachineStep m (flat blocks) n →
    NotedBlocks x a (with_accesses (flat blocks) a) m n (flat blocks) (data_written blocks) (data_read blocks)
noted_blocks x most [] a m n o on w along fits fit p =
    rw p (record { takes = []; bytes = refl; passed = passed-refl x m w.sound w.modes; noted = noted_start a m along })
noted_blocks x most (block ∷ blocks) a m n o on w along fits fit p =
    let q = path_split MachineStep m n (accesses_of block) (flat blocks) p in
    let b : Notes = with_accesses (accesses_of block) a in
    let first = noted_block x most block a m q.0 o on w along fits fit.0 q.1 in
    let same = ap (room x.fifo) first.passed.went.sends.size in
    let rest = noted_blocks x most blocks b q.0 n o on (stands-after x m q.0 _ _ _ first.passed) first.noted.along
    (omega (arith, fits, same)) fit.1 q.2 in
    rw (with_append (accesses_of block) (flat blocks) a) (record {
      takes = first.takes ++ rest.takes;
      bytes = map-append (λ (character : Character). character.byte) first.takes rest.takes
          ∙ (λ i. first.bytes i ++ rest.bytes i);
      passed = passed-trans x x m q.0 n (accesses_of block) (flat blocks) (written_in block) (data_written blocks) first.takes rest.takes
          refl first.passed rest.passed;
      noted = noted_then a b (with_accesses (flat blocks) b) m q.0 n first.takes rest.takes first.noted rest.noted;
    })

-- what accesses in blocks do
pub noted_in_blocks : (x : Modes) (most : ℕ) (a : Notes) (m n : MachineState) (made : List Access) (ws rs : List ℕ) → IsOpen x →
    x.fifo ≡ true → Stands x m → Along a m → most ≤ room x.fifo m.chip.transmitter.size → InBlocks most made ws rs →
    Path MachineStep m made n → NotedBlocks x a (with_accesses made a) m n made ws rs
noted_in_blocks x most a m n made ws rs o on w along fits b p =
    let q = noted_blocks x most b.blocks a m n o on w along fits b.fit (rw b.joined at p) in
    rw (b.is_written, b.is_read, ← b.joined) at q
