-- A wait that is long enough ends: each look brings the transmitter nearer to its end, and then the look shows what is awaited.
use Rattle.uart_run.proofs.Names.{◌≡◌, ℕ, zero, suc, ◌*◌, ◌≤◌, ◌<◌, true, false, ◌==◌, List, [], ◌∷◌, ◌++◌, length, Option, Some, None}
use Rattle.uart_run.proofs.Names.{refl, arith, ◌∙◌, ap, common_steps, has, Path, Access, Read, Settings, Times, Asks, SendMiss, NoCapacity}
use Rattle.uart_run.proofs.Names.{RemoteNotClearToSend, Shifting, is_transmitter_empty, MachineState, MachineStep, left_of, left, IsTicking}
use Rattle.uart_run.proofs.Names.{has_one, path_split, path_as, look_room}
use Rattle.uart_spec.specs.declared.registers.offsets.TheConstants as offsets
use Rattle.uart_spec.specs.declared.registers.line_status.TheConstants.LSR
use Rattle.uart_run.proofs.{progress.Left.Nearer, progress.Nearing.Runs, progress.Nearing.runs-look, progress.Nearing.nearer-step}
use Rattle.uart_run.proofs.{EmptyTransmitter.look_empty}

-- what holds while it is awaited, and that then a look shows the bits once the transmitter is empty
pub record Awaited (I : MachineState → Type 0) (bits : ℕ) : Type 0 where
  pub kept : (m n : MachineState) (line : ℕ) → Runs m → I m → MachineStep m (Read offsets.LSR line) n → I n
  pub shows : (m n : MachineState) (line : ℕ) → Runs n → I n → MachineStep m (Read offsets.LSR line) n → left n.chip.transmitter ≡ 0 →
      has line bits ≡ true

-- so many looks in vain are too many
pub no_stall : (I : MachineState → Type 0) (bits : ℕ) → Awaited I bits → (s : Settings) (k : ℕ) (l : List Access) (m n : MachineState) →
    Runs m → I m → left m.chip.transmitter < k → Times k (Asks offsets.LSR bits false) s l → Path MachineStep m l n → ⊥
no_stall I bits w s zero l m n r i few t p = omega (arith, few)
no_stall I bits w s (suc k) l m n r i few t p =
    let q = path_split MachineStep m n t.front t.back (path_as m n l (t.front ++ t.back) t.whole p) in
    looked (no_stall I bits w s k t.back) q.0 (path_as m q.0 t.front (Read offsets.LSR t.first.answer ∷ []) t.first.is q.1) q.2
  where
    looked : ((m n : MachineState) → Runs m → I m → left m.chip.transmitter < k → Times k (Asks offsets.LSR bits false) s t.back →
        Path MachineStep m t.back n →
        ⊥) → (o : MachineState) → Path MachineStep m (Read offsets.LSR t.first.answer ∷ []) o → Path MachineStep o t.back n → ⊥
    looked next o (mid, step, same) rest = go (left mid.chip.transmitter) refl
      where
        a : Nearer 1 m.chip.transmitter mid.chip.transmitter
        a = nearer-step m mid (Read offsets.LSR t.first.answer) r tt step

        after : Runs mid
        after = runs-look m mid t.first.answer r step a

        holds : I mid
        holds = w.kept m mid t.first.answer r i step

        go : (n : ℕ) → left mid.chip.transmitter ≡ n → ⊥
        go zero e = let shown = w.shows m mid t.first.answer after holds step e in absurd (cc (shown, t.first.shows))
        go (suc j) e = next mid n after holds (omega (arith, a.fewer, e, few)) t.second (rw same at rest)

-- ---- what shows of an empty transmitter

module _ (char_ticks : ℕ) (some : 1 ≤ char_ticks) where
  none_queued : (place : Option Shifting) (queue : List ℕ) → left_of char_ticks place queue ≡ 0 → length queue ≡ 0
  none_queued None [] e = refl
  none_queued None (x ∷ xs) e = absurd (omega (arith, e))
  none_queued (Some s) [] e = refl
  none_queued (Some s) (x ∷ xs) e =
      let h : char_ticks * suc (length xs) ≡ 0 = omega (arith, e) in
      let k : 1 ≤ char_ticks * suc (length xs) = grind (arith, common_steps) in absurd (omega (arith, h, k))

  pub all_empty : (place : Option Shifting) (queue : List ℕ) → IsTicking char_ticks place → left_of char_ticks place queue ≡ 0 →
      is_transmitter_empty queue place ≡ true
  all_empty None [] w e = refl
  all_empty None (x ∷ xs) w e = absurd (omega (arith, e))
  all_empty (Some s) queue w e = absurd (omega (arith, e, w.0))

-- nothing more is to hold while it is awaited
awaited : (bits : ℕ) → ((m n : MachineState) (line : ℕ) → Runs n → MachineStep m (Read offsets.LSR line) n → left n.chip.transmitter ≡ 0 →
    has line bits ≡ true) → Awaited (λ m. Unit {0}) bits
awaited bits shows = record { kept = λ m n line r i step. tt; shows = λ m n line r i step e. shows m n line r step e }

-- the holding register is empty
room_awaited : Awaited (λ m. Unit {0}) LSR.THR_EMPTY.0
room_awaited = awaited LSR.THR_EMPTY.0 (λ m n line r step e. let t = n.chip.transmitter in let w = r.sound.chip.transmitter in
    has_one 5 line ∙ (look_room m n line step ∙ ap (λ k. k == 0) (none_queued t.char_ticks w.at_least_one t.shift_register t.queue e)))

-- the whole transmitter is
empty_awaited : Awaited (λ m. Unit {0}) LSR.TRANSMITTER_EMPTY.0
empty_awaited = awaited LSR.TRANSMITTER_EMPTY.0 (λ m n line r step e. let t = n.chip.transmitter in let w = r.sound.chip.transmitter in
    has_one 6 line ∙ (look_empty m n line step ∙ all_empty t.char_ticks w.at_least_one t.shift_register t.queue w.ticking e))

-- ---- waits in vain for the transmitter

-- a wait for all to leave
pub no_stall-empty : (s : Settings) (k : ℕ) (l : List Access) (m n : MachineState) → Runs m → left m.chip.transmitter < k →
    Times k (Asks offsets.LSR LSR.TRANSMITTER_EMPTY.0 false) s l → Path MachineStep m l n → ⊥
no_stall-empty s k l m n r few t p = no_stall (λ m. Unit {0}) LSR.TRANSMITTER_EMPTY.0 empty_awaited s k l m n r tt few t p

-- without CTS checking a send check that misses is a look without room
miss_asks : (s : Settings) → s.checks ≡ false → (l : List Access) → SendMiss s l → Asks offsets.LSR LSR.THR_EMPTY.0 false s l
miss_asks s off l (NoCapacity, t) = t
miss_asks s off l (RemoteNotClearToSend, t) = absurd (rw off at t)

misses_ask : (s : Settings) → s.checks ≡ false → (k : ℕ) (l : List Access) → Times k SendMiss s l →
    Times k (Asks offsets.LSR LSR.THR_EMPTY.0 false) s l
misses_ask s off zero l t = t
misses_ask s off (suc k) l t =
    record {
      front = t.front;
      back = t.back;
      whole = t.whole;
      first = miss_asks s off t.front t.first;
      second = misses_ask s off k t.back t.second;
    }

-- a wait for room
pub no_stall-room : (s : Settings) → s.checks ≡ false → (k : ℕ) (l : List Access) (m n : MachineState) → Runs m →
    left m.chip.transmitter < k → Times k SendMiss s l → Path MachineStep m l n → ⊥
no_stall-room s off k l m n r few t p = no_stall (λ m. Unit {0}) LSR.THR_EMPTY.0 room_awaited s k l m n r tt few (misses_ask s off k l t) p
