-- What comes back of a flood is counted: as many as the receiver holds, and that tells the size of its FIFO.
use Rattle.uart_run.proofs.Names.{◌≡◌, ℕ, ◌+◌, ◌==◌, inl, inr, List, [], ◌++◌, length, Result, Ok, Err, append-nil, false, refl, arith, sym}
use Rattle.uart_run.proofs.Names.{◌∙◌, ap, subst, if◌then◌else◌, characters, FifoSize, Sixteen, ThirtyTwo, SixtyFour, OneHundredTwentyEight}
use Rattle.uart_run.proofs.Names.{TwoHundredFiftySix, FifoSizeError, FifosOff, TooFew, Stalled, Path, Access, Settings, flood, TakesBack}
use Rattle.uart_run.proofs.Names.{Tells, room, MachineState, MachineStep, at_least_16, at_most_256, room_within, Modes, line_in}
use Rattle.uart_run.proofs.Names.{line-length, IsLooped}
use Rattle.uart_spec.specs.declared.registers.line_status.TheConstants.LSR
use Rattle.uart_run.proofs.{CallBlocks.InBlocks, CallBlocks.most_in, CallBlocks.blocks_then, CallBlocks.makes_look}
use Rattle.uart_run.proofs.{EmptyTransmitter.sent_path, Served.EndsDry, Served.dry_empties, SilentLists.silent, built.Sizing.takes_back}
use Rattle.uart_run.proofs.{loopback.LoopBlocks.loops_in_blocks, loopback.LoopWaits.all_waits, loopback.LoopWaits.takes_blocks}
use Rattle.uart_run.proofs.{sizing.Flooding.IsFull}

-- ---- the count

module _ (x : Modes) (gone : List ℕ) (s : Settings) (i : IsLooped x) where
  -- what these accesses read, of all that is there
  taken : (l : List Access) (m n : MachineState) (rs : List ℕ) → IsFull x gone m → InBlocks (most_in s) l [] rs → Path MachineStep m l n →
      length rs + length (line_in n.chip) ≡ room x.fifo m.chip.receiver.size
  taken l m n rs w blocks path =
      let all = all_waits gone m.chip w.sent in
      let a = loops_in_blocks x (most_in s) m n l [] rs i w.modes (omega (arith, all, w.full)) (omega arith) blocks path in
      let long = line-length x m.chip n.chip [] rs a in
      omega (arith, long, all, w.full)

  pub counted : (count : ℕ) (l : List Access) (m n : MachineState) → IsFull x gone m → TakesBack count s l → Path MachineStep m l n →
      count ≡ room x.fifo m.chip.receiver.size
  counted count l m n w (inl t) path =
      let a = takes_blocks s flood l t.1 in
      let all = taken l m n a.0 w a.2 path in
      let within = room_within x.fifo m.chip.receiver.size in
      let most = at_most_256 m.chip.receiver.size in
      absurd (omega (arith, all, a.1, within, most))
  counted count l m n w (inr t) path =
      let u = t.1 in
      let a = takes_blocks s count u.front u.first in
      let blocks : InBlocks (most_in s) (u.front ++ u.back) [] (a.0 ++ []) =
      blocks_then (most_in s) u.front u.back [] [] a.0 [] a.2 (makes_look s LSR.DATA_READY.0 false u.back u.second) in
      let B : List Access → Type 0 = λ k. InBlocks (most_in s) k [] (a.0 ++ []) in
      let all = taken l m n (a.0 ++ []) w (subst B (sym u.whole) blocks) path in
      let dry : EndsDry s l = record { front = u.front; back = u.back; whole = u.whole; miss = u.second } in
      let none = dry_empties s m n l dry path in
      let left = all_waits gone n.chip (sent_path gone l m n (silent (takes_back count) refl s l (inr t)) w.sent path) in
      let long : length (a.0 ++ []) ≡ length a.0 = ap length (append-nil a.0) in
      omega (arith, all, long, none, left, a.1)

-- ---- what it tells

-- a size by its characters
size_with : ℕ → FifoSize
size_with n =
    if n == 16 then Sixteen else if n == 32 then ThirtyTwo else if n == 64 then SixtyFour
    else if n == 128 then OneHundredTwentyEight else TwoHundredFiftySix

size_with_characters : (size : FifoSize) → size_with (characters size) ≡ size
unfolding size_with
size_with_characters Sixteen = refl
size_with_characters _ = refl

abbrev pub Found : Type 0
Found = Result FifoSize FifoSizeError

-- as many as a FIFO holds tell its size
pub told : (size : FifoSize) (count : ℕ) (found : Found) → count ≡ characters size → Tells count found → found ≡ Ok size
told size count (Ok other) e t =
    let most = t.0 in
    let least = t.1 size (omega (arith, e)) in
    let same : characters other ≡ characters size = omega (arith, most, least, e) in
    let sizes : other ≡ size = sym (size_with_characters other) ∙ (ap size_with same ∙ size_with_characters size) in
    ap (λ (one : FifoSize). let r : Found = Ok one in r) sizes
told size count (Err (TooFew returned)) e t = let least = at_least_16 size in absurd (omega (arith, t.1, least, e))
told size count (Err FifosOff) e t = absurd t
told size count (Err Stalled) e t = absurd t

-- without FIFO one comes back, which is too few
pub told_none : (count : ℕ) (found : Found) → count ≡ 1 → Tells count found → found ≡ Err (TooFew 1)
told_none count (Ok other) e t = let least = at_least_16 other in absurd (omega (arith, t.0, least, e))
told_none count (Err (TooFew returned)) e t =
    ap (λ (one : ℕ). let r : Found = Err (TooFew one) in r) (t.0 ∙ e)
told_none count (Err FifosOff) e t = absurd t
told_none count (Err Stalled) e t = absurd t
