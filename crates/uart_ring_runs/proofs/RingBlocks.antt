-- The accesses of a ring call are blocks, and none of them writes LCR.
--
-- This is all that is shown anew over the chip. That nothing is lost between the rings and DATA is the law over any
-- backend, and what the chip does with DATA is the law of blocks.
use Rattle.uart_ring_runs.proofs.Names.{◌≡◌, ℕ, Bool, true, false, inl, inr, MatchBool, List, [], ◌∷◌, ◌++◌, take, refl, ◌∙◌, ap, subst}
use Rattle.uart_ring_runs.proofs.Names.{Access, Read, NoCapacity, RemoteNotClearToSend, Settings, Only, Then, Asks, InOrder, Fields, Saving}
use Rattle.uart_ring_runs.proofs.Names.{settings_of, Receives, Hit, Sends, SendHit, SendMiss, LinesAllow, data_writes, Enables, Disables}
use Rattle.uart_ring_runs.proofs.Names.{TakesLsr, TakesMsr, RingDoing, data_written, data_read, data_written-append, data_read-append}
use Rattle.uart_ring_runs.proofs.Names.{Moves, sends_move, receives_move, each-append, InBlocks, most_in, blocks_none, blocks_then}
use Rattle.uart_ring_runs.proofs.Names.{sends_blocks, receives_blocks, LeavesRegister, NeverWrites}
use Rattle.uart_spec.specs.declared.registers.line_status.TheConstants.LSR
use Rattle.uart_spec.specs.declared.registers.offsets.TheConstants as offsets
use Rattle.uart_16550.specs.Status as status
use Rattle.uart_ring_runs.proofs.RingWalk.{Walks, InRings}
use Rattle.uart_run.proofs.CallKeeps.{plain_blocks, quiet_blocks, saving_keeps, enables_keeps, disables_keeps, takes_lsr_keeps}
use Rattle.uart_run.proofs.CallKeeps.{takes_msr_keeps}

-- ---- lists that do not write LCR

-- the access does not
abbrev pub LeavesLcr : Access → Type 0
LeavesLcr = LeavesRegister offsets.LCR

-- none of these does
abbrev pub AllLeaveLcr : List Access → Type 0
AllLeaveLcr = NeverWrites offsets.LCR

asks_leaves : (register bits : ℕ) (outcome : Bool) (s : Settings) (l : List Access) → Asks register bits outcome s l → AllLeaveLcr l
asks_leaves register bits outcome s l t = rw t.is (tt, tt)

lines_leave : (allowed : Bool) (s : Settings) (l : List Access) → LinesAllow allowed s l → AllLeaveLcr l
lines_leave allowed s l (inl t) = asks_leaves _ _ _ s l t.1
lines_leave allowed s l (inr t) = rw (t.whole, t.first.is, t.second.is) (tt, (tt, tt))

-- a look that shows room, and the lines, whatever they show
checked_leaves : (allowed : Bool) (s : Settings) (l : List Access) → Then (Asks offsets.LSR LSR.THR_EMPTY.0 true) (LinesAllow allowed) s l →
    AllLeaveLcr l
checked_leaves allowed s l t =
    rw t.whole (each-append LeavesLcr t.front t.back (asks_leaves _ _ _ s t.front t.first) (lines_leave allowed s t.back t.second))

hit_leaves : (s : Settings) (l : List Access) → SendHit s l → AllLeaveLcr l
hit_leaves s l t = go s.checks t
  where
    go : (checks : Bool) → MatchBool checks (Then (Asks offsets.LSR LSR.THR_EMPTY.0 true) (LinesAllow true) s l)
        (Asks offsets.LSR LSR.THR_EMPTY.0 true s l) → AllLeaveLcr l
    go true t = checked_leaves true s l t
    go false t = asks_leaves _ _ _ s l t

miss_leaves : (s : Settings) (l : List Access) → SendMiss s l → AllLeaveLcr l
miss_leaves s l (NoCapacity, t) = asks_leaves _ _ _ s l t
miss_leaves s l (RemoteNotClearToSend, t) = go s.checks t
  where
    go : (checks : Bool) → MatchBool checks (Then (Asks offsets.LSR LSR.THR_EMPTY.0 true) (LinesAllow false) s l) ⊥ → AllLeaveLcr l
    go true t = checked_leaves false s l t
    go false t = absurd t

writes_leave : (bytes : List ℕ) → AllLeaveLcr (data_writes bytes)
writes_leave [] = tt
writes_leave (byte ∷ bytes) = (refl, writes_leave bytes)

sends_leave : (bytes : List ℕ) (sent : ℕ) (s : Settings) (l : List Access) → Sends bytes sent s l → AllLeaveLcr l
sends_leave bytes sent s l (inl (none, unsent, is)) = rw is tt
sends_leave bytes sent s l (inr (inl (some, unsent, t))) = miss_leaves s l t
sends_leave bytes sent s l (inr (inr (some, size, t))) =
    rw (t.whole, t.second.is) (each-append LeavesLcr t.front (data_writes (take sent bytes)) (hit_leaves s t.front t.first)
    (writes_leave (take sent bytes)))

hits_leave : (bytes : List ℕ) (s : Settings) (l : List Access) → InOrder Hit bytes s l → AllLeaveLcr l
hits_leave [] s l t = rw t.is tt
hits_leave (byte ∷ bytes) s l t =
    let one : AllLeaveLcr t.front = rw (t.first.whole, t.first.first.is, t.first.second.is) (tt, (tt, tt)) in
    rw t.whole (each-append LeavesLcr t.front t.back one (hits_leave bytes s t.back t.second))

receives_leave : (room : ℕ) (bytes : List ℕ) (s : Settings) (l : List Access) → Receives room bytes s l → AllLeaveLcr l
receives_leave room bytes s l (inl (all, t)) = hits_leave bytes s l t
receives_leave room bytes s l (inr (fewer, t)) =
    rw t.whole (each-append LeavesLcr t.front t.back (hits_leave bytes s t.front t.first) (asks_leaves _ _ _ s t.back t.second))

-- ---- what the driver does

-- its accesses are blocks, which write and read what the list shows, and none writes LCR; the driver has the same settings
pub record MakesBlocks (f : Fields) (l : List Access) (after : Fields) : Type 0 where
  pub blocks : InBlocks (most_in (settings_of f)) l (data_written l) (data_read l)
  pub lcr : AllLeaveLcr l
  pub settings : settings_of after ≡ settings_of f

makes-then : (f mid after : Fields) (l m : List Access) → MakesBlocks f l mid → MakesBlocks mid m after → MakesBlocks f (l ++ m) after
makes-then f mid after l m a b = record {
  blocks = let I : Settings → Type 0 = λ v. InBlocks (most_in v) m (data_written m) (data_read m) in
      rw (data_written-append l m, data_read-append l m)
      (blocks_then (most_in (settings_of f)) l m (data_written l) (data_written m) (data_read l) (data_read m) a.blocks
      (subst I a.settings b.blocks));
  lcr = each-append LeavesLcr l m a.lcr b.lcr;
  settings = b.settings ∙ a.settings;
}

makes_kept : (f after : Fields) (l : List Access) (ws rs : List ℕ) → InBlocks (most_in (settings_of f)) l ws rs → Moves ws rs l →
    AllLeaveLcr l → settings_of after ≡ settings_of f → MakesBlocks f l after
makes_kept f after l ws rs blocks moves lcr settings =
    record { blocks = rw (moves.written_is, moves.read_is) blocks; lcr = lcr; settings = settings }

enables_make : (bits : ℕ) (f : Fields) (l : List Access) (after : Fields) → Enables bits f l after → MakesBlocks f l after
enables_make bits f l after t =
    let k = enables_keeps bits f after l t in
    makes_kept f after l [] [] k.blocks (rw t.1 (record { written_is = refl; read_is = refl })) (rw t.1 (tt, (refl, tt)))
    (ap settings_of t.2)

disables_make : (bits : ℕ) (f : Fields) (l : List Access) (after : Fields) → Disables bits f l after → MakesBlocks f l after
disables_make bits f l after t =
    let k = disables_keeps bits f after l t in
    makes_kept f after l [] [] k.blocks (rw t.1 (record { written_is = refl; read_is = refl })) (rw t.1 (tt, (refl, tt)))
    (ap settings_of t.2)

sends_make : (bytes : List ℕ) (sent : ℕ) (f : Fields) (l : List Access) (after : Fields) → Saving (Sends bytes sent) f l after →
    MakesBlocks f l after
sends_make bytes sent f l after t =
    makes_kept f after l _ _ (sends_blocks (settings_of f) bytes sent l t.0) (sends_move bytes sent (settings_of f) l t.0)
    (sends_leave bytes sent (settings_of f) l t.0) (ap settings_of t.1)

receives_make : (room : ℕ) (bytes : List ℕ) (f : Fields) (l : List Access) (after : Fields) → Saving (Receives room bytes) f l after →
    MakesBlocks f l after
receives_make room bytes f l after t =
    makes_kept f after l _ _ (receives_blocks (settings_of f) room bytes l t.0) (receives_move room bytes (settings_of f) l t.0)
    (receives_leave room bytes (settings_of f) l t.0) (ap settings_of t.1)

lsr_makes : (result : ℕ) (f : Fields) (l : List Access) (after : Fields) → TakesLsr result f l after → MakesBlocks f l after
lsr_makes result f l after t =
    let k = takes_lsr_keeps result f after l t in
    makes_kept f after l [] [] k.blocks (rw t.1 (record { written_is = refl; read_is = refl })) (rw t.1 (tt, tt)) (ap settings_of t.3)

msr_makes : (result : ℕ) (f : Fields) (l : List Access) (after : Fields) → TakesMsr result f l after → MakesBlocks f l after
msr_makes result f l after t =
    let k = takes_msr_keeps result f after l t in
    makes_kept f after l [] [] k.blocks (rw t.1 (record { written_is = refl; read_is = refl })) (rw t.1 (tt, tt)) (ap settings_of t.3)

isr_read_makes : (isr : ℕ) (f : Fields) (l : List Access) (after : Fields) → Saving (Only (Read offsets.ISR isr ∷ [])) f l after →
    MakesBlocks f l after
isr_read_makes isr f l after t =
    let k = saving_keeps (Only (Read offsets.ISR isr ∷ [])) f after l [] [] (plain_blocks (settings_of f) offsets.ISR isr refl) t in
    makes_kept f after l [] [] k.blocks (rw t.0.is (record { written_is = refl; read_is = refl })) (rw t.0.is (tt, tt))
    (ap settings_of t.1)

retriggers_make : (f : Fields) (l : List Access) (after : Fields) → Saving status.Retriggers f l after → MakesBlocks f l after
retriggers_make f l after ((ier, is), saved) =
    makes_kept f after l [] [] (rw is (quiet_blocks (most_in (settings_of f)) (status.retrigger_accesses ier) (refl, (refl, (refl, tt)))))
    (rw is (record { written_is = refl; read_is = refl })) (rw is (tt, (refl, (refl, tt)))) (ap settings_of saved)

-- ---- what the rings do

-- the driver under them does
abbrev pub MakesRingBlocks : RingDoing
MakesRingBlocks = InRings MakesBlocks

pub in_blocks : Walks MakesBlocks
in_blocks = record {
  nothing = λ f. record { blocks = blocks_none (most_in (settings_of f)); lcr = tt; settings = refl };
  next = makes-then;
  sends = sends_make;
  receives = receives_make;
  enables = enables_make;
  disables = disables_make;
  lsr = lsr_makes;
  msr = msr_makes;
  isr = isr_read_makes;
  retriggers = retriggers_make;
}
