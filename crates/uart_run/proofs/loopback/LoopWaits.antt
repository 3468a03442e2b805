-- In loopback no wait of a test is in vain, where ticks come before each access and the spin limit is long enough.
use Rattle.uart_run.proofs.Names.{◌≡◌, ℕ, zero, suc, ◌+◌, ◌*◌, ◌≤◌, ◌<◌, true, false, List, [], ◌∷◌, ◌++◌, length, append-nil, map, Option}
use Rattle.uart_run.proofs.Names.{None, refl, arith, ◌∙◌, ap, lt-ltb, length-map, has, has_any, Path, Access, Read, Language, Settings}
use Rattle.uart_run.proofs.Names.{Then, Times, AllMisses, Miss, SendMiss, TakesOne, DrainsLoopback, Shifting, Character, characters}
use Rattle.uart_run.proofs.Names.{Sixteen, room, out, shift_bytes, room_least, room_within, ChipState, is_auto_flow, MachineState}
use Rattle.uart_run.proofs.Names.{MachineStep, IsSound, IsTicked, left, most_held, has_one, sound_path, same_pace, Modes, loopback-in, IsIn}
use Rattle.uart_run.proofs.Names.{look_data, line_in, Fits, fits-after, line-length, IsLooped, loops_read, cleared_off}
use Rattle.uart_spec.specs.declared.registers.offsets.TheConstants as offsets
use Rattle.uart_spec.specs.declared.registers.line_status.TheConstants.LSR
use Rattle.uart_run.proofs.{progress.Left.exceeds, progress.Left.left-most, progress.Nearing.Runs, progress.Nearing.ticked-path}
use Rattle.uart_run.proofs.{EmptyTransmitter.IsSent, EmptyTransmitter.sent_shown, SizeKept.LeavesSwitch, SizeKept.size_left}
use Rattle.uart_run.proofs.{SizeKept.left_blocks, Pieces.then_parts, loopback.LoopBlocks.loops_in_blocks, loopback.LoopPhases.IsEntered}
use Rattle.uart_run.proofs.{loopback.LoopPhases.IsReadyToTest, loopback.LoopPhases.never_refused, progress.WaitEnds.Awaited}
use Rattle.uart_run.proofs.{progress.WaitEnds.no_stall, progress.WaitEnds.all_empty}
use Rattle.uart_run.proofs.CallBlocks.{InBlocks, Makes, most_in, blocks_none, blocks_then, hit_blocks}
use Rattle.uart_spec.specs.declared.registers.modem_control.TheConstants.MCR

-- a sound machine to which ticks come, and a limit that exceeds the ticks that its transmitter may take
pub record Lives (limit : ℕ) (m : MachineState) : Type 0 where
  pub sound : IsSound m
  pub ticked : IsTicked m
  pub enough : most_held m.chip.transmitter * (m.chip.transmitter.char_ticks + 1) ≤ limit

pub lives-path : (limit : ℕ) (made : List Access) (m n : MachineState) → Lives limit m → LeavesSwitch m made → Path MachineStep m made n →
    Lives limit n
lives-path limit made m n v leaves p = record {
  sound = sound_path made m n v.sound p;
  ticked = ticked-path made m n v.ticked p;
  enough = rw (size_left made m n leaves p, (same_pace made m n p).char_ticks) v.enough;
}

-- what is left, and a tick for each character
left_and_more : (limit : ℕ) (m : MachineState) → Lives limit m →
    left m.chip.transmitter + most_held m.chip.transmitter ≤ limit
left_and_more limit m v = exceeds m.chip.transmitter limit (left-most m.chip v.sound.chip) v.enough

pub few_left : (limit : ℕ) (m : MachineState) → Lives limit m → left m.chip.transmitter < limit
few_left limit m v = let less = left_and_more limit m v in omega (arith, less)

-- the modes of a loopback test have no automatic flow control
pub looped_off : (x : Modes) (c : ChipState) → IsLooped x → IsIn x c → is_auto_flow c ≡ false
looped_off x c i w = cleared_off c (ap (λ (v : ℕ). has_any v MCR.AUTO_FLOW.0) w.mcr ∙ i.goes_on)

-- ---- what is on its way comes back

-- where the transmitter is empty, it waits to be read
pub all_waits : (gone : List ℕ) (c : ChipState) → IsSent gone c.transmitter → length (line_in c) ≡ length c.receiver.queue
all_waits gone c s = go c.transmitter.shift_register c.transmitter.queue s.place s.queue
  where
    byte : Character → ℕ
    byte character = character.byte

    go : (place : Option Shifting) (queue : List ℕ) → place ≡ None → queue ≡ [] →
        length (map byte c.receiver.queue ++ (shift_bytes place ++ queue)) ≡ length c.receiver.queue
    go place queue e f = rw (e, f, append-nil (map byte c.receiver.queue)) (length-map c.receiver.queue byte)

-- something is on its way in a chip of these modes
record OnItsWay (x : Modes) (m : MachineState) : Type 0 where
  pub fits : Fits x m.chip
  pub some : 1 ≤ length (line_in m.chip)

data_awaited : (x : Modes) → IsLooped x → Awaited (OnItsWay x) 1
data_awaited x i = record { kept = λ m n line r w step. kept m n line w step; shows = λ m n line r w step e. shows m n line r w step e }
  where
    kept : (m n : MachineState) (line : ℕ) → OnItsWay x m → MachineStep m (Read offsets.LSR line) n → OnItsWay x n
    kept m n line w step =
        let a = loops_read x m n 5 line i.loopback w.fits refl step in
        let long = line-length x m.chip n.chip [] [] a in
        record { fits = fits-after x x m.chip n.chip [] refl w.fits a; some = omega (arith, long, w.some) }

    shows : (m n : MachineState) (line : ℕ) → Runs n → OnItsWay x n → MachineStep m (Read offsets.LSR line) n →
        left n.chip.transmitter ≡ 0 → has line LSR.DATA_READY.0 ≡ true
    shows m n line r w step e =
        let t = n.chip.transmitter in
        let sound = r.sound.chip.transmitter in
        let sent = sent_shown t (all_empty t.char_ticks sound.at_least_one t.shift_register t.queue sound.ticking e) in
        let waits : 0 < length n.chip.receiver.queue = omega (arith, all_waits (out t) n.chip sent, w.some) in
        has_one 0 line ∙ (look_data m n line step ∙ lt-ltb 0 (length n.chip.receiver.queue) waits)

-- after accesses that wrote more than they read, no wait for a byte is in vain
pub never_dry : (x : Modes) (gone : List ℕ) (s : Settings) (L : Language) (l : List Access) (m n : MachineState) (ws rs : List ℕ) →
    Lives s.limit m → IsReadyToTest x gone s m → length ws ≤ room s.fifo Sixteen → length rs < length ws → Makes s L ws rs →
    Then L (AllMisses Miss) s l → Path MachineStep m l n → ⊥
never_dry x gone s L l m n ws rs v r few more makes t path =
    let p = then_parts L (AllMisses Miss) s l m n t path in
    let none : length (line_in m.chip) ≡ 0 = ap length r.idle.line in
    let same : room s.fifo Sixteen ≡ room x.fifo Sixteen = ap (λ fifo. room fifo Sixteen) r.fifo in
    let any = room_least x.fifo m.chip.receiver.size in
    let there = room_least x.fifo p.between.chip.receiver.size in
    let a = loops_in_blocks x (most_in s) m p.between p.front ws rs r.looped r.idle.modes (omega (arith, none, few, same, any))
    (omega (arith, few, same)) (makes p.front p.first) p.before in
    let size : length (map x.cut ws) ≡ length ws = length-map ws x.cut in
    let long = line-length x m.chip p.between.chip (map x.cut ws) rs a in
    let w = lives-path s.limit p.front m p.between v (left_blocks m (most_in s) p.front ws rs (makes p.front p.first)) p.before in
    let on : OnItsWay x p.between = record {
      fits = record { modes = a.modes; few = omega (arith, none, few, same, size, long, there) };
      some = omega (arith, none, more, size, long);
    } in
    let runs : Runs p.between = record {
      sound = w.sound;
      ticked = w.ticked;
      flows = λ off. absurd (cc (loopback-in x p.between.chip a.modes, r.looped.loopback, off));
      off = looped_off x p.between.chip r.looped a.modes;
    } in
    no_stall (OnItsWay x) 1 (data_awaited x r.looped) s s.limit p.back p.between n runs on (few_left s.limit p.between w) p.second p.after

-- ---- there is always room

some_limit : (limit : ℕ) (m : MachineState) → Lives limit m → 1 ≤ limit
some_limit limit m v = let less = left_and_more limit m v in omega (arith, less)

pub never_full : (x : Modes) (gone : List ℕ) (s : Settings) (l : List Access) (m n : MachineState) → Lives s.limit m →
    IsReadyToTest x gone s m → AllMisses SendMiss s l → Path MachineStep m l n → ⊥
never_full x gone s l m n v r t path = go s.limit (some_limit s.limit m v) t
  where
    go : (k : ℕ) → 1 ≤ k → Times k SendMiss s l → ⊥
    go zero some t = omega (arith, some)
    go (suc k) some t =
        let p = then_parts SendMiss (Times k SendMiss) s l m n t path in
        never_refused x gone s p.first.0 p.front m p.between r p.first.1 p.before

-- ---- the drain ends

pub takes_blocks : (s : Settings) (k : ℕ) (l : List Access) → Times k TakesOne s l →
    (rs : List ℕ) × (length rs ≡ k) × InBlocks (most_in s) l [] rs
takes_blocks s zero l t = ([], refl, rw t.is (blocks_none (most_in s)))
takes_blocks s (suc k) l t =
    let a = takes_blocks s k t.back t.second in (
      t.first.0 ∷ a.0,
      ap suc a.1,
      rw t.whole (blocks_then (most_in s) t.front t.back [] [] (t.first.0 ∷ []) a.0 (hit_blocks s t.first.0 t.front t.first.1) a.2),
    )

pub never_flooded : (x : Modes) (gone : List ℕ) (s : Settings) (l : List Access) (m n : MachineState) → Lives s.limit m →
    IsEntered x gone s m → DrainsLoopback false s l → Path MachineStep m l n → ⊥
never_flooded x gone s l m n v e t path =
    let a = takes_blocks s s.limit l t in
    let few : length (line_in m.chip) ≤ room x.fifo m.chip.receiver.size =
    rw (← ap (λ fifo. room fifo m.chip.receiver.size) e.modes.fifo, all_waits gone m.chip e.sent)
    v.sound.chip.receiver.marked.in_room in
    let b = loops_in_blocks x (most_in s) m n l [] a.0 e.looped e.modes (omega (arith, few)) (omega arith) a.2 path in
    let long = line-length x m.chip n.chip [] a.0 b in
    let most = room_within x.fifo m.chip.receiver.size in
    let less = left_and_more s.limit m v in
    let same = ap characters v.sound.chip.sizes in
    omega (arith, few, long, most, a.1, less, same)
