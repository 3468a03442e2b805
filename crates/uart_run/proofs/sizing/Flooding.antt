-- The flood of `find_fifo_size` in loopback, and the wait after it: the receiver is full then.
use Rattle.uart_run.proofs.Names.{◌==◌, ◌≡◌, ℕ, zero, suc, ◌+◌, ◌≤◌, Bool, true, false, List, [], ◌∷◌, length, refl, arith, ◌∙◌, ap}
use Rattle.uart_run.proofs.Names.{AllByRecursion, Path, Access, Read, Write, Settings, Only, Times, test_byte, room, load, looped_byte}
use Rattle.uart_run.proofs.Names.{ChipState, cut_of, is_loopback, is_held_off, tick, arrive, after_write, MachineState, MachineStep}
use Rattle.uart_run.proofs.Names.{at_access, IsSound, LastsInEvents, chip_lasts-before, Modes, IsIn, dlab-in, loopback-in, path_as}
use Rattle.uart_run.proofs.Names.{IsLooped, eqb-true, false≢true, Language}
use Rattle.uart_spec.specs.declared.registers.offsets.TheConstants as offsets
use Rattle.uart_chip.specs.Transmitter as transmitter
use Rattle.uart_chip.specs.Receiver as receiver
use Rattle.uart_run.proofs.{EmptyTransmitter.IsEmpty, EmptyTransmitter.IsSent, EmptyTransmitter.sent_shown, ListsInTurn.HoldsOfAll}
use Rattle.uart_run.proofs.{built.Words.Kinds, built.Words.Built, built.Words.all_pass, built.Words.each_so, Pieces.then_parts}
use Rattle.uart_run.proofs.{sizing.Filling.Fills, sizing.Filling.fills_tick, sizing.Filling.fills_load}

-- a chip in these modes, of which loopback is one, that so many more bytes fill
pub record IsFlooded (x : Modes) (gone : List ℕ) (more : ℕ) (c : ChipState) : Type 0 where
  pub modes : IsIn x c
  pub fills : Fills c.fifo gone (cut_of c test_byte) more c.transmitter c.receiver

module _ (x : Modes) (gone : List ℕ) (i : IsLooped x) where
  -- ---- events

  flooded_tick : (more : ℕ) (c : ChipState) → IsFlooded x gone more c → IsFlooded x gone more (tick c)
  flooded_tick more c w =
      rw (in_loopback (loopback-in x c w.modes ∙ i.loopback))
      (record {
        modes = record { lcr = w.modes.lcr; mcr = w.modes.mcr; fifo = w.modes.fifo; cut = w.modes.cut };
        fills = fills_tick c.fifo gone (cut_of c test_byte) more (is_held_off c) c.transmitter c.receiver w.fills;
      })
    where
      in_loopback : is_loopback c.latches ≡ true →
          tick c ≡
          record c {
            transmitter = transmitter.tick true (is_held_off c) c.transmitter;
            receiver = receiver.tick c.fifo (looped_byte true c.transmitter.shift_register) c.receiver;
          }
      in_loopback e =
          ap (λ (b : Bool). record c {
            transmitter = transmitter.tick b (is_held_off c) c.transmitter;
            receiver = receiver.tick c.fifo (looped_byte b c.transmitter.shift_register) c.receiver;
          }) e

  -- what arrives is discarded
  flooded_arrival : (more byte errors : ℕ) (c : ChipState) → IsFlooded x gone more c → IsFlooded x gone more (arrive byte errors c)
  flooded_arrival more byte errors c w =
      let e : arrive byte errors c ≡ record c { receiver = receiver.arrive true c.fifo (cut_of c byte) errors c.receiver } =
      ap (λ (b : Bool). record c { receiver = receiver.arrive b c.fifo (cut_of c byte) errors c.receiver })
      (loopback-in x c w.modes ∙ i.loopback) in
      let f = w.fills in
      rw e
      (record {
        modes = record { lcr = w.modes.lcr; mcr = w.modes.mcr; fifo = w.modes.fifo; cut = w.modes.cut };
        fills = record { wire = f.wire; place = f.place; queue = f.queue; enough = f.enough; size = f.size };
      })

  flooded_events : (more : ℕ) → LastsInEvents (IsFlooded x gone more)
  flooded_events more = record {
    in_tick = flooded_tick more;
    in_arrival = λ byte errors c w. flooded_arrival more byte errors c w;
    in_lines = λ inputs c w. record {
      modes = record { lcr = w.modes.lcr; mcr = w.modes.mcr; fifo = w.modes.fifo; cut = w.modes.cut };
      fills = w.fills;
    };
  }

  pub flooded_access : (more : ℕ) (m : MachineState) → IsFlooded x gone more m.chip → IsFlooded x gone more (at_access m).chip
  flooded_access more m w = chip_lasts-before (IsFlooded x gone more) (flooded_events more) m.ahead m.chip w

  -- ---- accesses

  flooded_write : (more : ℕ) (m n : MachineState) → IsFlooded x gone (suc more) m.chip → MachineStep m (Write offsets.DATA test_byte) n →
      IsFlooded x gone more n.chip
  flooded_write more m n w step =
      let c = (at_access m).chip in
      let v = flooded_access (suc more) m w in
      let e : after_write offsets.DATA test_byte c ≡ record c { transmitter = load c.fifo (cut_of c test_byte) c.transmitter } =
      rw (dlab-in x c v.modes ∙ i.dlab) refl in
      rw (step, e)
      (record {
        modes = record { lcr = v.modes.lcr; mcr = v.modes.mcr; fifo = v.modes.fifo; cut = v.modes.cut };
        fills = fills_load c.fifo gone (cut_of c test_byte) more c.transmitter c.receiver v.fills;
      })

  flooded_look : (more : ℕ) (m n : MachineState) (line : ℕ) → IsFlooded x gone more m.chip → MachineStep m (Read offsets.LSR line) n →
      IsFlooded x gone more n.chip
  flooded_look more m n line w step =
      let v = flooded_access more m w in
      let f = v.fills in
      rw step.0
      (record {
        modes = record { lcr = v.modes.lcr; mcr = v.modes.mcr; fifo = v.modes.fifo; cut = v.modes.cut };
        fills = record { wire = f.wire; place = f.place; queue = f.queue; enough = f.enough; size = f.size };
      })

  written : (more : ℕ) (m n : MachineState) → IsFlooded x gone (suc more) m.chip →
      Path MachineStep m (Write offsets.DATA test_byte ∷ []) n → IsFlooded x gone more n.chip
  written more m n w (mid, step, same) = rw same (flooded_write more m mid w step)

  -- ---- the flood

  pub flooded : (s : Settings) (k : ℕ) (l : List Access) (m n : MachineState) → IsFlooded x gone k m.chip →
      Times k (Only (Write offsets.DATA test_byte ∷ [])) s l → Path MachineStep m l n → IsFlooded x gone 0 n.chip
  flooded s zero l m n w t path = let same : n ≡ m = path_as m n l [] t.is path in rw same w
  flooded s (suc k) l m n w t path =
      let one = Only (Write offsets.DATA test_byte ∷ []) in
      let p = then_parts one (Times k one) s l m n t path in
      let first = path_as m p.between p.front (Write offsets.DATA test_byte ∷ []) p.first.is p.before in
      flooded s k p.back p.between n (written k m p.between w first) p.second p.after

-- ---- looks

abbrev IsLook : Access → Type 0
IsLook (Read offset value) = offset ≡ offsets.LSR
IsLook (Write offset value) = ⊥

abbrev pub is_status : ℕ → Bool
is_status register = register == offsets.LSR

abbrev pub is_none : ℕ → Bool
is_none register = false

-- only looks at the line status
abbrev pub AllLooks : List Access → Type 0
AllLooks accesses = AllByRecursion IsLook accesses

-- every list of a language is such that is built of reads of LSR
pub all_look : {kinds : Kinds} {P : Language} → Built kinds P → all_pass is_status kinds.reads ≡ true →
    all_pass is_none kinds.writes ≡ true → (s : Settings) → HoldsOfAll AllLooks s P
all_look =
    each_so IsLook is_status is_none (λ register answer is. eqb-true register offsets.LSR is) (λ register value is. absurd (false≢true is))

pub flooded_looks : (x : Modes) (gone : List ℕ) (i : IsLooped x) (more : ℕ) (l : List Access) (m n : MachineState) → AllLooks l →
    IsFlooded x gone more m.chip → Path MachineStep m l n → IsFlooded x gone more n.chip
flooded_looks x gone i more [] m n looks w path = rw path w
flooded_looks x gone i more (Read offset value ∷ l) m n looks w (mid, step, rest) =
    let look : MachineStep m (Read offsets.LSR value) mid = rw looks.0 at step in
    flooded_looks x gone i more l mid n looks.1 (flooded_look x gone i more m mid value w look) rest
flooded_looks x gone i more (Write offset value ∷ l) m n looks w path = absurd (looks.0)

-- ---- after the flood, with an empty transmitter

-- all is on the wire that was to be, and the receiver is full
pub record IsFull (x : Modes) (gone : List ℕ) (m : MachineState) : Type 0 where
  pub modes : IsIn x m.chip
  pub sent : IsSent gone m.chip.transmitter
  pub full : length m.chip.receiver.queue ≡ room x.fifo m.chip.receiver.size

pub filled : (x : Modes) (gone : List ℕ) (m : MachineState) → IsSound m → IsFlooded x gone 0 m.chip → IsEmpty m.chip.transmitter →
    IsFull x gone m
filled x gone m sound w empty =
    let s = sent_shown m.chip.transmitter empty in
    let most : length m.chip.receiver.queue ≤ room m.chip.fifo m.chip.receiver.size = sound.chip.receiver.marked.in_room in
    let least : room m.chip.fifo m.chip.receiver.size ≤ (length m.chip.receiver.queue + (0 + 0)) + 0 =
    rw (s.place, s.queue) at w.fills.enough in
    record {
      modes = w.modes;
      sent = record { queue = s.queue; place = s.place; wire = w.fills.wire };
      full = rw (← w.modes.fifo) (omega (arith, most, least));
    }
