-- The measure of `find_fifo_size` in loopback: it finds the size of the FIFO, or a wait reached the limit.
use Rattle.uart_run.proofs.Names.{refl, ◌≡◌, ◌⊎◌, ℕ, Bool, true, false, inl, inr, List, Err, arith, sym, ◌∙◌, ap, FifoSize, Stalled, Path}
use Rattle.uart_run.proofs.Names.{Access, Settings, Then, WaitsFor, DrainsLoopback, flood, Floods, TakesBack, Tells, Measures, room}
use Rattle.uart_run.proofs.Names.{ChipState, MachineState, MachineStep, IsSoundChip, IsSound, at_most_256, room_within, sound_path, Modes}
use Rattle.uart_spec.specs.declared.registers.line_status.TheConstants.LSR
use Rattle.uart_run.proofs.{EmptyTransmitter.IsSent, EmptyTransmitter.sent_path, EmptyTransmitter.wait_empties, built.Receive.waits_for}
use Rattle.uart_run.proofs.{built.Sizing.floods, built.Sizing.takes_back, SizeKept.size_left, SizeKept.left_plain}
use Rattle.uart_run.proofs.{built.Loopback.drains_loopback, Pieces.then_parts, SilentLists.silent, loopback.LoopPhases.IsEntered}
use Rattle.uart_run.proofs.{loopback.LoopPhases.IsReadyToTest, loopback.LoopPhases.drained, loopback.LoopPhases.idle_sent}
use Rattle.uart_run.proofs.{sizing.Counting.Found, sizing.Counting.counted}
use Rattle.uart_run.proofs.sizing.Flooding.{IsFlooded, flooded, flooded_looks, all_look, filled}

-- both FIFOs of a sound chip have one size
pub one_size : (c : ChipState) → IsSoundChip c → c.receiver.size ≡ c.transmitter.size
one_size c w = w.sizes

-- ---- what is found

-- this was found, and the transmitter is empty; or a wait reached the limit, and it is empty, or has some of the flood.
-- The wire has what was to be sent before
abbrev pub FoundIn : Modes → List ℕ → (answer found : Found) → MachineState → Type 0
FoundIn x gone answer found n =
    ((found ≡ answer) × IsSent gone n.chip.transmitter)
    ⊎ ((found ≡ Err Stalled) × (IsSent gone n.chip.transmitter ⊎ IsFlooded x gone 0 n.chip))

-- this is what a count tells of as many as there is room for
abbrev pub TellsAll : (fifo : Bool) → FifoSize → (answer found : Found) → Type 0
TellsAll fifo size answer found = (count : ℕ) → count ≡ room fifo size → Tells count found → found ≡ answer

module _ (x : Modes) (gone : List ℕ) (s : Settings) where
  -- a chip in which nothing is left may be flooded
  may_flood : (m : MachineState) → IsSound m → IsReadyToTest x gone s m → IsFlooded x gone flood m.chip
  may_flood m sound r =
      let c = m.chip in
      let sent = idle_sent x gone c r.idle in
      let within = room_within c.fifo c.receiver.size in
      let most = at_most_256 c.receiver.size in
      record {
        modes = r.idle.modes;
        fills =
            record {
              wire = sent.wire;
              place = rw sent.place tt;
              queue = rw sent.queue tt;
              enough = omega (arith, within, most);
              size = sym (one_size c sound.chip);
            };
      }

  -- after the drain and the flood
  pub was_flooded : (l : List Access) (m n : MachineState) → IsSound m → IsReadyToTest x gone s m → Floods s l → Path MachineStep m l n →
      IsFlooded x gone 0 n.chip
  was_flooded l m n sound r t path = flooded x gone r.looped s flood l m n (may_flood m sound r) t path

  pub measured : (answer found : Found) (l : List Access) (m n : MachineState) → TellsAll x.fifo m.chip.transmitter.size answer found →
      IsSound m → IsEntered x gone s m → Measures found s l → Path MachineStep m l n → FoundIn x gone answer found n
  measured answer found l m n told sound e (inl t) path =
      inr (t.0, inl (sent_path gone l m n (silent (drains_loopback false) refl s l t.1) e.sent path))
  measured answer found l m n told sound e (inr (inl t)) path =
      let a = then_parts (DrainsLoopback true) (Then Floods (WaitsFor LSR.TRANSMITTER_EMPTY.0 false)) s l m n t.1 path in
      let r = drained x gone s a.front m a.between e a.first a.before in
      let b = then_parts Floods (WaitsFor LSR.TRANSMITTER_EMPTY.0 false) s a.back a.between n a.second a.after in
      let w = was_flooded b.front a.between b.between (sound_path a.front m a.between sound a.before) r b.first b.before in
      let looks = all_look (waits_for LSR.TRANSMITTER_EMPTY.0 false) refl refl s b.back b.second in
      inr (t.0, inr (flooded_looks x gone r.looped 0 b.back b.between n looks w b.after))
  measured answer found l m n told sound e (inr (inr (count, tells, t))) path =
      let waits = Then (WaitsFor LSR.TRANSMITTER_EMPTY.0 true) (TakesBack count) in
      let a = then_parts (DrainsLoopback true) (Then Floods waits) s l m n t path in
      let r = drained x gone s a.front m a.between e a.first a.before in
      let b = then_parts Floods waits s a.back a.between n a.second a.after in
      let sound_a = sound_path a.front m a.between sound a.before in
      let w = was_flooded b.front a.between b.between sound_a r b.first b.before in
      let c = then_parts (WaitsFor LSR.TRANSMITTER_EMPTY.0 true) (TakesBack count) s b.back b.between n b.second b.after in
      let looks = all_look (waits_for LSR.TRANSMITTER_EMPTY.0 true) refl refl s c.front c.first in
      let v = flooded_looks x gone r.looped 0 c.front b.between c.between looks w c.before in
      let sound_b = sound_path b.front a.between b.between sound_a b.before in
      let sound_c = sound_path c.front b.between c.between sound_b c.before in
      let full = filled x gone c.between sound_c v (wait_empties s c.front b.between c.between c.first c.before) in
      let all = counted x gone s r.looped count c.back c.between n full c.second c.after in
      let size_a = size_left a.front m a.between (left_plain m (drains_loopback true) refl s a.front a.first) a.before in
      let size_b = size_left b.front a.between b.between (left_plain a.between floods refl s b.front b.first) b.before in
      let empties = left_plain b.between (waits_for LSR.TRANSMITTER_EMPTY.0 true) refl s c.front c.first in
      let size_c = size_left c.front b.between c.between empties c.before in
      let size : c.between.chip.receiver.size ≡ m.chip.transmitter.size =
      one_size c.between.chip sound_c.chip ∙ (size_c ∙ (size_b ∙ size_a)) in
      inl (
        told count (all ∙ ap (room x.fifo) size) tells,
        sent_path gone c.back c.between n (silent (takes_back count) refl s c.back c.second) full.sent c.after,
      )
