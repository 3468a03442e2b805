-- What an `init` leaves in the registers, and of the transmitter.
use Rattle.uart_run.proofs.Names.{◌≡◌, ℕ, ◌+◌, ◌*◌, ◌/◌, ◌%◌, ◌≤◌, ◌<◌, ◌==◌, Bool, true, false, ◌&&◌, List, [], ◌∷◌, refl, arith, ◌∙◌, ap}
use Rattle.uart_run.proofs.Names.{if◌then◌else◌, bit_at_above, Config, Path, Access, Read, Write, Settings, Only, Then, ReadsRegister}
use Rattle.uart_run.proofs.Names.{Fields, settings_of, Saving, Plain, Sets, Next, with_saved, raised_outputs, ChecksPresence, frame_bits}
use Rattle.uart_run.proofs.Names.{line_writes, SetsFifo, DrainsReceiver, Begins, Ends, has_any, LatchesState, is_dlab_set, divisor}
use Rattle.uart_run.proofs.Names.{MachineState, MachineStep, has_fifo, is_level, IsSound, has_bit, sound_path, path_as, IsWiredChip}
use Rattle.uart_run.proofs.Names.{AllSendNothing}
use Rattle.uart_spec.specs.Fields.{word_length_code, parity_code}
use Rattle.uart_spec.specs.declared.registers.frame.WordLength.{WordLength}
use Rattle.uart_spec.specs.declared.registers.frame.WordLength.TheVariants.{FiveBits}
use Rattle.uart_spec.specs.declared.registers.frame.Parity.{Parity}
use Rattle.uart_spec.specs.declared.registers.frame.Parity.TheVariants.{Disabled}
use Rattle.uart_spec.specs.declared.registers.offsets.TheConstants as offsets
use Rattle.uart_run.proofs.{Latches.Kept, Latches.kept_in, Latches.kept_after, Latches.kept_list, Latches.kept_path, Latches.LeftBy}
use Rattle.uart_run.proofs.{Wired.wired_control, Pieces.then_parts, Pieces.next_stages, KeptLists.kept_still, built.Init.drains_receiver}
use Rattle.uart_run.proofs.{initialising.FifoSteps.sets_fifo, EmptyTransmitter.IsEmpty, EmptyTransmitter.empty_path}

-- ---- the frame

pub frame-low : (config : Config) → frame_bits config < 64
frame-low config =
    sum (word_length_code config.data_bits) _ (parity_code config.parity) (word config.data_bits) (stop config.extra_stop_bits)
    (parity config.parity)
  where
    word : (length : WordLength) → word_length_code length ≤ 3
    word FiveBits = omega arith
    word _ = omega arith

    stop : (extra : Bool) → (if extra then 4 else 0) ≤ 4
    stop true = omega arith
    stop false = omega arith

    parity : (p : Parity) → parity_code p ≤ 7
    parity Disabled = omega arith
    parity _ = omega arith

    sum : (a b c : ℕ) → a ≤ 3 → b ≤ 4 → c ≤ 7 → a + b + 8 * c < 64
    sum a b c p q r = omega arith

-- no frame has the bit that shows the divisor latch
pub frame-dlab : (config : Config) → has_any (frame_bits config) 128 ≡ false
frame-dlab config =
    has_bit 7 (frame_bits config) ∙ ap (λ b. b == 1) (bit_at_above (frame_bits config) 6 7 (frame-low config) (omega arith))

-- nor the bit of a break
pub frame-unbroken : (config : Config) → has_any (frame_bits config) 64 ≡ false
frame-unbroken config =
    has_bit 6 (frame_bits config) ∙ ap (λ b. b == 1) (bit_at_above (frame_bits config) 6 6 (frame-low config) (omega arith))

-- ---- up to MCR

-- the latches after the line is set up
abbrev pub set_up : Config → (divisor mcr scr : ℕ) → LatchesState
set_up config divisor mcr scr = record { ier = 0; lcr = frame_bits config; mcr = mcr; scr = scr; dll = divisor % 256; dlm = divisor / 256 }

-- a presence check leaves all but the scratch register
pub record Checked (l : List Access) : Type 0 where
  pub scr : ℕ
  pub kept : (k : Kept) → kept_after l k ≡ record k { latches = record k.latches { scr = scr } }

pub checked : (s : Settings) (l : List Access) → ChecksPresence true s l → Checked l
checked s l (old, t) = record {
  scr = old;
  kept =
      λ k. rw (
        t.whole,
        t.first.is,
        t.second.whole,
        t.second.first.whole,
        t.second.first.first.2,
        t.second.first.second.2,
        t.second.second.is,
      ) refl;
}

-- the line and the FIFO
record Lined (config : Config) (d : ℕ) (on : Bool) (m n : MachineState) : Type 0 where
  pub scr : ℕ
  pub kept : kept_in n.chip ≡ record {
    latches = set_up config d m.chip.latches.mcr scr;
    fifo = on;
    model = m.chip.model;
    cuts = m.chip.cuts;
    auto_flow = m.chip.auto_flow;
  }
  pub is_on : on ≡ (is_level config.fifo_trigger_level && has_fifo m.chip.model)

lined : (config : Config) (d : ℕ) (on : Bool) (s : Settings) (l : List Access) (m n : MachineState) → IsSound m →
    Then (ChecksPresence true) (Then (Only (line_writes d (frame_bits config))) (SetsFifo config.fifo_trigger_level on)) s l →
    Path MachineStep m l n → Lined config d on m n
lined config d on s l m n w t p =
    let line : List Access = line_writes d (frame_bits config) in
    let a = then_parts (ChecksPresence true) (Then (Only line) (SetsFifo config.fifo_trigger_level on)) s l m n t p in
    let b = then_parts (Only line) (SetsFifo config.fifo_trigger_level on) s a.back a.between n a.second a.after in
    let check = checked s a.front a.first in
    let first = kept_path a.front m a.between a.before ∙ check.kept (kept_in m.chip) in
    let second = kept_list b.front line a.between b.between b.first.is b.before ∙ ap (kept_after line) first in
    let sound = sound_path b.front a.between b.between (sound_path a.front m a.between w a.before) b.before in
    let set = sets_fifo config.fifo_trigger_level on s b.back b.between n sound b.second b.after in
    record {
      scr = check.scr;
      kept = set.kept ∙ ap (λ (k : Kept). record k { fifo = on }) second;
      is_on = set.is_on ∙ ap (λ (k : Kept). is_level config.fifo_trigger_level && has_fifo k.model) second;
    }

-- the drain, and these outputs written to MCR
pub drained : (outputs : ℕ) (f after : Fields) (l : List Access) (m n : MachineState) → is_dlab_set m.chip.latches ≡ false →
    Next (Plain DrainsReceiver) (Saving (Only (Write offsets.MCR outputs ∷ []))) f l after → Path MachineStep m l n →
    LeftBy (Write offsets.MCR outputs ∷ []) f after m n
drained outputs f after l m n dlab t p =
    let a = next_stages (Plain DrainsReceiver) (Saving (Only (Write offsets.MCR outputs ∷ []))) f after l m n t p in
    let same : kept_in a.parts.between.chip ≡ kept_in m.chip =
    kept_still drains_receiver refl (settings_of f) a.parts.front m a.parts.between dlab
    a.parts.first.0 a.parts.before in
    record {
      kept =
          kept_list a.parts.back (Write offsets.MCR outputs ∷ []) a.parts.between n a.parts.second.0.is a.parts.after
          ∙ ap (kept_after (Write offsets.MCR outputs ∷ [])) same;
      knows = ap (λ (g : Fields). g.fifo) a.parts.second.1 ∙ ap (λ (g : Fields). g.fifo) a.parts.first.1;
    }

-- which wires the chip
pub drained_wired : (outputs : ℕ) (f after : Fields) (l : List Access) (m n : MachineState) →
    Next (Plain DrainsReceiver) (Saving (Only (Write offsets.MCR outputs ∷ []))) f l after → Path MachineStep m l n → IsWiredChip n.chip
drained_wired outputs f after l m n t p =
    let a = next_stages (Plain DrainsReceiver) (Saving (Only (Write offsets.MCR outputs ∷ []))) f after l m n t p in
    wired_control a.parts.between n outputs
    (path_as a.parts.between n a.parts.back (Write offsets.MCR outputs ∷ []) a.parts.second.0.is a.parts.after)

-- the chip is set up, outside of loopback, and the driver takes the FIFO to be as it is
pub record Begun (config : Config) (d : ℕ) (on : Bool) (m n : MachineState) (after : Fields) : Type 0 where
  pub scr : ℕ
  pub kept : kept_in n.chip ≡ record {
    latches = set_up config d raised_outputs scr;
    fifo = on;
    model = m.chip.model;
    cuts = m.chip.cuts;
    auto_flow = m.chip.auto_flow;
  }
  pub is_on : on ≡ (is_level config.fifo_trigger_level && has_fifo m.chip.model)
  pub knows : after.fifo ≡ on
  pub wired : IsWiredChip n.chip

pub begun : (config : Config) (d : ℕ) (on : Bool) (f after : Fields) (l : List Access) (m n : MachineState) → IsSound m →
    Begins config d on f l after → Path MachineStep m l n → Begun config d on m n after
begun config d on f after l m n w t p =
    let a = next_stages _ _ f after l m n t p in
    let b = next_stages _ _ a.mid after a.parts.back a.parts.between n a.parts.second a.parts.after in
    let c = next_stages _ _ b.mid after b.parts.back b.parts.between n b.parts.second b.parts.after in
    let begins = path_as m a.parts.between a.parts.front [] a.parts.first.0 a.parts.before in
    let sets = path_as b.parts.between c.parts.between c.parts.front [] c.parts.first.0 c.parts.before in
    joined a.parts.between b.parts.between c.parts.between c.mid begins sets
    (lined config d on (settings_of a.mid) b.parts.front a.parts.between b.parts.between (sound_path [] m a.parts.between w begins)
    b.parts.first.0 b.parts.before)
    (λ dlab. drained raised_outputs c.mid after c.parts.back c.parts.between n dlab c.parts.second c.parts.after)
    (ap (λ (g : Fields). g.fifo) c.parts.first.1)
    (drained_wired raised_outputs c.mid after c.parts.back c.parts.between n c.parts.second c.parts.after)
  where
    -- nothing is accessed where the driver alone is set
    joined : (m₁ m₂ m₃ : MachineState) (g : Fields) → m₁ ≡ m → m₃ ≡ m₂ → Lined config d on m₁ m₂ →
        (is_dlab_set m₃.chip.latches ≡ false → LeftBy (Write offsets.MCR raised_outputs ∷ []) g after m₃ n) → g.fifo ≡ on →
        IsWiredChip n.chip → Begun config d on m n after
    joined m₁ m₂ m₃ g same still line rest knows wired =
        let set : kept_in m₃.chip ≡ record {
          latches = set_up config d m₁.chip.latches.mcr line.scr;
          fifo = on;
          model = m₁.chip.model;
          cuts = m₁.chip.cuts;
          auto_flow = m₁.chip.auto_flow;
        } =
        ap (λ (o : MachineState). kept_in o.chip) still ∙ line.kept in
        let last = rest (ap (λ (k : Kept). is_dlab_set k.latches) set ∙ frame-dlab config) in
        let whole : kept_in n.chip ≡ record {
          latches = set_up config d raised_outputs line.scr;
          fifo = on;
          model = m₁.chip.model;
          cuts = m₁.chip.cuts;
          auto_flow = m₁.chip.auto_flow;
        } = last.kept ∙ ap (kept_after (Write offsets.MCR raised_outputs ∷ [])) set in
        record {
          scr = line.scr;
          kept =
              whole
              ∙ ap
              (λ (o : MachineState). record {
                latches = set_up config d raised_outputs line.scr;
                fifo = on;
                model = o.chip.model;
                cuts = o.chip.cuts;
                auto_flow = o.chip.auto_flow;
              }) same;
          is_on = line.is_on ∙ ap (λ (o : MachineState). is_level config.fifo_trigger_level && has_fifo o.chip.model) same;
          knows = last.knows ∙ knows;
          wired = wired;
        }

-- ---- the end

-- the statuses are read
record Told (l : List Access) : Type 0 where
  pub lsr : ℕ
  pub isr : ℕ
  pub msr : ℕ
  pub is : l ≡ Read offsets.LSR lsr ∷ Read offsets.ISR isr ∷ Read offsets.MSR msr ∷ []

told : (s : Settings) (l : List Access) →
    Then (ReadsRegister offsets.LSR) (Then (ReadsRegister offsets.ISR) (ReadsRegister offsets.MSR)) s l → Told l
told s l t =
    record {
      lsr = t.first.0;
      isr = t.second.first.0;
      msr = t.second.second.0;
      is = rw (t.whole, t.first.1, t.second.whole, t.second.first.1, t.second.second.1) refl;
    }

-- the interrupts are enabled, and an empty transmitter stays empty
pub record Ended (config : Config) (f after : Fields) (m n : MachineState) : Type 0 where
  pub left : LeftBy (Write offsets.IER config.interrupts.0 ∷ []) f after m n
  pub empty : IsEmpty m.chip.transmitter → IsEmpty n.chip.transmitter

pub ended : (config : Config) (f after : Fields) (l : List Access) (m n : MachineState) → Ends config f l after → Path MachineStep m l n →
    Ended config f after m n
ended config f after l m n t p =
    let a = next_stages (Plain (Then (ReadsRegister offsets.LSR) (Then (ReadsRegister offsets.ISR) (ReadsRegister offsets.MSR))))
    (Next (Sets (with_saved 0 0)) (Saving (Only (Write offsets.IER config.interrupts.0 ∷ [])))) f after l m n t p in
    let b = next_stages (Sets (with_saved 0 0)) (Saving (Only (Write offsets.IER config.interrupts.0 ∷ []))) a.mid after a.parts.back
    a.parts.between n a.parts.second a.parts.after in
    let status = told (settings_of f) a.parts.front a.parts.first.0 in
    let reads : List Access = Read offsets.LSR status.lsr ∷ Read offsets.ISR status.isr ∷ Read offsets.MSR status.msr ∷ [] in
    let x : Path MachineStep m reads a.parts.between = path_as m a.parts.between a.parts.front reads status.is a.parts.before in
    let y : Path MachineStep a.parts.between [] b.parts.between =
    path_as a.parts.between b.parts.between b.parts.front [] b.parts.first.0 b.parts.before in
    let z : Path MachineStep b.parts.between (Write offsets.IER config.interrupts.0 ∷ []) n =
    path_as b.parts.between n b.parts.back (Write offsets.IER config.interrupts.0 ∷ []) b.parts.second.0.is b.parts.after in
    joined reads a.parts.between b.parts.between (λ k. refl) (tt, (tt, (tt, tt))) x y z
    (ap (λ (g : Fields). g.fifo) b.parts.second.1
    ∙ (ap (λ (g : Fields). g.fifo) b.parts.first.1 ∙ ap (λ (g : Fields). g.fifo) a.parts.first.1))
  where
    joined : (reads : List Access) (m₁ m₂ : MachineState) → ((k : Kept) → kept_after reads k ≡ k) → AllSendNothing reads →
        Path MachineStep m reads m₁ → m₂ ≡ m₁ → Path MachineStep m₂ (Write offsets.IER config.interrupts.0 ∷ []) n → after.fifo ≡ f.fifo →
        Ended config f after m n
    joined reads m₁ m₂ keep silent x y z knows = record {
      left = record {
        kept =
            kept_path (Write offsets.IER config.interrupts.0 ∷ []) m₂ n z ∙ ap (kept_after (Write offsets.IER config.interrupts.0 ∷ []))
            (ap (λ (o : MachineState). kept_in o.chip) y ∙ (kept_path reads m m₁ x ∙ keep (kept_in m.chip)));
        knows = knows;
      };
      empty =
          λ e. empty_path (Write offsets.IER config.interrupts.0 ∷ []) m₂ n (refl, tt) z
          (empty_path [] m₁ m₂ tt y (empty_path reads m m₁ silent x e));
    }
