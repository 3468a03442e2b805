-- A wired machine stays wired, and a write of MCR changes no line of one that stays outside of loopback.
use Rattle.uart_run.proofs.Names.{◌≡◌, ℕ, zero, suc, Bool, true, false, not, ◌==◌, ◌&&◌, List, [], ◌∷◌, refl, sym, ◌∙◌, ap, subst, bit_and}
use Rattle.uart_run.proofs.Names.{bit_or, arith, common_steps, Event, Ticks, Lines, Gate, Mark, Path, has_any, Access, Read, Write}
use Rattle.uart_run.proofs.Names.{kept_mcr, ChipState, ticks, after_read, after_write, MachineState, MachineStep, perform, before_access}
use Rattle.uart_run.proofs.Names.{at_access, before_mark, at_mark, IsSoundChip, sound_access, sound_write, sends-refl, receives-refl}
use Rattle.uart_run.proofs.Names.{reports-refl, LinesChanged, Modes, IsIn, loopback, loopback-in, marked-in, Went, Passed, passed-effect}
use Rattle.uart_run.proofs.Names.{IsOpen, Stands, IsWiredChip, ReadMove, takes, read_move, WriteMove, steers, write_lasts}
use Rattle.uart_spec.specs.Lines.{line_changes}
use Rattle.uart_spec.specs.declared.registers.modem_control.TheConstants.MCR
use Rattle.uart_spec.specs.declared.registers.modem_status.TheConstants.MSR
use Rattle.uart_spec.specs.declared.registers.offsets.TheConstants as offsets
use Rattle.uart_chip.specs.Modem.{ModemState, renew, lines_under}

-- ---- what happens to a chip

pub wired-ticks : (n : ℕ) (c : ChipState) → IsWiredChip c → IsWiredChip (ticks n c)
wired-ticks zero c w = w
wired-ticks (suc n) c w = wired-ticks n c w

wired-perform : (event : Event) (c : ChipState) → IsWiredChip c → IsWiredChip (perform event c)
wired-perform (Ticks n) c w = wired-ticks n c w
wired-perform (Lines inputs) c w = refl
wired-perform _ c w = w

wired-before : (events : List Event) (c : ChipState) → IsWiredChip c → IsWiredChip (before_access events c)
wired-before [] c w = w
wired-before (Gate ∷ events) c w = w
wired-before (Mark ∷ events) c w = w
wired-before (event ∷ events) c w = wired-before events (perform event c) (wired-perform event c w)

wired-before_mark : (events : List Event) (c : ChipState) → IsWiredChip c → IsWiredChip (before_mark events c)
wired-before_mark [] c w = w
wired-before_mark (Mark ∷ events) c w = w
wired-before_mark (event ∷ events) c w = wired-before_mark events (perform event c) (wired-perform event c w)

wired-reads : (offset : ℕ) (c d : ChipState) → ReadMove offset c d → IsWiredChip c → IsWiredChip d
wired-reads offset c d (takes p q) w = w
wired-reads offset c d _ w = w

wired-read : (offset : ℕ) (c : ChipState) → IsWiredChip c → IsWiredChip (after_read offset c)
wired-read offset c w = wired-reads offset c _ (read_move offset c) w

wired-writes : (offset value : ℕ) (c d : ChipState) → WriteMove offset value c d → IsWiredChip c → IsWiredChip d
wired-writes offset value c d (steers p) w = refl
wired-writes offset value c d _ w = w

wired-write : (offset value : ℕ) (c : ChipState) → IsWiredChip c → IsWiredChip (after_write offset value c)
wired-write offset value c w = write_lasts IsWiredChip offset value (wired-writes offset value) c w

-- ---- the machine

pub wired_access : (m : MachineState) → IsWiredChip m.chip → IsWiredChip (at_access m).chip
wired_access m w = wired-before m.ahead m.chip w

pub wired_step : (access : Access) (m n : MachineState) → MachineStep m access n → IsWiredChip m.chip → IsWiredChip n.chip
wired_step (Read offset answer) m n s w =
    let W : MachineState → Type 0 = λ o. IsWiredChip o.chip in
    subst W (sym s.0) (wired-read offset (at_access m).chip (wired_access m w))
wired_step (Write offset value) m n s w =
    let W : MachineState → Type 0 = λ o. IsWiredChip o.chip in
    subst W (sym s) (wired-write offset value (at_access m).chip (wired_access m w))

pub wired_path : (made : List Access) (m n : MachineState) → IsWiredChip m.chip → Path MachineStep m made n → IsWiredChip n.chip
wired_path [] m n w p = let W : MachineState → Type 0 = λ o. IsWiredChip o.chip in subst W (sym p) w
wired_path (access ∷ accesses) m n w p = wired_path accesses p.0 n (wired_step access m p.0 p.1 w) p.2

pub wired_mark : (m : MachineState) → IsWiredChip m.chip → IsWiredChip (at_mark m).chip
wired_mark m w = wired-before_mark m.ahead m.chip w

-- a write of MCR wires a chip, whatever its lines were
pub wired_control : (m n : MachineState) (value : ℕ) → Path MachineStep m (Write offsets.MCR value ∷ []) n → IsWiredChip n.chip
wired_control m n value p =
    let W : MachineState → Type 0 = λ o. IsWiredChip o.chip in
    let written : IsWiredChip p.0.chip = subst W (sym p.1) refl in
    subst W (sym p.2) written

-- ---- a write of MCR in a session

-- without loopback the lines are the inputs
under_open : (mcr inputs : ℕ) → has_any mcr MCR.LOOP_BACK.0 ≡ false → lines_under mcr inputs ≡ inputs
under_open mcr inputs e = rw e refl

eq_same : (n : ℕ) → (n == n) ≡ true
eq_same n = grind (arith, common_steps)

not_both : (b : Bool) → (b && not b) ≡ false
not_both true = refl
not_both false = refl

-- what stays has no changes
same_changes : (lines : ℕ) → line_changes lines lines ≡ 0
same_changes lines =
    rw (
      eq_same (bit_and lines MSR.CTS.0),
      eq_same (bit_and lines MSR.DSR.0),
      eq_same (bit_and lines MSR.CD.0),
      not_both (has_any lines MSR.RI.0),
    ) refl

changed-control : (mcr : ℕ) (m : ModemState) → has_any mcr MCR.LOOP_BACK.0 ≡ false → m.lines ≡ m.inputs → LinesChanged m (renew mcr m) [] 0
changed-control mcr m e is =
    let same : lines_under mcr m.inputs ≡ m.lines = under_open mcr m.inputs e ∙ sym is in
    record {
      lines = same;
      deltas = ap (bit_or m.deltas) (ap (line_changes m.lines) same ∙ same_changes m.lines);
    }

went-write_mcr : (x : Modes) (c : ChipState) (value : ℕ) → loopback x ≡ false →
    has_any (kept_mcr c.auto_flow value) MCR.LOOP_BACK.0 ≡ false → IsSoundChip c → IsIn x c → IsWiredChip c →
    Went (record x { mcr = kept_mcr c.auto_flow value }) c (after_write offsets.MCR value c) [] (Write offsets.MCR value ∷ []) [] []
went-write_mcr x c value outside stays s w wired = record {
  modes = record { lcr = w.lcr; mcr = refl; fifo = w.fifo; cut = w.cut };
  sends = sends-refl c.transmitter;
  receives = receives-refl x.fifo c.receiver (marked-in x c s w);
  reports = reports-refl x.fifo c.receiver;
  modem_lines =
      changed-control (kept_mcr c.auto_flow value) c.modem stays
      (wired ∙ under_open c.latches.mcr c.modem.inputs (loopback-in x c w ∙ outside));
}

-- the outputs are written, and loopback stays off
pub passed_mcr : (x : Modes) (m n : MachineState) (value : ℕ) → IsOpen x →
    has_any (kept_mcr (at_access m).chip.auto_flow value) MCR.LOOP_BACK.0 ≡ false → Stands x m → IsWiredChip m.chip →
    MachineStep m (Write offsets.MCR value) n →
    Passed (record x { mcr = kept_mcr (at_access m).chip.auto_flow value }) m n (Write offsets.MCR value ∷ []) [] []
passed_mcr x m n value o stays w wired s =
    passed-effect x (record x { mcr = kept_mcr (at_access m).chip.auto_flow value }) m n (after_write offsets.MCR value (at_access m).chip)
    (Write offsets.MCR value) [] [] o.loopback refl w.sound w.modes s (sound_write offsets.MCR value (at_access m) (sound_access m w.sound))
    (λ p. went-write_mcr x (at_access m).chip value o.loopback stays p.sound.chip p.went.modes (wired_access m wired))
