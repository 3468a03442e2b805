-- What a stretch of a session means in the words of the definitions.
use Rattle.std.proofs.Common.{◌≡◌, ℕ, ◌+◌, ◌-◌, true, false, inl, inr, List, ◌++◌, map, length, length-append, arith, sym, ◌∙◌, ap, bit_or}
use Rattle.std.specs.List.{filter}
use Rattle.std.proofs.Math.Seq.{take-append_seam}
use Rattle.std.proofs.lemmas.List.{map-append}
use lib.Bits.{or_zero_r}
use Rattle.uart_events.specs.declared.event.Event.{Event}
use Rattle.uart_chip.specs.declared.receiver.Character.{Character}
use Rattle.uart_spec.specs.Access.{saved_lsr, saved_msr}
use Rattle.uart_spec.specs.declared.access.Access.{Access}
use Rattle.uart_spec.specs.declared.access.Access.TheVariants.{Read}
use Rattle.uart_spec.specs.Bits.{has_any}
use Rattle.uart_spec.specs.declared.registers.line_status.TheConstants.LSR
use Rattle.uart_spec.specs.declared.registers.offsets.TheConstants as offsets
use Rattle.uart_chip.specs.Chip.{cut_of}
use Rattle.uart_chip.specs.Machine.{MachineState, MachineStep}
use Rattle.uart_chip.specs.Laws.{changes_in}
use Rattle.uart_chip.specs.Conserved.{waiting, stands, between, entered, kept, IsDrop}
use Rattle.uart_chip.proofs.conservation.Receives.{Drop, Owed, Shows}
use Rattle.uart_chip.proofs.conservation.Went.{Modes, arriving_cut}
use Rattle.uart_chip.proofs.conservation.Passed.{Passed}
use Rattle.uart_chip.proofs.conservation.BlockLaws.{PassedBlocks}

-- ---- what comes in

-- the events between the two machines are those that were passed
pub between_passed : (x : Modes) (m n : MachineState) (made : List Access) (ws : List ℕ) (ts : List Character)
    (p : Passed x m n made ws ts) → between m n ≡ p.events
between_passed x m n made ws ts p =
    let long : length m.ahead ≡ length p.events + length n.ahead = ap length p.ahead ∙ length-append p.events n.ahead in
    let few : length m.ahead - length n.ahead ≡ length p.events = omega arith in
    rw (few, p.ahead) (take-append_seam p.events n.ahead)

-- what entered and was not dropped was taken or is in the receiver
pub taken_entered : (x : Modes) (m n : MachineState) (made : List Access) (ws : List ℕ) (ts : List Character) → cut_of m.chip ≡ x.cut →
    Passed x m n made ws ts →
    filter (stands n.chip.receiver) (entered m n) ≡ ts ++ n.chip.receiver.queue
taken_entered x m n made ws ts cut p =
    let r = m.chip.receiver in
    ap (λ (f : ℕ → ℕ). filter (stands n.chip.receiver) (r.queue ++ arriving_cut f r.arrived (between m n))) cut ∙
    (ap (λ (es : List Event). filter (stands n.chip.receiver) (r.queue ++ arriving_cut x.cut r.arrived es))
    (between_passed x m n made ws ts p) ∙ p.went.receives.moved.stay)

-- what was received and what waits is what was kept
pub received_kept : (x : Modes) (m n : MachineState) (made : List Access) (ws rs : List ℕ) → cut_of m.chip ≡ x.cut →
    PassedBlocks x m n made ws rs → rs ++ waiting n ≡ kept m n
received_kept x m n made ws rs cut p =
    let byte : Character → ℕ = λ character. character.byte in
    let s = n.chip.receiver in
    sym (ap (map byte) (taken_entered x m n made ws p.takes cut p.passed) ∙
    (map-append byte p.takes s.queue ∙ ap (λ zs. zs ++ map byte s.queue) p.bytes))

-- ---- the overrun flag

pub drop_machines : (m n : MachineState) → Drop m.chip.receiver n.chip.receiver → IsDrop m n
drop_machines m n d = record { origin = d.origin; stood = d.stood; lost = d.lost }

pub drop_receivers : (m n : MachineState) → IsDrop m n → Drop m.chip.receiver n.chip.receiver
drop_receivers m n d = record { origin = d.origin; stood = d.stood; lost = d.lost }

-- a look clears the flag
pub look_clears : (m n : MachineState) (line : ℕ) → MachineStep m (Read offsets.LSR line) n → n.chip.receiver.is_overrun ≡ false
look_clears m n line s = ap (λ (o : MachineState). o.chip.receiver.is_overrun) s.0

-- if a part ends with a read of LSR, a drop in it was shown
pub drop_shown : (x : Modes) (m n : MachineState) (made : List Access) (ws : List ℕ) (ts : List Character) → Passed x m n made ws ts →
    n.chip.receiver.is_overrun ≡ false →
    IsDrop m n → has_any (saved_lsr made) LSR.OVERRUN_ERROR.0 ≡ true
drop_shown x m n made ws ts p cleared d = go (p.went.receives.is_shown (inr (drop_receivers m n d)))
  where
    go : Shows (saved_lsr made) n.chip.receiver → has_any (saved_lsr made) LSR.OVERRUN_ERROR.0 ≡ true
    go (inl h) = h
    go (inr h) = absurd (cc)

-- if it began after one, what was shown was a drop in it
pub shown_drop : (x : Modes) (m n : MachineState) (made : List Access) (ws : List ℕ) (ts : List Character) → Passed x m n made ws ts →
    m.chip.receiver.is_overrun ≡ false →
    has_any (saved_lsr made) LSR.OVERRUN_ERROR.0 ≡ true → IsDrop m n
shown_drop x m n made ws ts p cleared h = go (p.went.receives.was_owed (inl h))
  where
    go : Owed m.chip.receiver n.chip.receiver → IsDrop m n
    go (inl e) = absurd (cc)
    go (inr d) = drop_machines m n d

-- ---- the modem changes

-- a read of the modem status clears them
pub status_clears : (m n : MachineState) (status : ℕ) → MachineStep m (Read offsets.MSR status) n → n.chip.modem.deltas ≡ 0
status_clears m n status s = ap (λ (o : MachineState). o.chip.modem.deltas) s.0

-- if a part ends with such a read, what was shown are the changes that there were and those of its events
pub changes_shown : (x : Modes) (m n : MachineState) (made : List Access) (ws : List ℕ) (ts : List Character) → Passed x m n made ws ts →
    n.chip.modem.deltas ≡ 0 →
    saved_msr made ≡ bit_or m.chip.modem.deltas (changes_in m.chip.modem.lines (between m n))
changes_shown x m n made ws ts p cleared =
    let all : bit_or (saved_msr made) n.chip.modem.deltas ≡ bit_or m.chip.modem.deltas (changes_in m.chip.modem.lines p.events) =
    p.went.modem_lines.deltas in
    sym (or_zero_r (saved_msr made)) ∙ (ap (bit_or (saved_msr made)) (sym cleared) ∙
    (all ∙ ap (λ (es : List Event). bit_or m.chip.modem.deltas (changes_in m.chip.modem.lines es))
    (sym (between_passed x m n made ws ts p))))
