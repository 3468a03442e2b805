-- At one step: which of the findings are none that is about how a call is made.
use Rattle.std.proofs.Common.{◌≡◌, ◌≤◌, ◌<◌, ◌+◌, ◌-◌, ◌^◌, ℕ, Bool, true, false, not, ◌&&◌, ◌||◌, [], ◌∷◌, Option, Some, None, refl}
use Rattle.std.proofs.Common.{arith, if◌then◌else◌, min}
use Rattle.std.specs.Prelude.{nat_le, nat_lt}
use Rattle.std.proofs.lemmas.Bool.{leb-true}
use Rattle.std.proofs.lemmas.Grind.{common_steps}
use Rattle.uart_spec.specs.Bits.{has}
use Rattle.uart_spec.specs.declared.registers.interrupt_status.ISR.{ISR}
use Rattle.uart_spec.specs.declared.registers.interrupt_type.InterruptType.{InterruptType}
use Rattle.uart_spec.specs.declared.registers.line_control.LCR.{LCR}
use Rattle.uart_spec.specs.declared.registers.line_status.TheConstants.LSR as lsr_bits
use Rattle.uart_spec.specs.declared.registers.modem_control.MCR.{MCR}
use Rattle.uart_spec.specs.declared.registers.modem_status.MSR.{MSR}
use Rattle.uart_spec.specs.FifoSize.{characters}
use Rattle.uart_spec.specs.declared.setup.FifoSize.{FifoSize}
use Rattle.uart_spec.specs.declared.setup.FifoSize.TheVariants.{Sixteen}
use Rattle.uart_judges.specs.Findings.{all_found, arrival, arrived_at, change, chip, chip_at, discard, empty, empty_in, flow, gate, ignored}
use Rattle.uart_judges.specs.Findings.{latch, left_up, level, level_as, level_at, line_up, lines_as, missing, note, noted, output, overrun}
use Rattle.uart_judges.specs.Findings.{overrun_in, room, asks_for_cts, enables_bytes, is_cut_off, is_held, served_by, service, relies}
use Rattle.uart_judges.specs.Findings.{set_up, taken, when}
use Rattle.uart_judges.specs.Shows.{sends}
use Rattle.uart_chip.specs.Transmitter.{room as room_of}
use Rattle.uart_judges.specs.Steps.{depth, is_line_up, loops_back}
use Rattle.uart_judges.specs.declared.audit.action.Action.{Action}
use Rattle.uart_judges.specs.declared.audit.action.Action.TheVariants.{Receives, Sends, ReadsLine}
use Rattle.uart_judges.specs.declared.audit.action.Action.TheVariants.{IdentifiesInterrupt, LooksAtLine, LooksAtModem}
use Rattle.uart_judges.specs.declared.audit.auditor.Auditor.{Auditor}
use Rattle.uart_judges.specs.declared.audit.auditor.Identified.{Identified}
use Rattle.uart_judges.specs.declared.audit.auditor.Mark.{Mark}
use Rattle.uart_judges.specs.declared.audit.finding.Finding.{Finding}
use Rattle.uart_judges.specs.declared.audit.finding.Finding.TheVariants as found
use Rattle.uart_judges.specs.declared.audit.setup.Setup.{Setup}
use Rattle.uart_judges.specs.declared.audit.step.Step.{Step}
use Rattle.uart_judges.specs.declared.audit.unread.Arrived.{Arrived}
use Rattle.uart_judges.specs.Unread.{front}
use Rattle.uart_judges_runs.specs.Recorded.{IsNot, NoneIs, is_of_calls, some_such, told}

-- such a finding of a judge that was told this size
abbrev pub of_calls : FifoSize → Finding → Bool
of_calls size = told (characters size) is_of_calls

-- it is no such finding
pub record Spared (size : FifoSize) (o : Option Finding) : Type 0 where
  pub is : IsNot (of_calls size) o

pub nothing : {size : FifoSize} → Spared size None
nothing = record { is = tt }

pub another : {size : FifoSize} → {f : Finding} → of_calls size f ≡ false → Spared size (Some f)
another e = record { is = e }

pub spared_if : {size : FifoSize} → (b : Bool) (x y : Option Finding) → Spared size x → Spared size y → Spared size (if b then x else y)
spared_if true x y p q = p
spared_if false x y p q = q

pub spared_when : {size : FifoSize} → (b : Bool) (f : Finding) → of_calls size f ≡ false → Spared size (when b f)
spared_when true f p = another p
spared_when false f p = nothing

-- ---- a byte beyond 16 that fits

told_where_more : (larger fits : Bool) (sent room : ℕ) → larger ≡ true → fits ≡ true →
    some_such is_of_calls (if larger && fits then None else Some (found.SentBeyondRoom sent room)) ≡ false
told_where_more true true sent room p q = refl
told_where_more true false sent room p q = absurd (cc)
told_where_more false fits sent room p q = absurd (cc)

beyond_16 : (size : FifoSize) (n : ℕ) → n < characters size →
    Spared size (when (nat_le 16 n) (found.SentBeyondRoom (min (n + 1) (2 ^ 64 - 1)) 16))
beyond_16 size n few = go (nat_le 16 n) (λ e. leb-true 16 n e)
  where
    is_less : (a b : ℕ) → a < b → nat_lt a b ≡ true
    is_less a b h = grind (arith, common_steps)

    is_at_most : (a b : ℕ) → a ≤ b → nat_le a b ≡ true
    is_at_most a b h = grind (arith, common_steps)

    go : (b : Bool) → (b ≡ true → 16 ≤ n) → Spared size (when b (found.SentBeyondRoom (min (n + 1) (2 ^ 64 - 1)) 16))
    go true most =
        let h : 16 ≤ n = most refl in
        let larger = is_less 16 (characters size) (omega (arith, h, few)) in
        let fits = is_at_most (min (n + 1) (2 ^ 64 - 1)) (characters size) (omega (arith, few)) in
        record { is = told_where_more (nat_lt 16 (characters size)) (nat_le (min (n + 1) (2 ^ 64 - 1)) (characters size)) _ _ larger fits }
    go false most = nothing

not_beyond : {size : FifoSize} → (space n : ℕ) (f : Finding) → n < 1 → 1 ≤ space → Spared size (when (nat_le space n) f)
not_beyond space n f few some = let e : nat_le space n ≡ false = grind (arith, common_steps) in rw e nothing

-- where no more were sent than fit, and the judge knows of no less room than a FIFO of 16 has, or than there is without
pub room_spared : {size : FifoSize} → (fifo : Bool) (h : Option Bool) (n : ℕ) → n < room_of fifo size → room_of fifo Sixteen ≤ depth h →
    Spared size (when (nat_le (depth h) n) (found.SentBeyondRoom (min (n + 1) (2 ^ 64 - 1)) (depth h)))
room_spared true None n few room = beyond_16 _ n few
room_spared true (Some true) n few room = beyond_16 _ n few
room_spared true (Some false) n few room = absurd (omega (arith, room))
room_spared false None n few room = not_beyond 16 n _ few (omega arith)
room_spared false (Some true) n few room = not_beyond 16 n _ few (omega arith)
room_spared false (Some false) n few room = not_beyond 1 n _ few (omega arith)

-- ---- what is never such a finding

set_up_spared : {size : FifoSize} → (told : Option Setup) (now : Setup) → Spared size (set_up told now)
set_up_spared None now = another refl
set_up_spared (Some before) now = spared_if _ _ _ nothing (another refl)

noted_spared : {size : FifoSize} → (told : Option Setup) (now : Setup) (x : Action) → Spared size (noted told now x)
noted_spared told now (Sends byte) = set_up_spared told now
noted_spared told now (Receives byte) = set_up_spared told now
noted_spared told now (LooksAtLine lsr) = spared_when _ _ refl
noted_spared told now (LooksAtModem msr) = spared_when _ _ refl
noted_spared told now _ = nothing

note_spared : {size : FifoSize} → (a : Auditor) (s : Step) → Spared size (note a s)
note_spared a s = noted_spared a.told s.setup s.action

flow_spared : {size : FifoSize} → (a : Auditor) (s : Step) → Spared size (flow a s)
flow_spared a s =
    spared_if (not (sends s.action)) _ _ nothing
    (spared_if (loops_back s.setup.modem) _ _ nothing
    (spared_when ((is_held a.cts && a.was_cts_set) && asks_for_cts a s.setup) found.SentWithoutCts refl))

gate_spared : {size : FifoSize} → (a : Auditor) (s : Step) → Spared size (gate a s)
gate_spared a s =
    spared_if (a.has_signalled || is_line_up s) _ _ nothing
    (spared_if (not (relies a s)) _ _ nothing
    (spared_when (enables_bytes s.setup.interrupts && is_cut_off s.setup.modem) found.InterruptsCutOff refl))

arrived_spared : {size : FifoSize} → (a : Auditor) (oldest : Option Arrived) (x : Action) → Spared size (arrived_at a oldest x)
arrived_spared a None x = nothing
arrived_spared a (Some oldest) (Receives byte) = spared_if _ _ _ (spared_when _ _ refl) (spared_if _ _ _ (another refl) (another refl))
arrived_spared a (Some oldest) (LooksAtLine lsr) =
    spared_if (not (has lsr.0 lsr_bits.DATA_READY.0)) _ _ (another {f = found.ArrivalGone oldest.byte} refl)
    (spared_when (not (has lsr.0 oldest.errors.0) && not a.unread.is_front_seen) (found.ErrorsHidden oldest) refl)
arrived_spared a (Some oldest) _ = nothing

arrival_spared : {size : FifoSize} → (a : Auditor) (s : Step) → Spared size (arrival a s)
arrival_spared a s = arrived_spared a (front a.unread) s.action

overrun_in_spared : {size : FifoSize} → (due : Bool) (x : Action) → Spared size (overrun_in due x)
overrun_in_spared due (LooksAtLine lsr) = spared_when _ _ refl
overrun_in_spared due _ = nothing

overrun_spared : {size : FifoSize} → (a : Auditor) (s : Step) → Spared size (overrun a s)
overrun_spared a s = overrun_in_spared a.is_overrun s.action

missing_spared : {size : FifoSize} → (oldest : Option Arrived) (interrupt : Option InterruptType) (gone : Bool) →
    Spared size (missing oldest interrupt gone)
missing_spared (Some oldest) interrupt gone = nothing
missing_spared None (Some interrupt) gone = another refl
missing_spared None None gone = spared_when _ _ refl

empty_in_spared : {size : FifoSize} → (a : Auditor) (x : Action) → Spared size (empty_in a x)
empty_in_spared a (LooksAtLine lsr) = spared_if _ _ _ nothing (missing_spared (front a.unread) a.data_interrupt _)
empty_in_spared a _ = nothing

empty_spared : {size : FifoSize} → (a : Auditor) (s : Step) → Spared size (empty a s)
empty_spared a s = empty_in_spared a s.action

served_spared : {size : FifoSize} → (before : Option Identified) (now : Option InterruptType) → Spared size (served_by before now)
served_spared (Some before) (Some now) = spared_when _ _ refl
served_spared (Some before) None = nothing
served_spared None now = nothing

service_spared : {size : FifoSize} → (a : Auditor) (s : Step) → Spared size (service a s)
service_spared a s = served_spared a.unserved _

either_spared : (size : FifoSize) (b : Bool) → of_calls size (if b then found.ThrEmptyNotRaisedAgain else found.ThrEmptyNotRaised) ≡ false
either_spared size true = refl
either_spared size false = refl

ignored_spared : {size : FifoSize} → (written : Option LCR) (read : LCR) → Spared size (ignored written read)
ignored_spared (Some written) read = spared_when _ _ refl
ignored_spared None read = nothing

chip_at_spared : {size : FifoSize} → (a : Auditor) (x : Action) → Spared size (chip_at a x)
chip_at_spared a (IdentifiesInterrupt isr) = spared_when _ _ (either_spared _ a.is_acknowledged)
chip_at_spared a (ReadsLine lcr) = ignored_spared a.busy_line lcr
chip_at_spared a _ = nothing

chip_spared : {size : FifoSize} → (a : Auditor) (s : Step) → Spared size (chip a s)
chip_spared a s = chip_at_spared a s.action

level_as_spared : {size : FifoSize} → (mcr : Option MCR) (isr : ISR) (level : Option Bool) → Spared size (level_as mcr isr level)
level_as_spared mcr isr (Some up) = spared_when _ _ refl
level_as_spared mcr isr None = nothing

lines_as_spared : {size : FifoSize} → (lines : Option MSR) (shown : MSR) → Spared size (lines_as lines shown)
lines_as_spared (Some inputs) shown = spared_when _ _ refl
lines_as_spared None shown = nothing

level_at_spared : {size : FifoSize} → (a : Auditor) (s : Step) (x : Action) → Spared size (level_at a s x)
level_at_spared a s (IdentifiesInterrupt isr) = level_as_spared s.setup.modem isr s.level
level_at_spared a s (LooksAtModem msr) = spared_if _ _ _ nothing (lines_as_spared a.lines msr)
level_at_spared a s _ = nothing

level_spared : {size : FifoSize} → (a : Auditor) (s : Step) → Spared size (level a s)
level_spared a s = level_at_spared a s s.action

left_up_spared : {size : FifoSize} → (a : Auditor) (s : Step) (up : Option Mark) (now : Option ℕ) → Spared size (left_up a s up now)
left_up_spared a s (Some mark) (Some now) = spared_if _ _ _ nothing (spared_when _ _ refl)
left_up_spared a s (Some mark) None = nothing
left_up_spared a s None now = nothing

line_up_spared : {size : FifoSize} → (a : Auditor) (s : Step) → Spared size (line_up a s)
line_up_spared a s = spared_if _ _ _ nothing (left_up_spared a s a.up s.time)

-- ---- all of them

-- those that are never such a finding
pub record OthersSpared (size : FifoSize) (a : Auditor) (s : Step) : Type 0 where
  pub note : Spared size (note a s)
  pub flow : Spared size (flow a s)
  pub gate : Spared size (gate a s)
  pub arrival : Spared size (arrival a s)
  pub overrun : Spared size (overrun a s)
  pub empty : Spared size (empty a s)
  pub service : Spared size (service a s)
  pub chip : Spared size (chip a s)
  pub level : Spared size (level a s)
  pub line_up : Spared size (line_up a s)

pub all_others : {size : FifoSize} → (a : Auditor) (s : Step) → OthersSpared size a s
all_others a s = record {
  note = note_spared a s;
  flow = flow_spared a s;
  gate = gate_spared a s;
  arrival = arrival_spared a s;
  overrun = overrun_spared a s;
  empty = empty_spared a s;
  service = service_spared a s;
  chip = chip_spared a s;
  level = level_spared a s;
  line_up = line_up_spared a s;
}

-- the six that may be such a finding are none
pub record SixSpared (size : FifoSize) (a : Auditor) (s : Step) : Type 0 where
  pub room : Spared size (room a s)
  pub output : Spared size (output a s)
  pub taken : Spared size (taken a s)
  pub latch : Spared size (latch a s)
  pub change : Spared size (change a s)
  pub discard : Spared size (discard a s)

pub all_spared : (size : FifoSize) (a : Auditor) (s : Step) → SixSpared size a s → NoneIs (of_calls size) (all_found a s)
all_spared size a s six =
    let last : NoneIs (of_calls size) (service a s ∷ chip a s ∷ level a s ∷ line_up a s ∷ []) =
    ((service_spared a s).is, ((chip_spared a s).is, ((level_spared a s).is, ((line_up_spared a s).is, tt)))) in
    let third : NoneIs (of_calls size)
    (empty a s ∷ latch a s ∷ change a s ∷ discard a s ∷ service a s ∷ chip a s ∷ level a s ∷ line_up a s ∷ []) =
    ((empty_spared a s).is, (six.latch.is, (six.change.is, (six.discard.is, last)))) in
    let second : NoneIs (of_calls size)
    (gate a s ∷ taken a s ∷ arrival a s ∷ overrun a s ∷ empty a s ∷ latch a s ∷ change a s ∷ discard a s ∷ service a s ∷ chip a s
    ∷ level a s ∷ line_up a s ∷ []) =
    ((gate_spared a s).is, (six.taken.is, ((arrival_spared a s).is, ((overrun_spared a s).is, third)))) in
    ((note_spared a s).is, (six.room.is, (six.output.is, ((flow_spared a s).is, second))))
