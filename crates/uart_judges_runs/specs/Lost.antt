-- What the warnings that say that a byte is lost mean on the software chip.
use Rattle.std.specs.Prelude.{◌≡◌, ◌⊎◌, ◌≤◌, ℕ, ◌+◌, ◌-◌, ◌^◌, ◌==◌, Bool, true, false, List, [], ◌∷◌, length, min}
use Rattle.std.specs.Prelude.{◌++◌, Option, Some, None, if◌then◌else◌}
use Rattle.std.specs.List.{AllByRecursion}
use Rattle.uart_spec.specs.Access.{Path}
use Rattle.uart_spec.specs.Bits.{has}
use Rattle.uart_spec.specs.FifoSize.{characters}
use Rattle.uart_spec.specs.declared.access.Access.{Access as RegisterAccess}
use Rattle.uart_spec.specs.declared.access.Access.TheVariants.{Read, Write}
use Rattle.uart_spec.specs.declared.registers.modem_control.TheConstants.MCR
use Rattle.uart_spec.specs.declared.registers.offsets.TheConstants as offsets
use Rattle.uart_events.specs.declared.event.Chip.TheVariants.{Uart16550A}
use Rattle.uart_events.specs.declared.event.Event.{Event as ScheduleEvent}
use Rattle.uart_events.specs.declared.event.Event.TheVariants as scheduled
use Rattle.uart_chip.specs.Chip.{ChipState, arrive, is_dlab_set, is_loopback}
use Rattle.uart_chip.specs.Machine.{MachineState, MachineStep, at_access, perform}
use Rattle.uart_chip.specs.Switching.{NeverSwitches}
use Rattle.uart_spec.specs.declared.setup.FifoSize.{FifoSize}
use Rattle.uart_chip.specs.Transmitter.{room}
use Rattle.uart_judges.specs.Findings.{findings_at}
use Rattle.uart_judges.specs.History.{known, step_from}
use Rattle.uart_judges.specs.Steps.{shows_room}
use Rattle.uart_judges_runs.specs.Told.{of_fifos}
use Rattle.uart_judges.specs.declared.audit.auditor.Auditor.{Auditor}
use Rattle.uart_judges.specs.declared.audit.finding.Finding.{Finding}
use Rattle.uart_judges.specs.declared.audit.finding.Finding.TheVariants as found
use Rattle.uart_judges.specs.declared.recording.entry.Entry.{Entry}
use Rattle.uart_judges.specs.declared.recording.entry.Happening.{Happening}
use Rattle.uart_judges.specs.declared.recording.entry.Happening.TheVariants.{Access, Arrive}

-- ---- what the judge knows

-- of what is known this holds
abbrev pub IsSo : {A : Type 0} → Option A → (A → Type 0) → Type 0
IsSo None Holds = Unit {0}
IsSo (Some x) Holds = Holds x

-- What the judge knows of a 16550A is so: DLAB, loopback, the FIFOs, and their trigger level. So many bytes wait, at
-- least. And the bytes that it counts as sent, up to those that there is room for, are in the transmitter's queue, but
-- for so many that have left it since
pub record KnowsWhatIs (a : Auditor) (left : ℕ) (c : ChipState) : Type 0 where
  -- the chip is a 16550A
  pub model : c.model ≡ Uart16550A
  pub dlab : IsSo a.setup.is_open (λ on. is_dlab_set c.latches ≡ on)
  pub loopback : IsSo a.setup.modem (λ mcr. is_loopback c.latches ≡ has mcr.0 MCR.LOOP_BACK.0)
  pub fifos : IsSo a.setup.has_fifo (λ on. c.fifo ≡ on)
  pub trigger : IsSo a.setup.trigger (λ level. c.receiver.trigger ≡ level)
  -- at least as many bytes wait as the judge counts
  pub waiting : a.waiting ≤ length c.receiver.queue
  -- the bytes that the judge counts as sent, up to those that there is room for, are in the transmitter's queue, but
  -- for so many that have left it since
  pub sent : min a.sent (room c.fifo c.transmitter.size) ≤ length c.transmitter.queue + left

-- the same, and it does know DLAB
pub record KnowsDlab (a : Auditor) (left : ℕ) (c : ChipState) : Type 0 where
  pub knows : KnowsWhatIs a left c
  pub dlab : a.setup.is_open ≡ Some (is_dlab_set c.latches)

-- these accesses leave the size of the FIFOs as it is: the chip has no switch of it, or none of them writes FCR while
-- DLAB is set
abbrev pub LeaveSize : MachineState → List RegisterAccess → Type 0
LeaveSize m accesses = (m.chip.has_size_switch ≡ false) ⊎ NeverSwitches m.chip.latches.lcr accesses

-- ---- what a finding says

-- a byte was written, and the queue has no more than before: with FIFO it is as before, without FIFO the byte took the
-- place of the one that waited
pub record IsDropped (c d : ChipState) : Type 0 where
  pub counted : d.transmitter.overflows ≡ min (c.transmitter.overflows + 1) (2 ^ 64 - 1)
  pub no_more : length d.transmitter.queue ≡ length c.transmitter.queue
  pub with_fifo : c.fifo ≡ true → d.transmitter.queue ≡ c.transmitter.queue

-- it is no write of MCR
abbrev pub LeavesModem : RegisterAccess → Type 0
LeavesModem (Read offset answer) = Unit {0}
LeavesModem (Write offset value) = (offset == offsets.MCR) ≡ false

-- until MCR is written, this is what is on the wire
abbrev pub StaysOnWire : List ℕ → MachineState → Type 0
StaysOnWire wire m =
    (accesses : List RegisterAccess) (n : MachineState) → AllByRecursion LeavesModem accesses →
    Path MachineStep m accesses n → n.chip.transmitter.wire ≡ wire

-- At an access that finds the chip c, and leads to the machine n. `SentBeyondRoom`: the transmitter is full, but for
-- the bytes that left its queue since room was shown; if none did, a byte is dropped. `SentIntoLatch`: the transmitter
-- does not get the byte. `SentInLoopback`: nothing goes out until MCR is written. `ResetWhileSending`: the queue is
-- emptied, which had a byte, or one has left it since room was shown. `WaitingDiscarded`: the receiver is emptied, in
-- which as many bytes waited as the judge knows of, and one at least
abbrev pub Loses : Finding → Auditor → (left : ℕ) → ChipState → MachineState → Type 0
Loses (found.SentBeyondRoom sent space) a left c n =
    (room c.fifo c.transmitter.size ≤ length c.transmitter.queue + left) × (left ≡ 0 → IsDropped c n.chip)
Loses (found.SentIntoLatch byte) a left c n = n.chip.transmitter ≡ c.transmitter
Loses (found.SentInLoopback byte) a left c n = StaysOnWire c.transmitter.wire n
Loses found.ResetWhileSending a left c n =
    (1 ≤ length c.transmitter.queue + left) × (n.chip.transmitter.queue ≡ [])
Loses found.WaitingDiscarded a left c n =
    (1 ≤ a.waiting) × (a.waiting ≤ length c.receiver.queue) × (n.chip.receiver.queue ≡ [])
Loses _ a left c n = Unit {0}

-- what the judge tells of a finding that was told this size
abbrev pub told_of : FifoSize → Option Finding → Option Finding
told_of size None = None
told_of size (Some finding) = of_fifos (characters size) finding

-- the judge was told the size of the chip's FIFOs
abbrev pub LosesIf : Option Finding → Auditor → (left : ℕ) → ChipState → MachineState → Type 0
LosesIf finding a left c n = IsSo (told_of c.transmitter.size finding) (λ finding. Loses finding a left c n)

abbrev pub AllLose : List (Option Finding) → Auditor → (left : ℕ) → ChipState → MachineState → Type 0
AllLose [] a left c n = Unit {0}
AllLose (finding ∷ findings) a left c n = LosesIf finding a left c n × AllLose findings a left c n

-- ---- a recording

-- a chip after these events of its schedule
abbrev pub after_events : List ScheduleEvent → ChipState → ChipState
after_events [] c = c
after_events (event ∷ events) c = after_events events (perform event c)

-- the events of the schedule up to an arrival happen, and this is the arrival
pub record IsNextArrival (byte errors : ℕ) (m n : MachineState) : Type 0 where
  pub before : List ScheduleEvent
  pub ahead : m.ahead ≡ before ++ scheduled.Arrive byte errors ∷ n.ahead
  pub chip : n.chip ≡ arrive byte errors (after_events before m.chip)

-- where the judge does not know DLAB, a read of LSR finds it off: no driver reads LSR while it sets the divisor
abbrev pub LooksWhileOff : (is_open : Option Bool) → RegisterAccess → ChipState → Type 0
LooksWhileOff None (Read offset answer) c = offset ≡ offsets.LSR → is_dlab_set c.latches ≡ false
LooksWhileOff None (Write offset value) c = Unit {0}
LooksWhileOff (Some on) access c = Unit {0}

pub record IsMade (a : Auditor) (access : RegisterAccess) (m n : MachineState) : Type 0 where
  pub step : MachineStep m access n
  pub off : LooksWhileOff a.setup.is_open access m.chip

-- what happens at an entry leads from the one machine to the other: an access makes its step; an arrival, of which some
-- may not be recorded, happens; levels and modem inputs are in the schedule
abbrev pub Follows : Auditor → Happening → MachineState → MachineState → Type 0
Follows a (Access access) m n = IsMade a access m n
Follows a (Arrive byte errors) m n = IsNextArrival byte errors.0 m n
Follows a _ m n = n ≡ m

-- the bytes that left the transmitter's queue, with those that leave it before an access or an arrival
abbrev pub left_at : Happening → ℕ → MachineState → MachineState → ℕ
left_at (Access access) left m n =
    left + (length m.chip.transmitter.queue - length (at_access m).chip.transmitter.queue)
left_at (Arrive byte errors) left m n =
    left + (length m.chip.transmitter.queue - length n.chip.transmitter.queue)
left_at _ left m n = left

-- the same after an entry: the count begins anew where the transmitter is shown to have room
abbrev pub left_after : (past : List Entry) → Entry → ℕ → MachineState → MachineState → ℕ
left_after past e left m n = if shows_room (step_from (known past) e) then 0 else left_at e.happening left m n

-- at each of these entries, behind those of the past, each finding loses what it says, whatever the schedule has
abbrev pub IsRight : (past : List Entry) → ℕ → MachineState → (entries : List Entry) → Type 0
IsRight past left m [] = Unit {0}
IsRight past left m (e ∷ entries) =
    (n : MachineState) → Follows (known past) e.happening m n →
    AllLose (findings_at e past) (known past) (left_at e.happening left m n) (at_access m).chip n
    × IsRight (e ∷ past) (left_after past e left m n) n entries
