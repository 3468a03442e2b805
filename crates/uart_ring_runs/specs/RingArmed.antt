-- Why there are never bytes that may be sent with no interrupt to come: what holds of the chip's THR-empty
-- interrupt.
use Rattle.std.specs.Prelude.{◌≡◌, ◌⊎◌, ◌<◌, ⊤, ℕ, Bool, true, not, ◌||◌, ◌==◌, List, [], ◌∷◌, length}
use Rattle.bitflags.specs.Sets.{without}
use Rattle.uart_spec.specs.Bits.{has}
use Rattle.uart_spec.specs.declared.registers.interrupt_enable.TheConstants.IER
use Rattle.uart_call.specs.declared.call.Call.{Call}
use Rattle.uart_call.specs.declared.call.Call.TheVariants as driver
use Rattle.uart_chip.specs.Transmitter.{TransmitterState}
use Rattle.uart_chip.specs.Machine.{MachineState}
use Rattle.uart_ring.specs.Ring.{ring_fields}
use Rattle.uart_ring.specs.Armed.{ThrEmpty, IsArmed}
use Rattle.uart_ring_runs.specs.declared.call.RingCall.{RingCall}
use Rattle.uart_ring_runs.specs.declared.call.RingCall.TheVariants as call
use Rattle.uart_ring_runs.specs.declared.call.RingAnswer.{RingAnswer}
use Rattle.uart_ring_runs.specs.RingRun.{RingState, ring_machine, RingLink}
use Rattle.uart_ring_runs.specs.RingBytes.{queued_by}

-- the chip's THR-empty interrupt is due: the transmit queue is not empty, or the interrupt that it became empty is
-- pending
abbrev pub is_due : TransmitterState → Bool
is_due t = not (length t.queue == 0) || t.is_thr_pending

-- the chip's THR-empty interrupt: whether IER enables it, and whether it is due
abbrev pub thr_empty_of : MachineState → ThrEmpty
thr_empty_of m = record { enabled = has m.chip.latches.ier IER.THR_EMPTY.0; due = is_due m.chip.transmitter }

-- no byte waits that may be sent, or that interrupt is enabled and due
abbrev pub IsRingArmed : RingState → Type 0
IsRingArmed s = IsArmed (thr_empty_of (ring_machine s)) (ring_fields s)

-- ---- what a call of the driver does to it

-- the driver's call does not take the interrupt away. Others read ISR, which acknowledges the interrupt: `isr`,
-- `config_register_dump`, `attach`. Or they write IER or FCR for a purpose of their own: `disable_interrupts` of
-- THR_EMPTY, `quiesce`, `restore`, `test_loopback`, `init`, `init_with`
abbrev pub LeavesThrEmpty : Call → Type 0
LeavesThrEmpty driver.Isr = ⊥
LeavesThrEmpty driver.Dump = ⊥
LeavesThrEmpty driver.Attach = ⊥
LeavesThrEmpty (driver.Disable interrupts) =
    (ier : ℕ) → has ier IER.THR_EMPTY.0 ≡ true → has (without 8 ier interrupts.0) IER.THR_EMPTY.0 ≡ true
LeavesThrEmpty (driver.Quiesce outputs fifos) = ⊥
LeavesThrEmpty (driver.Restore dump) = ⊥
LeavesThrEmpty driver.TestLoopback = ⊥
LeavesThrEmpty (driver.Init config) = ⊥
LeavesThrEmpty (driver.InitWith config setup) = ⊥
LeavesThrEmpty other = ⊤

-- each ring call leaves it
abbrev pub KeepsArmed : RingCall → Type 0
KeepsArmed (call.Driver c) = LeavesThrEmpty c
KeepsArmed other = ⊤

-- ---- in a session

-- So a program that finds a port asleep can wake it.

-- the call arms the rings, however it finds them: it resumes sending, or accepts a byte
abbrev pub RearmsRing : RingCall → RingAnswer → Type 0
RearmsRing call.ResumeTransmit answer = ⊤
RearmsRing call.ReleaseTransmit answer = ⊤
RearmsRing (call.QueueUrgent byte) answer = ⊤
RearmsRing (call.Restart interrupts) answer = ⊤
RearmsRing other answer = 0 < length (queued_by other answer)

-- a call that finds the rings armed, or that arms them in any case, leaves them armed, unless it is a call of the
-- driver that takes the interrupt away
abbrev pub LeavesRingArmed : RingLink → Type 0
LeavesRingArmed link =
    KeepsArmed link.call → IsRingArmed link.before ⊎ RearmsRing link.call link.answer → IsRingArmed link.after

-- each of these calls leaves the rings armed in this way
abbrev pub AllLeaveRingArmed : List RingLink → Type 0
AllLeaveRingArmed [] = Unit {0}
AllLeaveRingArmed (link ∷ links) = LeavesRingArmed link × AllLeaveRingArmed links
