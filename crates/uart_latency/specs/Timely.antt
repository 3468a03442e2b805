-- A session in which each visit of the handler begins in time, and each other call makes few accesses.
use Rattle.std.specs.Prelude.{◌≡◌, ◌≢◌, ◌⊎◌, ◌≤◌, ℕ, ◌+◌, ◌-◌, ◌*◌, true, false, List, [], ◌∷◌, length, Ok, Err}
use Rattle.std.specs.List.{AllByRecursion}
use Rattle.uart_spec.specs.Access.{Path}
use Rattle.uart_spec.specs.Bits.{has_any}
use Rattle.uart_spec.specs.FifoSize.{characters}
use Rattle.uart_spec.specs.declared.access.Access.{Access}
use Rattle.uart_spec.specs.declared.registers.interrupt_enable.TheConstants.IER
use Rattle.uart_chip.specs.Machine.{MachineState, MachineStep}
use Rattle.uart_ring.specs.Ring.{ring_fields, free}
use Rattle.uart_ring.specs.declared.ring.service.HandleEnd.TheVariants.{Idle}
use Rattle.uart_ring.specs.declared.ring.service.Handled.{Handled}
use Rattle.uart_ring.specs.declared.ring.storm.StuckError.{StuckError}
use Rattle.uart_ring_runs.specs.declared.call.RingAnswer.{RingAnswer}
use Rattle.uart_ring_runs.specs.declared.call.RingAnswer.TheVariants.{Tried}
use Rattle.uart_ring_runs.specs.declared.call.RingCall.{RingCall}
use Rattle.uart_ring_runs.specs.declared.call.RingCall.TheVariants as call
use Rattle.uart_ring_runs.specs.RingRun.{RingState, RingLink, RingChain, RingCallStep, ring_machine}
use Rattle.uart_latency.specs.Ticks.{late_if, late_at, late_to_mark, given_back, AreOthersQuick}
use Rattle.uart_latency.specs.Ticks.{beside, IsQuickHandle, OfCall}

-- ---- that the receiver's interrupt is enabled

-- DATA_READY is enabled, unless receiving is paused
abbrev pub IsListening : RingState → Type 0
IsListening s =
    -- receiving is not paused
    (ring_fields s).is_paused ≡ false → has_any (ring_machine s).chip.latches.ier IER.DATA_READY.0 ≡ true

-- the call is one of the rings, and no `try_handle` that returns that the chip is stuck, which disables all interrupts
abbrev pub LeavesListening : RingCall → RingAnswer → Type 0
LeavesListening (call.TryHandle limit rounds) answer = (error : StuckError) → answer ≢ Tried (Err error)
LeavesListening (call.Driver c) answer = ⊥
LeavesListening other answer = Unit {0}

-- each call is one of the rings, and no `try_handle` finds the chip stuck
abbrev pub AllLeaveListening : List RingLink → Type 0
AllLeaveListening links = AllByRecursion (λ link. LeavesListening link.call link.answer) links

-- ---- how late its calls are

-- the first of these accesses finds it at most b late, if there is one
abbrev pub BeginsBy : (b late : ℕ) → List Access → MachineState → Type 0
BeginsBy b late [] m = Unit {0}
BeginsBy b late (access ∷ accesses) m = late_at late m.ahead m.chip ≤ b

-- after these accesses it is so late
abbrev pub IsLateAfter : (t late after : ℕ) (l : List Access) (m n : MachineState) → Path MachineStep m l n → Type 0
IsLateAfter t late after [] m n path = after ≡ late
IsLateAfter t late after (access ∷ accesses) m n path =
    let now = late_at late m.ahead m.chip in
    IsLateAfter t (late_if (now - given_back t access) path.0.chip) after accesses path.0 n path.2

-- a call of few accesses: the first finds it at most b late, at most e ticks pass before each other one, and the last
-- one finds it at most d late, whatever is read
pub record IsQuickCall (t d b e late after : ℕ) (l : List Access) (m n : MachineState) (path : Path MachineStep m l n)
    : Type 0 where
  pub begins : BeginsBy b late l m
  pub quick : AreOthersQuick e l m n path
  pub few : b + length l * e ≤ d + e
  pub leaves : IsLateAfter t late after l m n path

-- a visit of the handler, which ends with `Idle`. Receiving is not paused when it begins, and the receive ring has room
-- for a whole FIFO. The first access finds it at most b late, and at most e ticks pass before each other one
pub record IsVisit (t d b e late after : ℕ) (s : RingState) (handled : Handled) (l : List Access) (m n : MachineState)
    (path : Path MachineStep m l n) : Type 0 where
  pub idle : handled.end ≡ Idle
  pub going : (ring_fields s).is_paused ≡ false
  pub room : characters (ring_fields s).driver.size ≤ free (ring_fields s).receive
  pub begins : late_at late m.ahead m.chip ≤ b
  pub quick : AreOthersQuick e l m n path
  pub few : IsQuickHandle t d b e (characters (ring_fields s).driver.size) (beside l)
  pub leaves : IsLateAfter t late after l m n path

-- the call is one: a `handle`, or a `try_handle`
abbrev pub IsVisitCall : (t d b e late after : ℕ) (s : RingState) (c : RingCall) (a : RingAnswer) (u : RingState) →
    RingCallStep s c a u → Type 0
IsVisitCall t d b e late after s (call.Handle limit) a u h =
    IsVisit t d b e late after s h.outcome h.did.list (ring_machine s) (ring_machine u) h.did.path
IsVisitCall t d b e late after s (call.TryHandle limit rounds) a u h =
    (handled : Handled) × (h.outcome ≡ Ok handled)
    × IsVisit t d b e late after s handled h.did.list (ring_machine s) (ring_machine u) h.did.path
IsVisitCall t d b e late after s c a u h = ⊥

-- the call is a visit of the handler, or makes few accesses, or waits for the next Mark
abbrev pub IsTimelyCall : (t d b e late after : ℕ) (s : RingState) (c : RingCall) (a : RingAnswer) (u : RingState) →
    RingCallStep s c a u → Type 0
IsTimelyCall t d b e late after s call.Next a u h =
    let m = ring_machine s in
    (late_to_mark late m.ahead m.chip ≤ d) × (after ≡ late_to_mark late m.ahead m.chip)
IsTimelyCall t d b e late after s c a u h =
    LeavesListening c a
    × (IsVisitCall t d b e late after s c a u h ⊎ OfCall (IsQuickCall t d b e late after) s c a u h)

-- each of these calls is a visit of the handler in time, or makes few accesses, or waits for the next Mark
abbrev pub AreTimely : (t d b e late : ℕ) (s : RingState) (links : List RingLink) (u : RingState) →
    RingChain s links u → Type 0
AreTimely t d b e late s [] u chain = Unit {0}
AreTimely t d b e late s (link ∷ links) u chain =
    (after : ℕ) × IsTimelyCall t d b e late after link.before link.call link.answer link.after chain.1
    × AreTimely t d b e after link.after links u chain.2
