-- What each call of a run of rings keeps, in a session or not.
use Rattle.std.specs.Prelude.{◌≡◌, ⊤}
use Rattle.uart_chip.specs.Switching.{SameSizes}
use Rattle.uart_ring.specs.Ring.{ring_fields}
use Rattle.uart_run.specs.Progress.{IsTimely, IsUnchecked, KeepsChecks}
use Rattle.uart_run.specs.Ready.{Ready, KeepsSize}
use Rattle.uart_run.specs.Session.{Follows}
use Rattle.uart_ring_runs.specs.declared.call.RingAnswer.{RingAnswer}
use Rattle.uart_ring_runs.specs.declared.call.RingAnswer.TheVariants as answer
use Rattle.uart_ring_runs.specs.declared.call.RingCall.{RingCall}
use Rattle.uart_ring_runs.specs.declared.call.RingCall.TheVariants as call
use Rattle.uart_ring_runs.specs.RingRun.{RingState, under, ring_machine}

-- a call of the rings themselves keeps the size of the FIFOs, and one of the driver does if it does without rings
abbrev pub KeepsRingSize : RingState → RingCall → Type 0
KeepsRingSize s (call.Driver c) = KeepsSize (under s) c
KeepsRingSize s other = ⊤

-- the call is no `init` and no `init_with` of the driver
abbrev pub KeepsRingChecks : RingCall → Type 0
KeepsRingChecks (call.Driver c) = KeepsChecks c
KeepsRingChecks other = ⊤

-- a call of the driver does what is said of it in a run without rings
abbrev pub FollowsDriver : RingState → RingCall → RingAnswer → RingState → Type 0
FollowsDriver s (call.Driver c) (answer.Driver a) t = Follows (under s) c a (under t)
FollowsDriver s other a t = ⊤

-- whatever its answer is, a call preserves a ready state; it changes neither for how large the driver takes the FIFOs
-- nor, if it keeps it, the size that they have; it preserves that ticks come and the limit is long enough, that CTS is
-- not checked, if it is no `init`, and which chip has automatic flow control; and what is said of a call of the driver
-- without rings holds of it
pub record RingFollows (s : RingState) (c : RingCall) (a : RingAnswer) (t : RingState) : Type 0 where
  pub ready : Ready (under s) → Ready (under t)
  pub takes : (ring_fields t).driver.size ≡ (ring_fields s).driver.size
  pub size : KeepsRingSize s c → SameSizes (ring_machine s).chip (ring_machine t).chip
  pub timely : KeepsRingSize s c → IsTimely (under s) → IsTimely (under t)
  pub checks : KeepsRingChecks c → IsUnchecked (under s) → IsUnchecked (under t)
  pub flow : (ring_machine t).chip.auto_flow ≡ (ring_machine s).chip.auto_flow
  pub driver : FollowsDriver s c a t
