-- A link: two machines, each with its driver and rings, at the ends of one cable; and what a call of either end does.
use Rattle.std.specs.Prelude.{◌≡◌, List}
use Rattle.uart_chip.specs.Machine.{MachineState}
use Rattle.uart_run.specs.Chains.{LinkOf, ChainOf, RunOf}
use Rattle.uart_ring.specs.Ring.{ring_fields}
use Rattle.uart_ring_runs.specs.declared.call.RingCall.{RingCall}
use Rattle.uart_ring_runs.specs.declared.call.RingCall.TheVariants as call
use Rattle.uart_ring_runs.specs.declared.call.RingAnswer.{RingAnswer}
use Rattle.uart_ring_runs.specs.declared.call.RingAnswer.TheVariants.{Done}
use Rattle.uart_ring_runs.specs.RingRun.{RingState, RingCallStep, IsRingRunnable, IsOfRings, ring_machine}
use Rattle.uart_link.specs.declared.call.LinkCall.{LinkCall}
use Rattle.uart_link.specs.declared.call.Moment.{Moment}
use Rattle.uart_link.specs.declared.call.Side.{Side}
use Rattle.uart_link.specs.declared.call.Side.TheVariants.{Left, Right}
use Rattle.uart_link.specs.declared.link.Link.{Link}
use Rattle.uart_link.specs.Cable.{arranged, settled}

-- the rings at one end; the other end
abbrev pub at_end : Side → Link → RingState
at_end Left link = link.left
at_end Right link = link.right

abbrev pub other : Side → Side
other Left = Right
other Right = Left

-- there are at most as many slots as a ring call may have, and the call is none of the driver under the rings
abbrev pub IsLinkRunnable : LinkCall → Type 0
IsLinkRunnable c = IsRingRunnable c.call × IsOfRings c.call

-- ---- one call

-- the machine is another one, and the rings are as they were
pub record ChangesMachine (changed : MachineState) (s t : RingState) : Type 0 where
  pub machine : ring_machine t ≡ changed
  pub rings : ring_fields t ≡ ring_fields s

-- `Next`: all moments happen, and there is no access
pub record LetsPass (answer : RingAnswer) (s t : RingState) : Type 0 where
  pub answered : answer ≡ Done
  pub passes : ChangesMachine (settled (ring_machine s)) s t

-- the state that a ring call leaves and the answer that it returns, once its moments lie ahead; no call of a link is
-- one of the driver under the rings
abbrev pub CabledCallStep : RingState → RingCall → RingAnswer → RingState → Type 0
CabledCallStep s call.Next answer t = LetsPass answer s t
CabledCallStep s (call.Driver c) answer t = ⊥
CabledCallStep s other answer t = RingCallStep s other answer t

-- a call at one end, while the other end is as it is: its moments are arranged, and then the call is made
pub record EndStep (moments : List Moment) (there s : RingState) (c : RingCall) (answer : RingAnswer) (t : RingState) :
    Type 0 where
  pub begins : RingState
  pub arranges : ChangesMachine (arranged moments (ring_machine there).chip (ring_machine s)) s begins
  pub called : CabledCallStep begins c answer t

-- a call of a link: a call at its end, and the other end stays as it is
abbrev pub LinkCallStep : Link → LinkCall → RingAnswer → Link → Type 0
LinkCallStep s c answer t =
    let here = c.side in
    let there = other c.side in
    EndStep c.moments.items (at_end there s) (at_end here s) c.call answer (at_end here t)
    × (at_end there t ≡ at_end there s)

-- ---- lists of calls

-- a call of a run, with its answer, between the states before and after it
abbrev pub Step : Type 0
Step = LinkOf Link LinkCall RingAnswer

-- the calls lead from the first state to the second, one after another
abbrev pub LinkChain : Link → List Step → Link → Type 0
LinkChain = ChainOf LinkCallStep

-- these calls, with these answers, lead from the first state to the second
abbrev pub IsLinkRun : Link → List LinkCall → List RingAnswer → Link → Type 0
IsLinkRun = RunOf LinkCallStep
