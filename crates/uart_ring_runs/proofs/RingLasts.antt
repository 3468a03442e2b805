-- What every ring call keeps of the machine: soundness, and that it is wired.
use Rattle.uart_ring_runs.proofs.Names.{List, [], ◌∷◌, ◌++◌, sym, subst, inner_of, Call, Answer, MachineState, MachineStep, State, CallStep}
use Rattle.uart_ring_runs.proofs.Names.{IsWired, chain_keeps, Lasts, goes_on, lasts_call, lasts_wired, RingCall, RingAnswer, RingState}
use Rattle.uart_ring_runs.proofs.Names.{under, ring_machine, IsOfRings, DriverCalled, RingCallStep, RingLink, RingChain}
use Rattle.uart_ring_runs.proofs.Names.{IsWithinRingSession, AllWithinRingSession}
use Rattle.uart_call.specs.declared.call.Call.TheVariants as driver
use Rattle.uart_calls.specs.Meaning.{Called, IsOfDriver, meaning}
use Rattle.uart_ring_runs.specs.declared.call.RingCall.TheVariants as call

-- a call of the driver under the rings is one of a run without them
as_step : (s t : State) (c : Call) (a : Answer) → IsOfDriver c → Called MachineStep (meaning c) a (inner_of s) (inner_of t) →
    CallStep s c a t
as_step s t driver.Next a i h = absurd i
as_step s t other a i h = h

pub driver_step : (s t : RingState) (c : Call) (a : RingAnswer) → (h : DriverCalled MachineStep c a s t) →
    CallStep (under s) c h.outcome (under t)
driver_step s t c a h = as_step (under s) (under t) c h.outcome h.of_driver h.called

pub ring_lasts_call : {P : MachineState → Type 0} (s t : RingState) (c : RingCall) (a : RingAnswer) → Lasts P → P (ring_machine s) →
    RingCallStep s c a t → P (ring_machine t)
ring_lasts_call s t call.Next a k w h = rw h.machine (k.mark (ring_machine s) w)
ring_lasts_call s t (call.Driver c) a k w h = lasts_call (under s) (under t) c h.outcome k w (driver_step s t c a h)
ring_lasts_call s t other a k w h = k.path h.did.list (ring_machine s) (ring_machine t) w h.did.path

pub ring_lasts_chain : {P : MachineState → Type 0} (s t : RingState) (links : List RingLink) → Lasts P → P (ring_machine s) →
    RingChain s links t → P (ring_machine t)
ring_lasts_chain {P} s t links k w h =
    chain_keeps RingCallStep (λ s. P (ring_machine s)) (λ s t c a w h. ring_lasts_call s t c a k w h) s t links w h

pub wired_chain : (s t : RingState) (links : List RingLink) → IsWired (under s) → RingChain s links t → IsWired (under t)
wired_chain s t links w h = ring_lasts_chain s t links lasts_wired w h

-- ---- the calls of a session

-- what goes on with a session from one state goes on with one from another, if that is wired where the first is
within_call : (s t : RingState) (c : RingCall) → (IsWired (under s) → IsWired (under t)) → IsWithinRingSession s c →
    IsWithinRingSession t c
within_call s t (call.AdjustRts marks) f i = f i
within_call s t (call.Driver c) f i = goes_on (IsWired (under s)) (under t) c f i
within_call s t other f i = i

pub within_later : (s t : RingState) (links : List RingLink) → (IsWired (under s) → IsWired (under t)) → AllWithinRingSession s links →
    AllWithinRingSession t links
within_later s t [] f i = tt
within_later s t (link ∷ links) f i = (within_call s t link.call f i.0, within_later s t links f i.1)

pub within-front : (s : RingState) (some more : List RingLink) → AllWithinRingSession s (some ++ more) → AllWithinRingSession s some
within-front s [] more i = tt
within-front s (link ∷ some) more i = (i.0, within-front s some more i.1)

-- from a wired machine each call of the rings themselves goes on
pub wired_call : (s : RingState) (c : RingCall) → IsOfRings c → IsWired (under s) → IsWithinRingSession s c
wired_call s (call.AdjustRts marks) o w = w
wired_call s (call.Driver c) o w = absurd o
wired_call s other o w = tt

-- the first call goes on where it is made, and the others after it
pub record FirstWithin (link : RingLink) (links : List RingLink) : Type 0 where
  pub here : IsWithinRingSession link.before link.call
  pub later : AllWithinRingSession link.after links

pub first_within : (s t : RingState) (link : RingLink) (links : List RingLink) → AllWithinRingSession s (link ∷ links) →
    RingChain s (link ∷ links) t → FirstWithin link links
first_within s t link links i h =
    let W : RingState → Type 0 = λ v. IsWired (under v) in
    let before : IsWired (under s) → IsWired (under link.before) = λ w. subst W (sym h.0) w in
    let after : IsWired (under s) → IsWired (under link.after) =
    λ w. ring_lasts_call link.before link.after link.call link.answer lasts_wired (before w) h.1 in
    record { here = within_call s link.before link.call before i.0; later = within_later s link.after links after i.1 }
