-- Calls of the rings themselves meet each condition that a session has because of calls of the driver.
use Rattle.uart_ring_runs.proofs.Names.{ℕ, List, [], ◌∷◌, subst, All, All-head, All-tail, Call, NoneIs, calls_of, IsWired, RingCall}
use Rattle.uart_ring_runs.proofs.Names.{RingState, under, IsOfRings, RingLink, to_take, TakesInTurn, AllTakeInTurn, KeepsArmed, NeitherIs}
use Rattle.uart_ring_runs.proofs.Names.{AllWithinRingSession}
use Rattle.uart_ring_runs.specs.declared.call.RingCall.TheVariants as call
use Rattle.uart_ring_runs.proofs.RingLasts.{wired_call}

-- from a wired machine they go on with a session
pub own_within : (s : RingState) (links : List RingLink) → All IsOfRings (calls_of links) → IsWired (under s) →
    AllWithinRingSession s links
own_within s [] own w = tt
own_within s (link ∷ links) own w = (
  wired_call s link.call (All-head IsOfRings link.call (calls_of links) own) w,
  own_within s links (All-tail IsOfRings link.call (calls_of links) own) w,
)

-- they take bytes in turn
takes_in_turn : (c : RingCall) (there : List ℕ) → IsOfRings c → TakesInTurn c there
takes_in_turn (call.Driver c) there own = absurd own
takes_in_turn other there own = tt

pub own_in_turn : (links : List RingLink) → All IsOfRings (calls_of links) → AllTakeInTurn links
own_in_turn [] own = tt
own_in_turn (link ∷ links) own = (
  takes_in_turn link.call (to_take link.before) (All-head IsOfRings link.call (calls_of links) own),
  own_in_turn links (All-tail IsOfRings link.call (calls_of links) own),
)

-- they leave the THR-empty interrupt
pub own_keeps_armed : (c : RingCall) → IsOfRings c → KeepsArmed c
own_keeps_armed (call.Driver c) own = absurd own
own_keeps_armed other own = tt

-- none is the driver's call that forgets what c is to tell
pub own_neither : (c : RingCall) (d : Call) (links : List RingLink) → All IsOfRings (calls_of links) → NoneIs c links →
    NeitherIs c (call.Driver d) links
own_neither c d [] own none = tt
own_neither c d (link ∷ links) own none = (
  (none.0, λ e. subst IsOfRings e (All-head IsOfRings link.call (calls_of links) own)),
  own_neither c d links (All-tail IsOfRings link.call (calls_of links) own) none.1,
)
