-- A session of calls of the rings themselves conserves without the conditions that calls of the driver bring.
use Rattle.uart_ring_runs.proofs.Names.{ℕ, List, [], ◌∷◌, ◌++◌, subst, All, All-head, All-tail, All-nil, All-cons, Call, calls_of, RingCall}
use Rattle.uart_ring_runs.proofs.Names.{RingAnswer, RingState, IsOfRings, RingLink, AllLeaveRingArmed, TellsAtEnd, TellsSinceFirst}
use Rattle.uart_ring_runs.proofs.Names.{RingConserves}
use Rattle.uart_call.specs.declared.call.Call.TheVariants as driver
use Rattle.uart_ring_runs.specs.declared.call.RingCall.TheVariants as call
use Rattle.uart_ring_runs.specs.OwnSession.{OwnTellsAtEnd, OwnTellsSinceFirst, AllOwnLeaveArmed, OwnConserves}
use Rattle.uart_ring_runs.proofs.RingOwn.{own_in_turn, own_keeps_armed, own_neither}

-- these calls are of the rings
abbrev AreOwn : List RingLink → Type 0
AreOwn links = All IsOfRings (calls_of links)

-- so are those at the front
front_own : (some rest : List RingLink) → AreOwn (some ++ rest) → AreOwn some
front_own [] rest own = All-nil IsOfRings
front_own (link ∷ some) rest own =
    All-cons
    IsOfRings
    link.call
    (calls_of some)
    (All-head IsOfRings link.call (calls_of (some ++ rest)) own)
    (front_own some rest (All-tail IsOfRings link.call (calls_of (some ++ rest)) own))

-- what the last call tells, if none of the calls before it is c
at_end : (c : RingCall) (d : Call) (answer_of : ℕ → RingAnswer) (links : List RingLink) (Told : ℕ → Type 0) → AreOwn links →
    TellsAtEnd c (call.Driver d) answer_of links Told → OwnTellsAtEnd c answer_of links Told
at_end c d answer_of links Told own tells some last value e none =
    tells some last value e (own_neither c d some (front_own some (last ∷ []) (subst AreOwn e own)) none)

since_first : (c : RingCall) (d : Call) (answer_of : ℕ → RingAnswer) (links : List RingLink)
    (Told : RingState → ℕ → Type 0) → AreOwn links → TellsSinceFirst c (call.Driver d) answer_of links Told →
    OwnTellsSinceFirst c answer_of links Told
since_first c d answer_of links Told own tells first some last value e none =
    tells
    first
    some
    last
    value
    e
    (own_neither
    c
    d
    some
    (front_own
    some
    (last ∷ [])
    (All-tail IsOfRings first.call (calls_of (some ++ last ∷ [])) (subst AreOwn e own)))
    none)

own_armed : (links : List RingLink) → AreOwn links → AllLeaveRingArmed links → AllOwnLeaveArmed links
own_armed [] own armed = tt
own_armed (link ∷ links) own armed = (
  armed.0 (own_keeps_armed link.call (All-head IsOfRings link.call (calls_of links) own)),
  own_armed links (All-tail IsOfRings link.call (calls_of links) own) armed.1,
)

pub own_conserves : (s t : RingState) (links : List RingLink) → AreOwn links → RingConserves s links t →
    OwnConserves s links t
own_conserves s t links own conserves = record {
  ready = conserves.ready;
  wired = conserves.wired;
  sent = conserves.sent;
  in_line = conserves.in_line;
  no_overflow = conserves.no_overflow;
  all_taken = conserves.all_taken;
  kept = conserves.kept (own_in_turn links own);
  uncut = λ uncut. record {
    sent = (conserves.uncut uncut).sent;
    kept = (conserves.uncut uncut).kept (own_in_turn links own);
  };
  tells = record {
    line = at_end _ driver.Lsr _ links _ own conserves.tells.line;
    only_drops = since_first _ driver.Lsr _ links _ own conserves.tells.only_drops;
    changes = at_end _ driver.Msr _ links _ own conserves.tells.changes;
    only_changes = since_first _ driver.Msr _ links _ own conserves.tells.only_changes;
  };
  armed = λ unchecked. own_armed links own (conserves.armed unchecked);
}
