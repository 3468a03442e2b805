use Rattle.std.proofs.Common.{◌≡◌, ℕ, Bool, length, ap, ◌∙◌, subst, refl, Option, Some, None}
use Rattle.std.specs.Option.{is_some}
use Rattle.uart_spec.specs.declared.access.Access.{Access}
use Rattle.uart_ring.specs.Ring.{RingDid, RingFields, ring_fields}
use Rattle.uart_ring.specs.Handle.{Handles}
use Rattle.uart_ring.specs.Storm.{CountsRound, CountsSince, HandlesRound, counts_as, has_moved, has_moved_since, unless_stuck}
use Rattle.uart_ring.specs.declared.ring.Uart16550Ring.{Uart16550Ring}
use Rattle.uart_ring.specs.declared.ring.service.HandleEnd.{HandleEnd}
use Rattle.uart_ring.specs.declared.ring.service.Handled.{Handled}
use Rattle.uart_ring.specs.declared.ring.storm.StuckError.{StuckError}
use Rattle.uart_ring.proofs.RingDoings.{ring_then, ring_among}
use Rattle.uart_ring.proofs.ring.Uart16550Ring.handle_round.Goals as goal

-- what moved since, in the numbers that were noted
moved_since : (f after : RingFields) (transmit receive : ℕ) (is_urgent result : Bool) (end given : HandleEnd) →
    transmit ≡ length f.transmit.items → is_urgent ≡ is_some f.urgent → receive ≡ length f.receive.items →
    result ≡ has_moved_since transmit is_urgent receive after → given ≡ counts_as result end →
    given ≡ counts_as (has_moved f after) end
moved_since f after transmit receive is_urgent result end given p q r s is =
    is ∙ ap (λ (moved : Bool). counts_as moved end) (s
    ∙ (ap (λ (n : ℕ). has_moved_since n is_urgent receive after) p
    ∙ (ap (λ (b : Bool). has_moved_since (length f.transmit.items) b receive after) q
    ∙ ap (λ (n : ℕ). has_moved_since (length f.transmit.items) (is_some f.urgent) n after) r)))

-- a `handle`, and then its round is counted by the numbers that were noted before
round_did : {B : Type 0} {step : B → Access → B → Type 0} {a b c : Uart16550Ring B} (limit rounds : ℕ) (handled : Handled)
    (found : Option StuckError) (given : HandleEnd) → given ≡ counts_as (has_moved (ring_fields a) (ring_fields b)) handled.end →
    RingDid step (Handles limit handled) a b → RingDid step (CountsRound rounds given found) b c →
    RingDid step (HandlesRound limit rounds (unless_stuck handled found)) a c
round_did {a} {b} {c} limit rounds handled found given same did counted =
    ring_among (λ l t. (handled, found, refl, t))
    (ring_then {H = CountsSince rounds (ring_fields a) handled.end found} did
    (ring_among (λ l t. subst (λ (e : HandleEnd). CountsRound rounds e found (ring_fields b) l (ring_fields c)) same t) counted))

pub returns-in-None : goal.returns-in-None
returns-in-None g c =
    round_did c.args.limit c.args.rounds c.handle-handled.result None c.counted_as.result
    (moved_since (ring_fields c.args.self.now) (ring_fields c.handle-handled.new.self) c.len-transmit.result c.len-receive.result
    c.is_some-is_urgent.result c.has_moved-has_moved.result c.handle-handled.result.end c.counted_as.result c.len-transmit.ensures.len
    c.is_some-is_urgent.ensures c.len-receive.ensures.len c.has_moved-has_moved.ensures c.counted_as.ensures) c.handle-handled.ensures
    c.in-None.ensures

pub returns-in-Some : goal.returns-in-Some
returns-in-Some g c =
    round_did c.args.limit c.args.rounds c.handle-handled.result (Some c.in-Some.error) c.counted_as.result
    (moved_since (ring_fields c.args.self.now) (ring_fields c.handle-handled.new.self) c.len-transmit.result c.len-receive.result
    c.is_some-is_urgent.result c.has_moved-has_moved.result c.handle-handled.result.end c.counted_as.result c.len-transmit.ensures.len
    c.is_some-is_urgent.ensures c.len-receive.ensures.len c.has_moved-has_moved.ensures c.counted_as.ensures) c.handle-handled.ensures
    c.in-Some.ensures
