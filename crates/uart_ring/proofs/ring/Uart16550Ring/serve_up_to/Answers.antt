use Rattle.std.proofs.Common.{◌≡◌, Bool, true, false, not, refl, sym, arith}
use Rattle.std.proofs.lemmas.Bool.{false≢true}
use Rattle.uart_16550.proofs.Doings.{did_made, did_among}
use Rattle.uart_ring.specs.Ring.{unchanged}
use Rattle.uart_ring.proofs.RingDoings.{ring_did, ring_then, ring_among, ring_times, ring_none}
use Rattle.uart_ring.proofs.ring.Uart16550Ring.serve_up_to.Goals as goal

clear : (b : Bool) → true ≡ not b → b ≡ false
clear true h = absurd (false≢true (sym h))
clear false h = refl

set : (b : Bool) → false ≡ not b → b ≡ true
set true h = refl
set false h = absurd (false≢true h)

pub returns-then-has_pending_interrupt : goal.returns-then-has_pending_interrupt
returns-then-has_pending_interrupt g c =
    let pending = clear _ c.if-has_pending_interrupt.ensures in
    ring_among (λ l t. (c.loop-served-test.true, t))
    (ring_then c.loop-served.invariant
    (ring_did unchanged _ _ (did_among (λ f l after t. (_, c.in_default.ensures, pending, t)) (did_made c.isr-isr.ensures)) refl))

pub returns-else-has_pending_interrupt : goal.returns-else-has_pending_interrupt
returns-else-has_pending_interrupt g c =
    let idle = set _ c.if-has_pending_interrupt.ensures in
    ring_among (λ l t. (c.loop-served-test.true, t))
    (ring_then c.loop-served.invariant
    (ring_did unchanged _ _ (did_among (λ f l after t. (_, c.in_default.ensures, idle, t)) (did_made c.isr-isr.ensures)) refl))

pub loop-served-preserved : goal.loop-served-preserved
loop-served-preserved g c = ring_times _ _ false _ _ c.loop-served.invariant (ring_among (λ l t. (c.in-Some.interrupt, t))
    (ring_then (ring_did unchanged _ _ (did_among (λ f l after t. (_, c.in-Some.ensures, t)) (did_made c.isr-isr.ensures)) refl)
    c.serve-has_room.ensures))

pub returns : goal.returns
returns g c =
    let all : c.loop-served.served ≡ c.args.limit = omega arith in
    ring_among (λ l t. (refl, t)) (ring_then (rw all at c.loop-served.invariant) ring_none)
