use Rattle.std.proofs.Common.{◌≡◌, ◌⊎◌, Bool, inl, inr}
use Rattle.uart_ring.specs.Handle.{SendsAndRetriggers, RetriggersUnlessIdle}
use Rattle.uart_ring.specs.Lossless.{Implies}
use Rattle.uart_ring.specs.declared.ring.service.HandleEnd.{HandleEnd}
use Rattle.uart_ring.specs.declared.ring.service.HandleEnd.TheVariants.{Idle, Unknown, Limit}
use Rattle.uart_ring.proofs.RingDoings.{ring_then, ring_among, ring_none}
use Rattle.uart_ring.proofs.ring.Uart16550Ring.retrigger_unless_idle.Goals as goal

not_idle : (room : Bool) (end : HandleEnd) → (end ≡ Unknown) ⊎ (end ≡ Limit) →
    Implies (SendsAndRetriggers room) (RetriggersUnlessIdle room end)
not_idle room Idle (inl e) f l after t = absurd (cc)
not_idle room Idle (inr e) f l after t = absurd (cc)
not_idle room Unknown e f l after t = t
not_idle room Limit e f l after t = t

pub returns-in-Idle : goal.returns-in-Idle
returns-in-Idle g c = ring_among (λ l t. rw c.in-Idle.is t) ring_none

pub returns-in-Unknown : goal.returns-in-Unknown
returns-in-Unknown g c =
    ring_among (λ l t. not_idle _ _ c.in-Unknown.is _ l _ t) (ring_then c.send_on_if.ensures c.retrigger.ensures)
