-- What the reads of a ring call determine.
use Rattle.std.specs.Prelude.{◌≡◌, ◌⊎◌, List}
use Rattle.uart_spec.specs.declared.access.Access.{Access}
use Rattle.uart_16550.specs.Choice.{PartAtRead}
use Rattle.uart_ring.specs.Ring.{RingDoing, RingFields}

-- two lists that a ring call may make from the same fields are the same list, with the same outcome and the same
-- fields after it; or they part at a read: so what the reads have returned so far determines the next access
abbrev pub LeavesNoRingChoice : {R : Type 0} → (R → RingDoing) → Type 0
LeavesNoRingChoice {R} G = (f : RingFields) (a b : R) (l m : List Access) (after after' : RingFields) →
    G a f l after → G b f m after' → ((a ≡ b) × (l ≡ m) × (after ≡ after')) ⊎ PartAtRead l m
