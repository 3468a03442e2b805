-- A journal without marks stays one.
use Rattle.std.proofs.Common.{◌≡◌, List, [], ◌∷◌, refl, ap, ◌∙◌}
use Rattle.uart_events.specs.declared.event.ArrivalMark.{ArrivalMark}
use Rattle.uart_events.specs.declared.event.ArrivalMark.TheVariants.{Discarded}
use Rattle.uart_chip.specs.declared.receiver.Character.{Character}
use Rattle.uart_chip.specs.declared.receiver.Origin.{Origin}
use Rattle.uart_chip.specs.declared.receiver.Origin.TheVariants.{Arrived, Looped, Live}
use Rattle.uart_chip.specs.Receiver.{set_mark, discard}

pub none_set : (origin : Origin) (mark : ArrivalMark) → [] ≡ set_mark origin mark []
none_set Looped mark = refl
none_set _ mark = refl

pub none_discarded : (characters : List Character) → [] ≡ discard characters []
none_discarded [] = refl
none_discarded (x ∷ xs) = none_discarded xs ∙ ap (λ (ms : List ArrivalMark). discard xs ms) (none_set x.origin Discarded)
