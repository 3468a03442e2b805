-- The characters of a chip without a schedule have no marks, and none of them is said to be lost.
use Rattle.std.proofs.Common.{◌≡◌, Bool, true, false, not, ◌||◌, List, [], ◌∷◌, map, refl, ap, ◌∙◌, if◌then◌else◌}
use Rattle.uart_c.specs.Queue.{is_on, character_of}
use Rattle.uart_c.specs.declared.queue.UartCharacter.{UartCharacter}
use Rattle.uart_chip.specs.Receiver.{discard, is_unscheduled, set_mark}
use Rattle.uart_events.specs.declared.event.ArrivalMark.{ArrivalMark}
use Rattle.uart_events.specs.declared.event.ArrivalMark.TheVariants.{Discarded}
use Rattle.uart_chip.specs.declared.receiver.Origin.{Origin}
use Rattle.uart_chip.specs.declared.receiver.Origin.TheVariants.{Arrived, Looped, Live}

pub none_set : (origin : Origin) (mark : ArrivalMark) → [] ≡ set_mark origin mark []
none_set Looped mark = refl
none_set _ mark = refl

unmarked : (looped : Bool) → set_mark (if looped then Looped else Live) Discarded [] ≡ []
unmarked true = refl
unmarked false = refl

pub none_marked : (characters : List UartCharacter) → discard (map character_of characters) [] ≡ []
none_marked [] = refl
none_marked (c ∷ cs) = ap (λ marks. discard (map character_of cs) marks) (unmarked (is_on c.is_looped)) ∙ none_marked cs

pub none_lost : (on : Bool) → (not on || false) ≡ true → false ≡ on
none_lost true e = absurd cc
none_lost false e = refl

pub only_unscheduled : (origin : Origin) → (is_unscheduled origin || false) ≡ true → is_unscheduled origin ≡ true
only_unscheduled (Arrived number) e = absurd cc
only_unscheduled Looped e = refl
only_unscheduled Live e = refl
