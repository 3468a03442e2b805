-- What a program concludes of a port, without driver and chip.
use Rattle.std.specs.Prelude.{◌≡◌, ◌⊎◌, ℕ, Bool, false, List, [], ◌∷◌, ◌++◌}
use Rattle.std.specs.List.{AllByRecursion}
use Rattle.uart_chip.specs.Port.{Port, Step, DoesAll, sent_in, received_in, came_in, told_in}

-- the first list is the second, with some left out
abbrev pub IsPart : List ℕ → List ℕ → Type 0
IsPart [] ys = Unit {0}
IsPart (x ∷ xs) [] = ⊥
IsPart (x ∷ xs) (y ∷ ys) = ((x ≡ y) × IsPart xs ys) ⊎ IsPart (x ∷ xs) ys

-- from the one port to the other these bytes were sent, those received, those came, and this was told: nothing is lost
-- silently
pub record LosesNothingSilently (p : Port) (sent received came : List ℕ) (told : List Bool) (q : Port) : Type 0 where
  -- what goes out grew by what was sent, in order
  pub sends : q.out ≡ p.out ++ sent
  -- what was received, and then what waits, is what waited and what came, in order, with some left out
  pub receives : IsPart (received ++ q.waiting) (p.waiting ++ came)
  -- none is left out where no loss was told and none is left to be told
  pub tells :
      -- no loss was told
      AllByRecursion (λ overrun. overrun ≡ false) told →
      -- none is left to be told
      q.lost ≡ false → received ++ q.waiting ≡ p.waiting ++ came

-- so it is with each run of a port
abbrev pub PortsLoseNothingSilently : Type 0
PortsLoseNothingSilently =
    (p q : Port) (steps : List Step) → DoesAll p steps q →
    LosesNothingSilently p (sent_in steps) (received_in steps) (came_in steps) (told_in steps) q
