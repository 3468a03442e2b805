-- The wire: the bytes that were sent and have not been taken.
use Rattle.std.specs.Prelude.{ℕ, List}

-- the bytes, from the first that was sent, and how many there is room for
pub record WireState : Type 0 where
  pub bytes : List ℕ
  pub capacity : ℕ
