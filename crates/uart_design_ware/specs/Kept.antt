-- The characters that are kept.
use Rattle.std.specs.Prelude.{◌≡◌, ℕ, List, ◌∷◌}
use Rattle.uart_spec.specs.declared.registers.line_status.LSR.{LSR}
use Rattle.uart_design_ware.specs.declared.kept.KeptCharacter.{KeptCharacter}

-- the first character had these errors and has none, and nothing else is changed
pub record ShowsFirst (errors : LSR) (old new : List KeptCharacter) : Type 0 where
  pub byte : ℕ
  pub others : List KeptCharacter
  pub was : old ≡ record { byte = byte; errors = errors } ∷ others
  pub stays : new ≡ record { byte = byte; errors = record { 0 = 0 } } ∷ others
