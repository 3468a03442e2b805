-- What is printed for the bytes of a trace.
use Rattle.std.specs.Prelude.{◌≡◌, ◌⊎◌, ℕ, List, [], ◌∷◌, ◌++◌}
use Rattle.uart_16550.specs.Driver.{Fields}
use Rattle.uart_16550.specs.State.{fresh_fields}
use Rattle.uart_judges.specs.Reading.{IsTrace, Refuses, fault_of}
use Rattle.uart_judges.specs.Telling.{stray_text}
use Rattle.uart_judges.specs.Traces.{AreCalls, IsStray}
use Rattle.uart_judges.specs.declared.traces.exchange.Exchange.{Exchange}
use Rattle.uart_judges.specs.declared.traces.judging.Stray.{Stray}
use Rattle.uart_judges.specs.declared.findings.verifying.VerifyError.{VerifyError}
use Rattle.uart_judges.specs.declared.findings.verifying.VerifyError.TheVariants.{NoTrace}

-- nothing is printed if each list is one that its call makes; else the line that says where the first is not
abbrev pub IsLine : (new : Fields) → List Exchange → List ℕ → Type 0
IsLine new trace line =
    (AreCalls new fresh_fields trace × (line ≡ []))
    ⊎ ((stray : Stray) × IsStray new fresh_fields trace stray × (line ≡ stray_text stray ++ 10 ∷ []))

-- the bytes are a trace, and this is printed for it, where a new driver has these fields
pub record IsVerified (new : Fields) (bytes line : List ℕ) : Type 0 where
  pub trace : List Exchange
  pub read : IsTrace bytes trace
  pub printed : IsLine new trace line

-- the bytes are no trace, and their first fault is reported, or memory ran out
abbrev pub IsNoTrace : List ℕ → VerifyError → Type 0
IsNoTrace bytes (NoTrace error) = Refuses (fault_of bytes) error
IsNoTrace bytes other = ⊥
