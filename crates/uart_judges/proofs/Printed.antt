-- What is printed for a trace that was judged.
use Rattle.std.proofs.Common.{◌≡◌, ℕ, List, [], ◌∷◌, ◌++◌, Option, Some, None, inl, inr, refl, subst}
use Rattle.std.specs.Prelude.{◌↔◌, IsNone, IfSome}
use Rattle.uart_16550.specs.Driver.{Fields}
use Rattle.uart_16550.specs.State.{fresh_fields}
use Rattle.uart_judges.specs.Reading.{IsTrace}
use Rattle.uart_judges.specs.Telling.{stray_text}
use Rattle.uart_judges.specs.Traces.{AreCalls, IsStray}
use Rattle.uart_judges.specs.declared.traces.exchange.Exchange.{Exchange}
use Rattle.uart_judges.specs.declared.traces.judging.Stray.{Stray}
use Rattle.uart_judges.specs.Verifying.{IsVerified}

-- nothing, if it does not stray
pub nothing : (new : Fields) (bytes : List ℕ) (trace : List Exchange) (found : Option Stray) (line : List ℕ) →
    IsTrace bytes trace → (IsNone found ↔ AreCalls new fresh_fields trace) → found ≡ None → line ≡ [] →
    IsVerified new bytes line
nothing new bytes trace found line read calls none empty =
    let N : Option Stray → Type 0 = λ o. IsNone o → AreCalls new fresh_fields trace in
    record { trace = trace; read = read; printed = inl (subst N none calls.0 refl, empty) }

-- the line of the stray, if it does
pub strays : (new : Fields) (bytes : List ℕ) (trace : List Exchange) (found : Option Stray) (stray : Stray) (line : List ℕ) →
    IsTrace bytes trace → IfSome found (IsStray new fresh_fields trace) → found ≡ Some stray →
    line ≡ stray_text stray ++ 10 ∷ [] → IsVerified new bytes line
strays new bytes trace found stray line read first some told =
    let S : Option Stray → Type 0 = λ o. IfSome o (IsStray new fresh_fields trace) in
    record { trace = trace; read = read; printed = inr (stray, subst S some first, told) }
