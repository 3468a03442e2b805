-- What was read of an input says what the whole input comes to.
use Rattle.std.proofs.Common.{◌≡◌, ℕ, ◌<◌, List, ◌++◌, length, Option, Some, None, Err, refl, sym, ap, subst, ◌∙◌, arith, append-nil}
use Rattle.std.proofs.Common.{length-append}
use Rattle.std.specs.Prelude.{IfSome}
use Rattle.std.specs.Io.KnownBytes.{IsAtEnd}
use Rattle.uart_language.specs.declared.cause.Cause.{Cause}
use Rattle.uart_language.specs.declared.cause.ScriptError.{ScriptError}
use Rattle.uart_language.specs.declared.cause.ScriptError.TheVariants as errors
use Rattle.uart_language.specs.Script.{Plan, IsScript, IsFaulty, long, empty, faulty, IsParsed}
use Rattle.uart_language.specs.declared.limits.TheConstants.{MOST_READ}
use Rattle.uart_play.specs.ScriptOutput.{IsOutput}
use Rattle.uart_language.specs.Streams.{IsReadText, play_error}
use Rattle.uart_play.specs.Play.{IsPlayed, Outcome}

-- a text that did not fill its room is the whole input
whole_is : (input rest text : List ℕ) → IsReadText (Some input) (Some rest) text → length text < MOST_READ → input ≡ text
whole_is input rest text w lt = w.consumes ∙ ap (λ (x : List ℕ). text ++ x) (w.to_end lt) ∙ append-nil text

same_fault : (input rest text : List ℕ) (line : ℕ) (cause : Cause) → IsReadText (Some input) (Some rest) text → IsFaulty text line cause
    → IsFaulty input line cause
same_fault input rest text line cause w (long lt n c) = long (omega (arith, ap length w.consumes, length-append text rest)) n c
same_fault input rest text line cause w (empty none n c) =
    let all = whole_is input rest text w (omega (arith, ap length none)) in empty (all ∙ none) n c
same_fault input rest text line cause w (faulty fits f) =
    let all = whole_is input rest text w (omega (arith, fits)) in subst (λ (x : List ℕ). IsFaulty x line cause) (sym all) (faulty fits f)

refused_by : (wold wnew : Option (List ℕ)) (input rest text : List ℕ) (e : ScriptError) → IsReadText (Some input) (Some rest) text
    → IsParsed text (Err e) → Outcome input (Err (play_error e)) wold wnew
refused_by wold wnew input rest text (errors.Refused line cause) w p =
    same_fault input rest text line cause w ((p.refused line cause).0 refl)
refused_by wold wnew input rest text errors.OutOfMemory w p = tt

-- a text that is no script
pub refused : (old new wold wnew : Option (List ℕ)) (text : List ℕ) (e : ScriptError) → IsReadText old new text → IsParsed text (Err e)
    → IfSome old (λ input. Outcome input (Err (play_error e)) wold wnew)
refused None new wold wnew text e w p = tt
refused (Some input) None wold wnew text e w p = absurd w.consumes
refused (Some input) (Some rest) wold wnew text e w p = refused_by wold wnew input rest text e w p

-- a text that is a script
pub played : (writes : List ℕ → Type 0) (old new : Option (List ℕ)) (text output : List ℕ) (plan : Plan) → IsReadText old new text
    → IsScript text plan → IsOutput plan output → writes output → IfSome old (λ input. IsPlayed input writes)
played writes None new text output plan w s o h = tt
played writes (Some input) None text output plan w s o h = absurd w.consumes
played writes (Some input) (Some rest) text output plan w s o h =
    let all = whole_is input rest text w (omega (arith, s.fits)) in
    subst (λ (x : List ℕ). IsPlayed x writes) (sym all) (record { plan = plan; output = output; script = s; printed = o; written = h })

pub is_all : (old new : Option (List ℕ)) (text : List ℕ) (plan : Plan) → IsReadText old new text → IsScript text plan → IsAtEnd new
is_all old new text plan w s = w.to_end (omega (arith, s.fits))
