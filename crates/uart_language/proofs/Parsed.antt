-- What parsing returns, by what the parser reads.
use Rattle.std.proofs.Common.{◌≡◌, ℕ, List, Result, Ok, Err, refl, ap, subst}
use Rattle.std.specs.Prelude.{IsOk}
use Rattle.uart_language.specs.declared.cause.Cause.{Cause}
use Rattle.uart_language.specs.declared.cause.ScriptError.{ScriptError}
use Rattle.uart_language.specs.declared.cause.ScriptError.TheVariants as errors
use Rattle.uart_language.specs.declared.parsing.Script.{Script}
use Rattle.uart_language.specs.Script.{Plan, plan_of, IsFaulty, IsParsed}
use Rattle.uart_language.specs.Reading.{Fault, script_of, Refuses, Parses}
use Rattle.uart_language.proofs.Exact.{fault, is_script, script_is_read, is_faulty, fault_is_told}

same_plan : (r : Result Plan Fault) (a b : Plan) → r ≡ Ok a → r ≡ Ok b → a ≡ b
same_plan (Ok x) a b p q = cc
same_plan (Err f) a b p q = absurd cc

same_fault : (r : Result Plan Fault) (a b : Fault) → r ≡ Err a → r ≡ Err b → a ≡ b
same_fault (Ok x) a b p q = absurd cc
same_fault (Err f) a b p q = cc

not_both : (r : Result Plan Fault) (plan : Plan) (f : Fault) → r ≡ Ok plan → r ≡ Err f → ⊥
not_both (Ok x) plan f p q = absurd cc
not_both (Err g) plan f p q = absurd cc

plan_where : (r : Result Plan Fault) → IsOk r → (plan : Plan) × (r ≡ Ok plan)
plan_where (Ok x) e = (x, refl)
plan_where (Err f) e = absurd cc

abbrev told : ℕ → Cause → Result Script ScriptError
told line cause = Err (errors.Refused line cause)

-- a refusal has the line and the cause that are reported
told_is : (line at : ℕ) (cause c : Cause) → told line cause ≡ told at c → fault line cause ≡ fault at c
told_is line at cause c e = cc

is_told : (line at : ℕ) (cause c : Cause) → fault line cause ≡ fault at c → told line cause ≡ told at c
is_told line at cause c e = ap (λ (f : Fault). told f.line f.cause) e

pub parsed : (bytes : List ℕ) (r : Result Script ScriptError) → Parses r (script_of bytes) → IsParsed bytes r
parsed bytes (Ok s) h = record {
  script = is_script bytes (plan_of s) h;
  only = λ plan p. same_plan (script_of bytes) plan (plan_of s) (script_is_read bytes plan p) h;
  refused =
      λ line cause.
      (λ e. absurd cc, λ f. absurd (not_both (script_of bytes) (plan_of s) (fault line cause) h (fault_is_told bytes line cause f)));
  memory = λ e. absurd cc;
}
parsed bytes (Err (errors.Refused line cause)) h = record {
  script = tt;
  only = tt;
  refused = λ at c. (
    λ e. subst (λ (f : Fault). IsFaulty bytes f.line f.cause) (told_is line at cause c e) (is_faulty bytes (fault line cause) h),
    λ f. is_told line at cause c (same_fault (script_of bytes) (fault line cause) (fault at c) h (fault_is_told bytes at c f)),
  );
  memory = λ e. absurd cc;
}
parsed bytes (Err errors.OutOfMemory) h =
    let p = plan_where (script_of bytes) h in
    record {
      script = tt;
      only = tt;
      refused = λ line cause.
          (λ e. absurd cc, λ f. absurd (not_both (script_of bytes) p.0 (fault line cause) p.1 (fault_is_told bytes line cause f)));
      memory = λ e. (p.0, is_script bytes p.0 p.1);
    }

-- a refusal of a part
pub refuses_whole : (e : ScriptError) (read : Result Plan Fault) → Refuses e read → Parses (Err e) read
refuses_whole (errors.Refused line cause) read r = r
refuses_whole errors.OutOfMemory read r = absurd r
