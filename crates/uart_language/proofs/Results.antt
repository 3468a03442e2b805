-- Results of reading, whatever is read.
use Rattle.std.proofs.Common.{◌≡◌, Result, Ok, Err, refl}
use Rattle.uart_language.specs.declared.cause.Cause.{Cause}
use Rattle.uart_language.specs.Fields.{◌>>=◌}

-- a value that was read
abbrev pub read : {A : Type 0} → A → Result A Cause
read x = Ok x

-- what was read before the rest
pub bind_ok : {A B E : Type 0} (r : Result A E) (f : A → Result B E) (y : B) → (r >>= f) ≡ Ok y → (x : A) × (r ≡ Ok x) × (f x ≡ Ok y)
bind_ok (Ok x) f y e = (x, refl, e)
bind_ok (Err c) f y e = absurd cc

-- what is made of what is made of a value
pub made_twice : {A B C : Type 0} (r : Result A Cause) (make : A → B) (wrap : B → C) (c : C)
    → (r >>= (λ a. Ok (make a)) >>= (λ b. Ok (wrap b))) ≡ Ok c → (r >>= (λ a. Ok (wrap (make a)))) ≡ Ok c
made_twice (Ok a) make wrap c e = e
made_twice (Err d) make wrap c e = e

-- what is made of a value that was read
pub made_ok : {A B : Type 0} (r : Result A Cause) (x : A) (make : A → B) (y : B) → read x ≡ r → y ≡ make x
    → read y ≡ (r >>= (λ a. Ok (make a)))
made_ok r x make y e is = rw (← e, is) refl
