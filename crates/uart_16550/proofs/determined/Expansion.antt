-- The texts of a terminal are determined.
use Rattle.std.proofs.Common.{◌≡◌, ◌<◌, ◌≤◌, ℕ, List, [], ◌∷◌, refl, sym, ◌∙◌, ap, arith, Result, Ok, Err, length, take, min, ◌-◌, ◌^◌}
use Rattle.std.proofs.lemmas.List.{length-take-le}
use Rattle.uart_spec.specs.declared.errors.StalledError.{StalledError}
use Rattle.uart_16550.specs.Grammar.{Settings, AllMisses}
use Rattle.uart_16550.specs.Transmit.{SendMiss, Round}
use Rattle.uart_16550.specs.Expansion.{expansion, SendsEach, SendsBeginning, SendsText, SendsStr}
use Rattle.uart_16550.proofs.determined.Parting.{Determined, so, determined_so, determined_sym}
use Rattle.uart_16550.proofs.determined.Repeated.{Items, items_all, items_more, items_short, alike_take, alike_begin, alike_self, given}
use Rattle.uart_16550.proofs.determined.Transmit.{round_same, vain_round, unsent_same}
use Rattle.uart_16550.proofs.determined.Receive.{stalled}

-- one byte, after its own wait
pub singles : (s : Settings) → Items s (λ x. Round (x ∷ [])) (λ x y. x ≡ y)
singles s = given (λ x. Round (x ∷ [])) (λ x. round_same s (x ∷ []))

each_same : (s : Settings) (bytes : List ℕ) → Determined (Unit {0}) (SendsEach bytes s) (SendsEach bytes s)
each_same s bytes =
    determined_so (λ t. tt) (items_all s (λ x. Round (x ∷ [])) (singles s) bytes bytes (alike_self bytes) refl)

-- a beginning, and all
begins_each : (s : Settings) (bytes : List ℕ) (n : ℕ) → Determined ⊥ (SendsBeginning bytes n s) (SendsEach bytes s)
begins_each s bytes n = record {
  at = λ l m p q.
      let within : n ≤ length bytes = omega (arith, p.0) in
      let few : length (take n bytes) < length bytes = omega (arith, p.0, length-take-le n bytes within) in
      (items_more s (λ x. Round (x ∷ [])) (AllMisses SendMiss) (singles s) (λ x. vain_round s (x ∷ [])) (take n bytes) bytes
      (alike_begin n bytes) few).at l m p.1 q;
}

begins_determined : (s : Settings) (bytes : List ℕ) (n k : ℕ) → Determined (n ≡ k) (SendsBeginning bytes n s) (SendsBeginning bytes k s)
begins_determined s bytes n k = record {
  at = λ l m p q.
      let in_n : n ≤ length bytes = omega (arith, p.0) in
      let in_k : k ≤ length bytes = omega (arith, q.0) in
      so (λ r. sym (length-take-le n bytes in_n) ∙ ap length r ∙ length-take-le k bytes in_k)
      ((items_short s (λ x. Round (x ∷ [])) (AllMisses SendMiss) (singles s) (λ x. vain_round s (x ∷ [])) (unsent_same s)
      (take n bytes) (take k bytes) (alike_take n k bytes)).at l m p.1 q.1);
}

pub text_determined : (s : Settings) (text : List ℕ) (a b : Result (Unit {0}) StalledError) →
    Determined (a ≡ b) (SendsText text a s) (SendsText text b s)
text_determined s text (Ok x) (Ok y) = determined_so (λ t. refl) (each_same s (expansion text))
text_determined s text (Ok x) (Err d) = record { at = λ l m p q. (determined_sym (begins_each s (expansion text) q.0)).at l m p q.2 }
text_determined s text (Err d) (Ok y) = record { at = λ l m p q. so absurd ((begins_each s (expansion text) p.0).at l m p.2 q) }
text_determined s text (Err d) (Err f) = record {
  at = λ l m p q.
      so (λ r. stalled d f (p.1 ∙ ap (λ (n : ℕ). min n (2 ^ 64 - 1)) r ∙ sym q.1))
      ((begins_determined s (expansion text) p.0 q.0).at l m p.2 q.2);
}

-- with an error of one value
pub str_determined : (s : Settings) (text : List ℕ) (E : Type 0) → ((x y : E) → x ≡ y) → (a b : Result (Unit {0}) E) →
    Determined (a ≡ b) (SendsStr text a s) (SendsStr text b s)
str_determined s text E one (Ok x) (Ok y) = determined_so (λ t. refl) (each_same s (expansion text))
str_determined s text E one (Ok x) (Err d) = record { at = λ l m p q. (determined_sym (begins_each s (expansion text) q.0)).at l m p q.1 }
str_determined s text E one (Err d) (Ok y) = record { at = λ l m p q. so absurd ((begins_each s (expansion text) p.0).at l m p.1 q) }
str_determined s text E one (Err d) (Err f) = record {
  at = λ l m p q.
      so (λ r. ap (λ (x : E). let r : Result (Unit {0}) E = Err x in r) (one d f))
      ((begins_determined s (expansion text) p.0 q.0).at l m p.1 q.1);
}
