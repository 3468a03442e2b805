-- Calls of a writer, one more at the end.
use Rattle.std.proofs.Common.{◌≡◌, ℕ, List, [], ◌∷◌, ◌++◌, take, drop, ◌+◌, refl, ◌∙◌, ap, sym, append_assoc, append-nil, Result}
use Rattle.std.proofs.lemmas.List.{take-append-drop, drop-drop}
use Rattle.uart_calls.specs.Links.{WriteLink, WriteChain, taken, taken_by}

pub chain_more : {S E : Type 0} (writes : S → List ℕ → Result ℕ E → S → Type 0) (s t u : S) (links : List (WriteLink S E)) (given : List ℕ)
    (answer : Result ℕ E) →
    WriteChain writes s links t → writes t given answer u →
    WriteChain writes s (links ++ record { before = t; given = given; answer = answer; after = u } ∷ []) u
chain_more writes s t u [] given answer h k = (h, k, refl)
chain_more writes s t u (l ∷ ls) given answer h k = (h.0, h.1, chain_more writes l.after t u ls given answer h.2 k)

pub taken_more : {S E : Type 0} (links : List (WriteLink S E)) (last : WriteLink S E) →
    taken (links ++ last ∷ []) ≡ taken links ++ taken_by last.given last.answer
taken_more [] last = append-nil (taken_by last.given last.answer)
taken_more (l ∷ ls) last =
    ap (λ xs. taken_by l.given l.answer ++ xs) (taken_more ls last) ∙
    sym (append_assoc (taken_by l.given l.answer) (taken ls) (taken_by last.given last.answer))

-- what the next call takes comes off the rest
pub joined_more : (front xs : List ℕ) (done count : ℕ) → front ++ drop done xs ≡ xs →
    (front ++ take count (drop done xs)) ++ drop (done + count) xs ≡ xs
joined_more front xs done count h =
    append_assoc front (take count (drop done xs)) (drop (done + count) xs) ∙
    ap (λ ys. front ++ (take count (drop done xs) ++ ys)) (sym (drop-drop count done xs)) ∙
    ap (λ ys. front ++ ys) (take-append-drop count (drop done xs)) ∙ h
