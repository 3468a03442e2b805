-- Several calls of a writer, by the writer's own relation alone.
use Rattle.std.specs.Prelude.{◌≡◌, ℕ, List, [], ◌∷◌, ◌++◌, take, Result, Ok, Err}

-- one call of a writer: its state before, the bytes, the result, its state after
pub record WriteLink (S E : Type 0) : Type 0 where
  pub before : S
  pub given : List ℕ
  pub answer : Result ℕ E
  pub after : S

-- the calls lead from the first state to the second, each as the writer's own relation allows
abbrev pub WriteChain : {S E : Type 0} → (S → List ℕ → Result ℕ E → S → Type 0) → S → List (WriteLink S E) → S → Type 0
WriteChain writes s [] t = t ≡ s
WriteChain writes s (link ∷ links) t =
    (link.before ≡ s) × writes link.before link.given link.answer link.after × WriteChain writes link.after links t

-- the bytes that a call accepted, and those that all calls accepted
abbrev pub taken_by : {E : Type 0} → List ℕ → Result ℕ E → List ℕ
taken_by given (Ok count) = take count given
taken_by given (Err e) = []

abbrev pub taken : {S E : Type 0} → List (WriteLink S E) → List ℕ
taken [] = []
taken (link ∷ links) = taken_by link.given link.answer ++ taken links

-- if Ok, the calls took all of the bytes; if an error, they took a beginning, and the last call returned that error
abbrev pub Takes : {S E T : Type 0} → List (WriteLink S E) → List ℕ → Result T E → Type 0
Takes links bytes (Ok x) = taken links ≡ bytes
Takes {S} {E} links bytes (Err e) = (front : List (WriteLink S E)) × (last : WriteLink S E) × (rest : List ℕ) ×
    (links ≡ front ++ last ∷ []) × (last.answer ≡ Err e) × (taken links ++ rest ≡ bytes)

-- promise: generic code over a writer can rest on the writer's contract alone
-- with: send_all, SendsThrough.takes
-- shown by: a_driver_is_a_writer, a_failing_writer_is_told
-- refused: uart_16550/write_sends_one_byte

-- bytes sent by repeated calls of a writer
pub record SendsThrough {S E T : Type 0} (writes : S → List ℕ → Result ℕ E → S → Type 0) (s : S) (bytes : List ℕ)
    (result : Result T E) (t : S) : Type 0 where
  pub links : List (WriteLink S E)
  pub chain : WriteChain writes s links t
  pub takes : Takes links bytes result
