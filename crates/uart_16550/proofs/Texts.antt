-- The expansion of a text, byte after byte.
use Rattle.std.proofs.Common.{◌≡◌, ◌+◌, ◌<◌, ◌≤◌, ℕ, List, [], ◌∷◌, ◌++◌, length, take, drop, get_or, refl, sym, ◌∙◌, ap, append_assoc}
use Rattle.std.proofs.Common.{append-nil, arith, length-append, min, ◌-◌, ◌^◌, Err}
use Rattle.std.proofs.lemmas.List.{take_more, take-append-le, take-append-drop}
use Rattle.std.proofs.Math.Seq.{take-append-add}
use Rattle.uart_spec.specs.declared.access.Access.{Access}
use Rattle.uart_16550.specs.Grammar.{Settings, Then}
use Rattle.uart_16550.specs.Transmit.{Round}
use Rattle.uart_16550.specs.Expansion.{expansion, expansion_of, SendsEach, SendsBeginning, SendsText}
use Rattle.uart_16550.proofs.Languages.{in_order_append}

pub expansion-append : (xs ys : List ℕ) → expansion (xs ++ ys) ≡ expansion xs ++ expansion ys
expansion-append [] ys = refl
expansion-append (x ∷ xs) ys =
    ap (λ zs. expansion_of x ++ zs) (expansion-append xs ys) ∙ sym (append_assoc (expansion_of x) (expansion xs) (expansion ys))

-- one byte more
pub expansion_more : (text : List ℕ) (i : ℕ) → i < length text →
    expansion (take (i + 1) text) ≡ expansion (take i text) ++ expansion_of (get_or text i 0)
expansion_more text i within =
    rw (take_more text i 0 within)
    (expansion-append (take i text) (get_or text i 0 ∷ []) ∙
    ap (λ zs. expansion (take i text) ++ zs) (append-nil (expansion_of (get_or text i 0))))

-- the bytes before a place, that at the place, and those after it
pub expansion_around : (text : List ℕ) (i : ℕ) → i < length text →
    expansion text ≡ expansion (take i text) ++ (expansion_of (get_or text i 0) ++ expansion (drop (i + 1) text))
expansion_around text i within =
    ap expansion (sym (take-append-drop (i + 1) text)) ∙ expansion-append (take (i + 1) text) (drop (i + 1) text)
    ∙ ap (λ zs. zs ++ expansion (drop (i + 1) text)) (expansion_more text i within)
    ∙ append_assoc (expansion (take i text)) (expansion_of (get_or text i 0)) (expansion (drop (i + 1) text))

-- a beginning that ends within the expansion of one byte
pub take_around : (text : List ℕ) (i n : ℕ) → i < length text → n < length (expansion_of (get_or text i 0)) →
    take (length (expansion (take i text)) + n) (expansion text) ≡ expansion (take i text) ++ take n (expansion_of (get_or text i 0))
take_around text i n within fewer =
    let few : n ≤ length (expansion_of (get_or text i 0)) = omega arith in
    rw (
      expansion_around text i within,
      take-append-add (expansion (take i text)) (expansion_of (get_or text i 0) ++ expansion (drop (i + 1) text)) n,
    )
    (ap (λ zs. expansion (take i text) ++ zs) (take-append-le n (expansion_of (get_or text i 0)) (expansion (drop (i + 1) text)) few))

pub length_around : (text : List ℕ) (i n : ℕ) → i < length text → n < length (expansion_of (get_or text i 0)) →
    length (expansion (take i text)) + n < length (expansion text)
length_around text i n within fewer = rw (expansion_around text i within) (simp length-append (omega arith))

-- what was sent before a stall within the expansion of one byte
pub sends_beginning : (text : List ℕ) (i n done : ℕ) → i < length text → n < length (expansion_of (get_or text i 0)) →
    done ≡ min (length (expansion (take i text)) + n) (2 ^ 64 - 1) →
    (T : Type 0) (s : Settings) (l : List Access) →
    Then (SendsEach (expansion (take i text))) (SendsBeginning (expansion_of (get_or text i 0)) n) s l →
    SendsText {T = T} text (Err (record { done = done })) s l
sends_beginning text i n done within fewer count T s l t =
    let stall = t.second.1 in (
      length (expansion (take i text)) + n,
      count,
      (
        length_around text i n within fewer,
        record {
          front = t.front ++ stall.front;
          back = stall.back;
          whole = rw (t.whole, stall.whole) (sym (append_assoc t.front stall.front stall.back));
          first =
              rw (take_around text i n within fewer)
              (in_order_append (λ byte. Round (byte ∷ [])) _ _ s t.front stall.front t.first stall.first);
          second = stall.second;
        },
      ),
    )
