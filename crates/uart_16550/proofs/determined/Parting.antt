-- Lists that part at a read, and languages whose lists part only so.
--
-- One relation of two languages carries the proof that no call has a choice: two lists of theirs are equal, and then a fact holds,
-- or they part at a read. The fact is that the results are equal; or nothing; or, for two languages that cannot begin alike,
-- something that is never true. So sequences, waits and items in turn need one lemma each.
use Rattle.std.proofs.Common.{◌≡◌, ℕ, Bool, true, false, List, [], ◌∷◌, ◌++◌, refl, sym, ◌∙◌, ap, subst, append_assoc, append-nil, inl, inr}
use Rattle.std.proofs.Common.{◌⊎◌, MatchBool}
use Rattle.std.proofs.Math.Decide.{ℕ_discrete}
use Rattle.uart_spec.specs.Bits.{has}
use Rattle.uart_spec.specs.declared.access.Access.{Access}
use Rattle.uart_spec.specs.declared.access.Access.TheVariants.{Read, Write}
use Rattle.uart_16550.specs.Choice.{PartAtRead}
use Rattle.uart_16550.specs.Grammar.{Language, Settings, Only, Then, Asks, ReadsRegister, IfChecks, IfFifo, Never}

-- two lists are one, and this holds; or they part at a read
abbrev pub SameOrPart : Type 0 → List Access → List Access → Type 0
SameOrPart C l m = (C × (l ≡ m)) ⊎ PartAtRead l m

-- each list of the first language and each of the second are one list, and this holds; or they part at a read
pub record Determined (C : Type 0) (P Q : List Access → Type 0) : Type 0 where
  pub at : (l m : List Access) → P l → Q m → SameOrPart C l m

-- these lists part at this read
parts : {l m : List Access} (front : List Access) (register answer other : ℕ) (rest others : List Access) →
    l ≡ front ++ Read register answer ∷ rest → m ≡ front ++ Read register other ∷ others → (answer ≡ other → ⊥) → PartAtRead l m
parts front register answer other rest others is_one is_other differs = record {
  front = front;
  register = register;
  answer = answer;
  other_answer = other;
  rest = rest;
  other_rest = others;
  is_one = is_one;
  is_other = is_other;
  differs = differs;
}

-- two lists
part_to : {l l' m m' : List Access} → l ≡ l' → m ≡ m' → PartAtRead l' m' → PartAtRead l m
part_to p q t =
    parts t.front t.register t.answer t.other_answer t.rest t.other_rest (p ∙ t.is_one) (q ∙ t.is_other) t.differs

part_sym : {l m : List Access} → PartAtRead l m → PartAtRead m l
part_sym t =
    parts t.front t.register t.other_answer t.answer t.other_rest t.rest t.is_other t.is_one (λ same. t.differs (sym same))

-- whatever follows them
part_before : {l m : List Access} (more others : List Access) → PartAtRead l m → PartAtRead (l ++ more) (m ++ others)
part_before more others t =
    parts t.front t.register t.answer t.other_answer (t.rest ++ more) (t.other_rest ++ others)
    (ap (λ x. x ++ more) t.is_one ∙ append_assoc t.front (Read t.register t.answer ∷ t.rest) more)
    (ap (λ x. x ++ others) t.is_other ∙ append_assoc t.front (Read t.register t.other_answer ∷ t.other_rest) others) t.differs

-- after one list
part_after : {l m : List Access} (first : List Access) → PartAtRead l m → PartAtRead (first ++ l) (first ++ m)
part_after first t =
    parts (first ++ t.front) t.register t.answer t.other_answer t.rest t.other_rest
    (ap (λ x. first ++ x) t.is_one ∙ sym (append_assoc first t.front (Read t.register t.answer ∷ t.rest)))
    (ap (λ x. first ++ x) t.is_other ∙ sym (append_assoc first t.front (Read t.register t.other_answer ∷ t.other_rest))) t.differs

pub so : {C D : Type 0} {l m : List Access} → (C → D) → SameOrPart C l m → SameOrPart D l m
so f (inl same) = inl (f same.0, same.1)
so f (inr part) = inr part

pub so_sym : {C : Type 0} {l m : List Access} → SameOrPart ⊥ l m → SameOrPart C m l
so_sym (inl same) = absurd same.0
so_sym (inr part) = inr (part_sym part)

pub so_then : {C D : Type 0} {l m a b c d : List Access} → l ≡ a ++ b → m ≡ c ++ d → SameOrPart C a c → (C → SameOrPart D b d) →
    SameOrPart D l m
so_then {C} {D} {l} {m} {a} {b} {c} {d} p q (inr part) then = inr (part_to p q (part_before b d part))
so_then {C} {D} {l} {m} {a} {b} {c} {d} p q (inl same) then = after (then same.0)
  where
    after : SameOrPart D b d → SameOrPart D l m
    after (inl rest) = inl (rest.0, p ∙ ap (λ x. x ++ b) same.1 ∙ ap (λ x. c ++ x) rest.1 ∙ sym q)
    after (inr part) = inr (part_to (p ∙ ap (λ x. x ++ b) same.1) q (part_after c part))

-- a front and one list, which part within the front
pub so_front : {D : Type 0} {l m a : List Access} (b : List Access) → l ≡ a ++ b → SameOrPart ⊥ a m → SameOrPart D l m
so_front {D} {l} {m} {a} b p h = so_then {c = m} {d = []} p (sym (append-nil m)) h absurd

-- one read, and what follows it
pub so_read : {C : Type 0} {register a b : ℕ} {l m : List Access} → (a ≡ b → SameOrPart C l m) →
    SameOrPart ((a ≡ b) × C) (Read register a ∷ l) (Read register b ∷ m)
so_read {C} {register} {a} {b} {l} {m} rest = at (ℕ_discrete a b)
  where
    at : Dec (a ≡ b) → SameOrPart ((a ≡ b) × C) (Read register a ∷ l) (Read register b ∷ m)
    at (yes same) =
        so_then {a = Read register a ∷ []} {c = Read register b ∷ []} refl refl (inl (same, ap (λ (n : ℕ). Read register n ∷ []) same))
        (λ k. so (λ r. (k, r)) (rest k))
    at (no differs) = inr (parts [] register a b l m refl refl differs)

-- one write, and what follows it
pub so_write : {C : Type 0} {register a b : ℕ} {l m : List Access} → a ≡ b → SameOrPart C l m →
    SameOrPart C (Write register a ∷ l) (Write register b ∷ m)
so_write {C} {register} {a} {b} same rest =
    so_then {a = Write register a ∷ []} {c = Write register b ∷ []} refl refl (inl (tt {0}, ap (λ (n : ℕ). Write register n ∷ []) same))
    (λ t. rest)

-- languages
pub determined_so : {C D : Type 0} {P Q : List Access → Type 0} → (C → D) → Determined C P Q → Determined D P Q
determined_so f h = record { at = λ l m p q. so f (h.at l m p q) }

pub determined_sym : {C : Type 0} {P Q : List Access → Type 0} → Determined ⊥ P Q → Determined C Q P
determined_sym h = record { at = λ l m p q. so_sym (h.at m l q p) }

pub determined_among : {C : Type 0} {P Q R S : List Access → Type 0} → Determined C R S → ((l : List Access) → P l → R l) →
    ((l : List Access) → Q l → S l) →
    Determined C P Q
determined_among h f g = record { at = λ l m p q. h.at l m (f l p) (g m q) }

-- one of two languages, beside another one
pub determined_either : {C : Type 0} {P Q R : List Access → Type 0} → Determined C P R → Determined C Q R → Determined C (λ l. P l ⊎ Q l) R
determined_either {C} {P} {Q} {R} h k = record { at = at }
  where
    at : (l m : List Access) → P l ⊎ Q l → R m → SameOrPart C l m
    at l m (inl p) r = h.at l m p r
    at l m (inr q) r = k.at l m q r

-- one after the other: the second may rest on what the first decides
pub determined_then : {C D : Type 0} {s : Settings} {P P' Q Q' : Language} → Determined C (P s) (P' s) → (C → Determined D (Q s) (Q' s)) →
    Determined D (Then P Q s) (Then P' Q' s)
determined_then p q = record {
  at = λ l m t w. so_then t.whole w.whole (p.at t.front w.front t.first w.first) (λ c. (q c).at t.back w.back t.second w.second);
}

-- a list of the language and nothing more, beside one of another language and more
pub determined_front : {D : Type 0} {s : Settings} {P Q : Language} {R : List Access → Type 0} → Determined ⊥ (P s) R →
    Determined D (Then P Q s) R
determined_front h = record { at = λ l m t r. so_front t.back t.whole (h.at t.front m t.first r) }

-- no list at all
pub determined_never : {C : Type 0} (s : Settings) {Q : List Access → Type 0} → Determined C (Never s) Q
determined_never s = record { at = λ l m p q. absurd p }

-- one list
pub determined_only : {s : Settings} {xs ys : List Access} → xs ≡ ys → Determined (Unit {0}) (Only xs s) (Only ys s)
determined_only same = record { at = λ l m p q. inl (tt, p.is ∙ same ∙ sym q.is) }

-- an empty list before a language
pub determined_none : {C : Type 0} {s : Settings} {Q : Language} {R : List Access → Type 0} → Determined C (Q s) R →
    Determined C (Then (Only []) Q s) R
determined_none h = determined_among h (λ l t. rw (t.whole, t.first.is) t.second) (λ l r. r)

-- lists that begin with a read
pub so_is : {C : Type 0} {l l' m m' : List Access} → l ≡ l' → m ≡ m' → SameOrPart C l' m' → SameOrPart C l m
so_is p q (inl same) = inl (same.0, p ∙ same.1 ∙ sym q)
so_is p q (inr part) = inr (part_to p q part)

-- one read and nothing more
pub so_reads : {register a b : ℕ} → SameOrPart (a ≡ b) (Read register a ∷ []) (Read register b ∷ [])
so_reads = so (λ r. r.0) (so_read (λ same. inl (tt {0}, refl)))

pub read_determined : {s : Settings} (register a b : ℕ) → Determined (a ≡ b) (Only (Read register a ∷ []) s) (Only (Read register b ∷ []) s)
read_determined register a b = record { at = λ l m p q. so_is p.is q.is so_reads }

pub reads_determined : (s : Settings) (register : ℕ) → Determined (Unit {0}) (ReadsRegister register s) (ReadsRegister register s)
reads_determined s register = record { at = λ l m p q. so_is p.1 q.1 (so (λ same. tt {0}) so_reads) }

pub asks_determined : {s : Settings} (register bits : ℕ) (x y : Bool) → Determined (x ≡ y) (Asks register bits x s) (Asks register bits y s)
asks_determined register bits x y = record {
  at = λ l m p q. so_is p.is q.is (so (λ same. sym p.shows ∙ ap (λ (a : ℕ). has a bits) same ∙ q.shows) so_reads);
}

pub not_both : true ≡ false → ⊥
not_both e = let T : Bool → Type 0 = λ b. MatchBool b (Unit {0}) ⊥ in subst T e tt

pub asks_apart : {s : Settings} (register bits : ℕ) → Determined ⊥ (Asks register bits true s) (Asks register bits false s)
asks_apart register bits = determined_so not_both (asks_determined register bits true false)

pub asks_same : {s : Settings} (register bits : ℕ) (x : Bool) → Determined (Unit {0}) (Asks register bits x s) (Asks register bits x s)
asks_same register bits x = determined_so (λ same. tt {0}) (asks_determined register bits x x)

-- languages under a setting
pub determined_match : {C : Type 0} {P P' Q Q' : List Access → Type 0} (b : Bool) → Determined C P P' → Determined C Q Q' →
    Determined C (λ l. MatchBool b (P l) (Q l)) (λ l. MatchBool b (P' l) (Q' l))
determined_match true p q = p
determined_match false p q = q

pub determined_checks : {C : Type 0} (s : Settings) (P P' Q Q' : Language) → Determined C (P s) (P' s) → Determined C (Q s) (Q' s) →
    Determined C (IfChecks P Q s) (IfChecks P' Q' s)
determined_checks s P P' Q Q' p q = determined_match s.checks p q

pub determined_fifo : {C : Type 0} (s : Settings) (P P' Q Q' : Language) → Determined C (P s) (P' s) → Determined C (Q s) (Q' s) →
    Determined C (IfFifo P Q s) (IfFifo P' Q' s)
determined_fifo s P P' Q Q' p q = determined_match s.fifo p q

-- a language under a test, beside another language
pub determined_if : {C : Type 0} {P Q R : List Access → Type 0} (b : Bool) → Determined C P R → Determined C Q R →
    Determined C (λ l. MatchBool b (P l) (Q l)) R
determined_if true p q = p
determined_if false p q = q
