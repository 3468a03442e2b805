-- How a recording goes on by a line.
use Rattle.std.proofs.Common.{◌≡◌, ◌∙◌, ◌+◌, ◌-◌, ◌^◌, ◌<◌, ◌≤◌, ℕ, true, false, refl, ap, subst, sym, arith, List, [], ◌∷◌, ◌++◌, length}
use Rattle.std.proofs.Common.{take, drop, Option, Some, None, Result, Ok, Err, inl, inr, length-append, ◌⊎◌}
use Rattle.std.specs.Prelude.{⊤, IfOk, MatchResult, is_ok}
use Rattle.std.specs.Io.KnownBytes.{Keeps, prepend_known}
use Rattle.std.proofs.lemmas.List.{length-take-le, length-drop, nil_from_length}
use Rattle.std.proofs.lemmas.Bool.{lt-ltb}
use Rattle.uart_language.specs.Text.{lines_of}
use Rattle.uart_judges.specs.RecordingLines.{says}
use Rattle.uart_judges.specs.Places.{place, read_as}
use Rattle.uart_judges.specs.Streams.{IsFilled, IsFirst, IsNext, after_line, next_in}
use Rattle.uart_judges.specs.declared.recording.cause.RecordingFault.{RecordingFault}
use Rattle.uart_judges.specs.declared.recording.cause.RecordingFault.TheVariants.{TooLong}
use Rattle.uart_judges.specs.declared.recording.entry.Entry.{Entry}
use Rattle.uart_judges.specs.declared.recording.limits.TheConstants.{MOST_LINE_BYTES}
use Rattle.uart_judges.specs.declared.recording.place.Place.{Place}
use Rattle.uart_judges.specs.declared.recording.reading.RecordingError.TheVariants as error

-- what is next from here is what was next at first
abbrev pub Goes : Place → Option (List ℕ) → Place → Option (List ℕ) → Type 0
Goes old None new left = ⊤
Goes old (Some bytes) new left =
    old.number + length bytes ≤ 2 ^ 64 - 1 →
    (rest : List ℕ) × (left ≡ Some rest) × (next_in (lines_of bytes) old ≡ next_in (lines_of rest) new)
    × (new.number + length rest ≤ old.number + length bytes)

pub goes_first : (old : Place) (all : Option (List ℕ)) → Goes old all old all
goes_first old None = tt
goes_first old (Some bytes) = λ few. (bytes, refl, refl, omega arith)

goes_same : (old new : Place) (all left more : Option (List ℕ)) → Goes old all new left → Keeps left more → Goes old all new more
goes_same old new None left more g k = tt
goes_same old new (Some bytes) None more g k = λ few. absurd (let e : None ≡ Some (g few).0 = (g few).1 in cc)
goes_same old new (Some bytes) (Some rest) None g k = absurd k
goes_same old new (Some bytes) (Some rest) (Some more) g k = λ few.
    let h = g few in (h.0, ap Some k ∙ h.1, h.2, h.3)

goes_kept : (old mid new : Place) (all left more : Option (List ℕ)) → Goes old all mid left → new ≡ mid → Keeps left more →
    Goes old all new more
goes_kept old mid new all left more g e k = goes_same old new all left more (subst (λ (p : Place). Goes old all p left) (sym e) g) k

-- what holds of the value that a call returned, whose error was made another
ok_value : {T E F : Type 0} (Q : E → Type 0) (P : T → Type 0) (r : Result T E) (m : Result T F) (x : T) →
    MatchResult r (λ y. m ≡ Ok y) Q → is_ok m ≡ is_ok r → m ≡ Ok x → IfOk r P → P x
ok_value Q P (Ok y) m x cases same is h = subst P (let e : y ≡ x = cc in e) h
ok_value Q P (Err e) m x cases same is h = absurd (let f : true ≡ false = ap is_ok (sym is) ∙ same in cc)

-- the window was filled: what is next is still what was next at first, and the window has the next line
pub fills : {E F : Type 0} (Q : E → Type 0) (old mid new : Place) (all left : Option (List ℕ)) (items : List ℕ)
    (more : Option (List ℕ)) (r : Result (Option ℕ) E) (m : Result (Option ℕ) F) (found : Option ℕ) →
    Goes old all mid left → new ≡ mid → Keeps left (prepend_known items more) → MatchResult r (λ y. m ≡ Ok y) Q →
    is_ok m ≡ is_ok r → m ≡ Ok found → IfOk r (λ count. IsFilled count items more) →
    Goes old all new (prepend_known items more) × IsFilled found items more
fills Q old mid new all left items more r m found g e k cases same is h = (
  goes_kept old mid new all left (prepend_known items more) g e k,
  ok_value Q (λ count. IsFilled count items more) r m found cases same is h,
)

-- at the end nothing is next
nothing_at : (old new : Place) (bytes rest : List ℕ) → rest ≡ [] →
    next_in (lines_of bytes) old ≡ next_in (lines_of rest) new → next_in (lines_of bytes) old ≡ (Ok None, (new, lines_of rest))
unfolding next_in lines_of
nothing_at old new bytes rest none e = e ∙ ap (λ l. next_in (lines_of l) new) none ∙ ap (λ l. (Ok None, (new, lines_of l))) (sym none)

ends_with : (old new : Place) (all left : Option (List ℕ)) → Goes old all new left →
    ((rest : List ℕ) → left ≡ Some rest → new.number + length rest ≤ 2 ^ 64 - 1 → rest ≡ []) → IsNext old all (Ok None) new left
ends_with old new None left g none = tt
ends_with old new (Some bytes) left g none = λ few.
    let h = g few in
    let empty : h.0 ≡ [] = none h.0 h.1 (omega (arith, h.3)) in
    (h.0, h.1, nothing_at old new bytes h.0 empty h.2, h.3)

pub ends_at_limit : (old new : Place) (all left : Option (List ℕ)) → Goes old all new left → 2 ^ 64 - 1 ≤ new.number →
    IsNext old all (Ok None) new left
ends_at_limit old new all left g most = ends_with old new all left g (λ rest e few. nil_from_length rest (omega arith))

pub ends_empty : (old new : Place) (all : Option (List ℕ)) (items : List ℕ) (left : Option (List ℕ)) →
    Goes old all new (prepend_known items left) → IsFilled None items left → IsNext old all (Ok None) new (prepend_known items left)
ends_empty old new all items None g f = ends_with old new all None g (λ rest e few. absurd (cc))
ends_empty old new all items (Some xs) g f =
    ends_with old new all (Some (items ++ xs)) g (λ rest e few. some_is _ _ e ∙ (λ i. f.0 i ++ f.1 i))
  where
    some_is : (a b : List ℕ) → Some a ≡ Some b → b ≡ a
    some_is a b e = cc

-- ---- a line

too_long : (number : ℕ) (line : List ℕ) → MOST_LINE_BYTES < length line → says number line ≡ Err TooLong
too_long number line long = rw (lt-ltb MOST_LINE_BYTES (length line) long) refl

-- after the next line, with so many bytes in the window: what was found, and the lines behind it unless it is too long
abbrev Read : Place → ℕ → List ℕ → List ℕ → Result (Option Entry) RecordingFault → Place → Type 0
Read old count items more found new =
    (lines : List (List ℕ)) × (next_in (lines_of (items ++ more)) old ≡ after_line lines (next_in lines) (found, new))
    × ((lines ≡ lines_of (drop (count + 1) items ++ more)) ⊎ (found ≡ Err TooLong))

one_line : (old : Place) (bytes line : List ℕ) (lines : List (List ℕ)) → lines_of bytes ≡ line ∷ lines →
    next_in (lines_of bytes) old ≡ after_line lines (next_in lines) (read_as old (says (old.number + 1) line))
unfolding next_in
one_line old bytes line lines e = ap (λ l. next_in l old) e

read_line : (old : Place) (count : ℕ) (items more : List ℕ) (found : Result (Option Entry) RecordingFault) (new : Place) →
    count ≤ length items → IsFirst count items more →
    read_as old (says (old.number + 1) (take count items)) ≡ (found, new) → Read old count items more found new
read_line old count items more found new fits (inl e) r = (
  lines_of (drop (count + 1) items ++ more),
  one_line old _ _ _ e ∙ ap (after_line _ (next_in _)) r,
  inl refl,
)
read_line old count items more found new fits (inr (long, (line, lines, e, far))) r =
    let number : ℕ = old.number + 1 in
    let cut : length (take count items) ≡ count = length-take-le count items fits in
    let here : says number (take count items) ≡ Err TooLong = too_long number (take count items) (omega arith) in
    let there : says number line ≡ says number (take count items) = too_long number line far ∙ sym here in
    let fault : (found, new) ≡ (Err TooLong, place (old.number + 1) old.last) = sym r ∙ ap (read_as old) here in (
      lines,
      one_line old _ _ _ e ∙ ap (λ s. after_line lines (next_in lines) (read_as old s)) there
          ∙ ap (after_line lines (next_in lines)) r,
      inr (ap (λ p. p.0) fault),
    )

-- behind a line that was read, as many lines can be counted as before it
module _ (old mid new : Place) (bytes items more : List ℕ) (count : ℕ) (rest : List ℕ) where
  same_rest : Some (items ++ more) ≡ Some rest → rest ≡ items ++ more
  same_rest e = cc

  counted_on : rest ≡ items ++ more → mid.number + length rest ≤ old.number + length bytes → 0 < length items →
      new.number ≡ mid.number + 1 → new.number + length (drop (count + 1) items ++ more) ≤ old.number + length bytes
  counted_on same most some counted =
      let left : length (drop (count + 1) items ++ more) ≡ length items - (count + 1) + length more =
      length-append (drop (count + 1) items) more ∙ ap (λ (n : ℕ). n + length more) (length-drop (count + 1) items) in
      let had : length rest ≡ length items + length more = ap length same ∙ length-append items more in
      omega (arith, most)

-- a line that is no entry is passed
passes_by : (old mid new : Place) (bytes items more : List ℕ) (count : ℕ) → Goes old (Some bytes) mid (Some (items ++ more)) →
    0 < length items → new.number ≡ mid.number + 1 → Read mid count items more (Ok None) new →
    Goes old (Some bytes) new (Some (drop (count + 1) items ++ more))
passes_by old mid new bytes items more count g some counted (lines, e, inr f) = absurd (cc)
passes_by old mid new bytes items more count g some counted (lines, e, inl f) = λ few.
    let h = g few in
    let same : h.0 ≡ items ++ more = same_rest old mid new bytes items more count h.0 h.1 in (
      drop (count + 1) items ++ more,
      refl,
      h.2 ∙ ap (λ l. next_in (lines_of l) mid) same ∙ (e ∙ ap (λ l. next_in l new) f),
      counted_on old mid new bytes items more count h.0 same h.3 some counted,
    )

pub passes : (old mid new : Place) (all left : Option (List ℕ)) (items : List ℕ) (count : ℕ) →
    Goes old all mid (prepend_known items left) → IsFilled (Some count) items left → new.number ≡ mid.number + 1 →
    read_as mid (says (mid.number + 1) (take count items)) ≡ (Ok None, new) →
    Goes old all new (prepend_known (drop (count + 1) items) left)
passes old mid new None left items count g f n r = tt
passes old mid new (Some bytes) None items count g f n r = λ few. absurd (let e : None ≡ Some (g few).0 = (g few).1 in cc)
passes old mid new (Some bytes) (Some more) items count g f n r =
    passes_by old mid new bytes items more count g f.0 n (read_line mid count items more (Ok None) new f.1 f.2 r)

-- an entry is returned
gives_entry : (old mid new : Place) (bytes items more : List ℕ) (count : ℕ) (entry : Entry) →
    Goes old (Some bytes) mid (Some (items ++ more)) → 0 < length items → new.number ≡ mid.number + 1 →
    Read mid count items more (Ok (Some entry)) new →
    IsNext old (Some bytes) (Ok (Some entry)) new (Some (drop (count + 1) items ++ more))
gives_entry old mid new bytes items more count entry g some counted (lines, e, inr f) = absurd (cc)
gives_entry old mid new bytes items more count entry g some counted (lines, e, inl f) = λ few.
    let h = g few in
    let same : h.0 ≡ items ++ more = same_rest old mid new bytes items more count h.0 h.1 in (
      drop (count + 1) items ++ more,
      refl,
      h.2 ∙ ap (λ l. next_in (lines_of l) mid) same ∙ (e ∙ ap (λ l. (Ok (Some entry), (new, l))) f),
      counted_on old mid new bytes items more count h.0 same h.3 some counted,
    )

pub ends_entry : (old mid new : Place) (all left : Option (List ℕ)) (items : List ℕ) (count : ℕ) (entry : Entry) →
    Goes old all mid (prepend_known items left) → IsFilled (Some count) items left → new.number ≡ mid.number + 1 →
    read_as mid (says (mid.number + 1) (take count items)) ≡ (Ok (Some entry), new) →
    IsNext old all (Ok (Some entry)) new (prepend_known (drop (count + 1) items) left)
ends_entry old mid new None left items count entry g f n r = tt
ends_entry old mid new (Some bytes) None items count entry g f n r =
    λ few. absurd (let e : None ≡ Some (g few).0 = (g few).1 in cc)
ends_entry old mid new (Some bytes) (Some more) items count entry g f n r =
    gives_entry old mid new bytes items more count entry g f.0 n
    (read_line mid count items more (Ok (Some entry)) new f.1 f.2 r)

-- a fault is returned
gives_fault : (old mid new : Place) (bytes items more : List ℕ) (count number : ℕ) (fault : RecordingFault) (left : Option (List ℕ)) →
    Goes old (Some bytes) mid (Some (items ++ more)) → Read mid count items more (Err fault) new →
    IsNext old (Some bytes) (Err (error.Faulty number fault)) new left
gives_fault old mid new bytes items more count number fault left g (lines, e, f) = λ few.
    let h = g few in
    let same : h.0 ≡ items ++ more = same_rest old mid new bytes items more count h.0 h.1 in
    let found : next_in (lines_of bytes) old ≡ (Err fault, (new, lines)) =
    h.2 ∙ (ap (λ l. next_in (lines_of l) mid) same ∙ e) in
    (ap (λ t. t.0) found, ap (λ t. t.1.0) found)

pub ends_fault : (old mid new : Place) (all left more : Option (List ℕ)) (items : List ℕ) (count number : ℕ) (fault : RecordingFault) →
    Goes old all mid (prepend_known items left) → IsFilled (Some count) items left →
    read_as mid (says (mid.number + 1) (take count items)) ≡ (Err fault, new) →
    IsNext old all (Err (error.Faulty number fault)) new more
ends_fault old mid new None left more items count number fault g f r = tt
ends_fault old mid new (Some bytes) None more items count number fault g f r =
    λ few. absurd (let e : None ≡ Some (g few).0 = (g few).1 in cc)
ends_fault old mid new (Some bytes) (Some rest) more items count number fault g f r =
    gives_fault old mid new bytes items rest count number fault more g
    (read_line mid count items rest (Err fault) new f.1 f.2 r)
