-- Texts made of whole lines, and what they say.
use Rattle.std.proofs.Common.{◌≡◌, ℕ, ◌+◌, ◌<◌, ◌≤◌, ◌==◌, ◌||◌, ◌%◌, ◌/◌, Bool, true, false, cond, refl, sym, ◌∙◌, ap, subst}
use Rattle.std.proofs.Common.{List, [], ◌∷◌, ◌++◌, length, map, append_assoc, arith, lit<, suc, zero}
use Rattle.std.specs.Prelude.{bytes_eq, codes, slice_index_or}
use Rattle.std.proofs.lemmas.List.{append-nil}
use Rattle.std.proofs.lemmas.List.Concat.{flat_map-append}
use Rattle.std.proofs.lemmas.Bool.{ne_eqb}
use Rattle.std.specs.Char.{digit_char}
use Rattle.std.specs.List.{AllByRecursion, flat_map, before_first, list_any, onto_first, slice_split}
use Rattle.uart_spec.specs.declared.access.Access.{Access}
use Rattle.uart_spec.specs.declared.access.Access.TheVariants.{Read, Write}
use Rattle.uart_language.specs.Output.{line}
use Rattle.uart_judges.specs.TraceLines.{before_remark, is_remark, without_end}
use Rattle.uart_judges.proofs.Ends.{end_none, end_other, end_space}
use Rattle.uart_trace.specs.Lines.{Adds, IsOneLine, begin_said, remark_line}
use Rattle.uart_trace.specs.Trace.{access_line, is_line_feed, line_said, printable, printable_byte, text_said}

-- ---- lines

or_false : (a b : Bool) → (a || b) ≡ false → (a ≡ false) × (b ≡ false)
or_false true b e = absurd (cc)
or_false false b e = (refl, e)

-- one line, followed by its end
split_line : (text rest : List ℕ) → IsOneLine text → slice_split is_line_feed (text ++ 10 ∷ rest) ≡ text ∷ slice_split is_line_feed rest
split_line [] rest one = refl
split_line (b ∷ text) rest one =
    let both = or_false (is_line_feed b) (list_any is_line_feed text) one in
    let after : slice_split is_line_feed (text ++ 10 ∷ rest) ≡ text ∷ slice_split is_line_feed rest = split_line text rest both.1 in
    let parts = slice_split is_line_feed (text ++ 10 ∷ rest) in
    ap (λ t. cond t ([] ∷ parts) (onto_first b parts)) both.0
    ∙ ap (onto_first b) after

-- text that ends in whole lines
split_lines : (lines : List (List ℕ)) → AllByRecursion IsOneLine lines
    → slice_split is_line_feed (flat_map line lines) ≡ lines ++ [] ∷ []
split_lines [] all = refl
split_lines (text ∷ lines) all =
    ap (slice_split is_line_feed) (append_assoc text (10 ∷ []) (flat_map line lines))
    ∙ split_line text (flat_map line lines) all.0 ∙ ap (λ (ls : List (List ℕ)). text ∷ ls) (split_lines lines all.1)

-- the parts between line feeds have none
onto_one : (b : ℕ) (parts : List (List ℕ)) → is_line_feed b ≡ false → AllByRecursion IsOneLine parts
    → AllByRecursion IsOneLine (onto_first b parts)
onto_one b [] other all = (ap (λ t. t || false) other, tt)
onto_one b (part ∷ parts) other all = (ap (λ t. t || list_any is_line_feed part) other ∙ all.0, all.1)

parts_by : (b : ℕ) (parts : List (List ℕ)) (t : Bool) → is_line_feed b ≡ t → AllByRecursion IsOneLine parts
    → AllByRecursion IsOneLine (cond t ([] ∷ parts) (onto_first b parts))
parts_by b parts true is all = (refl, all)
parts_by b parts false is all = onto_one b parts is all

pub parts_are_lines : (text : List ℕ) → AllByRecursion IsOneLine (slice_split is_line_feed text)
parts_are_lines [] = (refl, tt)
parts_are_lines (b ∷ text) = parts_by b (slice_split is_line_feed text) (is_line_feed b) refl (parts_are_lines text)

-- ---- what is appended

pub adds_none : (text : List ℕ) → Adds text text []
adds_none text = record { lines = []; whole = tt; text = sym (append-nil text); says = refl }

all_append : (xs ys : List (List ℕ)) → AllByRecursion IsOneLine xs → AllByRecursion IsOneLine ys → AllByRecursion IsOneLine (xs ++ ys)
all_append [] ys all more = more
all_append (x ∷ xs) ys all more = (all.0, all_append xs ys all.1 more)

pub adds_more : (a b c : List ℕ) (said more : List (List ℕ)) → Adds a b said → Adds b c more → Adds a c (said ++ more)
adds_more a b c said more first second = record {
  lines = first.lines ++ second.lines;
  whole = all_append first.lines second.lines first.whole second.whole;
  text = second.text ∙ ap (λ (t : List ℕ). t ++ flat_map line second.lines) first.text
      ∙ append_assoc a (flat_map line first.lines) (flat_map line second.lines)
      ∙ ap (λ (t : List ℕ). a ++ t) (sym (flat_map-append line first.lines second.lines));
  says = flat_map-append line_said first.lines second.lines ∙ ap (λ (l : List (List ℕ)). l ++ flat_map line_said second.lines) first.says
      ∙ ap (λ (l : List (List ℕ)). said ++ l) second.says;
}

-- the same, at a text that is equal
ends_as : {a b c : List ℕ} {said : List (List ℕ)} → Adds a b said → b ≡ c → Adds a c said
ends_as adds same = record { lines = adds.lines; whole = adds.whole; text = sym same ∙ adds.text; says = adds.says }

-- the same, said in other words
adds_same : (a b : List ℕ) (said other : List (List ℕ)) → said ≡ other → Adds a b said → Adds a b other
adds_same a b said other same adds =
    record { lines = adds.lines; whole = adds.whole; text = adds.text; says = adds.says ∙ same }

pub adds_last : (a b c : List ℕ) (said : List (List ℕ)) → Adds a b said → Adds b c [] → Adds a c said
adds_last a b c said first second =
    adds_same a c (said ++ []) said (append-nil said) (adds_more a b c said [] first second)

-- lines behind other text
pub adds_after : (a b : List ℕ) (said : List (List ℕ)) → Adds [] b said → Adds a (a ++ b) said
adds_after a b said adds =
    record { lines = adds.lines; whole = adds.whole; text = ap (λ (t : List ℕ). a ++ t) adds.text; says = adds.says }

pub adds_line : (a b text : List ℕ) → IsOneLine text → b ≡ a ++ line text → Adds a b (line_said text)
adds_line a b text one is = record {
  lines = text ∷ [];
  whole = (one, tt);
  text = is ∙ ap (λ (t : List ℕ). a ++ t) (sym (append-nil (line text)));
  says = append-nil (line_said text);
}

-- ---- remarks

no_text : line_said [] ≡ []
no_text = ap (λ (t : List ℕ). cond (length t == 0) [] (t ∷ [])) end_none

pub no_remark : (text : List ℕ) → line_said (35 ∷ text) ≡ []
no_remark text = ap (λ (t : List ℕ). cond (length t == 0) [] (t ∷ [])) end_none

some_remark : (b : ℕ) (text : List ℕ) → remark_line (b ∷ text) ≡ line (35 ∷ 32 ∷ b ∷ text)
some_remark b text =
    ap (λ t. cond t [] (line (35 ∷ 32 ∷ b ∷ text))) (ne_eqb (length (b ∷ text)) 0 (λ e. absurd (omega (arith, e))))

pub adds_remarks : (a : List ℕ) (parts : List (List ℕ)) → AllByRecursion IsOneLine parts → Adds a (a ++ flat_map remark_line parts) []
adds_remarks a [] all = ends_as (adds_none a) (sym (append-nil a))
adds_remarks a ([] ∷ parts) all = adds_remarks a parts all.1
adds_remarks a ((b ∷ part) ∷ parts) all =
    let text : List ℕ = 35 ∷ 32 ∷ b ∷ part in
    let first : Adds a (a ++ line text) (line_said text) = adds_line a (a ++ line text) text all.0 refl in
    let rest : Adds (a ++ line text) ((a ++ line text) ++ flat_map remark_line parts) [] = adds_remarks (a ++ line text) parts all.1 in
    let both : Adds a ((a ++ line text) ++ flat_map remark_line parts) [] =
    adds_same a ((a ++ line text) ++ flat_map remark_line parts) (line_said text ++ []) [] (ap (λ (l : List (List ℕ)). l ++ [])
    (no_remark (32 ∷ b ∷ part))) (adds_more a (a ++ line text) ((a ++ line text) ++ flat_map remark_line parts) (line_said text) []
    first rest) in
    ends_as both (append_assoc a (line text) (flat_map remark_line parts)
    ∙ ap (λ (t : List ℕ). a ++ (t ++ flat_map remark_line parts)) (sym (some_remark b part)))

pub adds_parts : (a b text : List ℕ) → b ≡ a ++ flat_map remark_line (slice_split is_line_feed text) → Adds a b []
adds_parts a b text is = ends_as (adds_remarks a (slice_split is_line_feed text) (parts_are_lines text)) (sym is)

pub adds_remark : (a b text : List ℕ) → IsOneLine text → b ≡ a ++ remark_line text → Adds a b []
adds_remark a b text one is =
    ends_as (adds_remarks a (text ∷ []) (one, tt)) (ap (λ (t : List ℕ). a ++ t) (append-nil (remark_line text)) ∙ sym is)

-- ---- accesses

digit_at_least : (d : ℕ) → 48 ≤ digit_char d
digit_at_least d = grind arith

other : (d b : ℕ) → b < 48 → (digit_char d == b) ≡ false
other d b small = ne_eqb (digit_char d) b (λ e. absurd (omega (arith, digit_at_least d, e, small)))

-- a line of an access, and what it says
place_said : (letter p v w : ℕ) (remark : List ℕ) → (letter == 35) ≡ false → (p == 35) ≡ false → (v == 35) ≡ false → (w == 35) ≡ false
    → (w == 32) ≡ false
    → line_said (letter ∷ 32 ∷ p ∷ 32 ∷ v ∷ w ∷ 32 ∷ 35 ∷ remark) ≡ (letter ∷ 32 ∷ p ∷ 32 ∷ v ∷ w ∷ []) ∷ []
place_said letter p v w remark hl hp hv hw space =
    let all : List ℕ = letter ∷ 32 ∷ p ∷ 32 ∷ v ∷ w ∷ 32 ∷ 35 ∷ remark in
    let made : List ℕ = letter ∷ 32 ∷ p ∷ 32 ∷ v ∷ w ∷ [] in
    let before : before_first is_remark all ≡ made ++ 32 ∷ [] = simp (hl, hp, hv, hw) refl in
    let whole : before_remark all ≡ made =
    ap without_end before ∙ end_space made 32 refl ∙ end_other (letter ∷ 32 ∷ p ∷ 32 ∷ v ∷ []) w space in
    ap (λ (t : List ℕ). cond (length t == 0) [] (t ∷ [])) whole

place_is_line : (letter p v w : ℕ) (remark : List ℕ) → (letter == 10) ≡ false → (p == 10) ≡ false → (v == 10) ≡ false → (w == 10) ≡ false
    → IsOneLine remark → IsOneLine (letter ∷ 32 ∷ p ∷ 32 ∷ v ∷ w ∷ 32 ∷ 35 ∷ 32 ∷ remark)
place_is_line letter p v w remark hl hp hv hw one = simp (hl, hp, hv, hw) one

adds_place : (a b : List ℕ) (letter p v w : ℕ) (remark : List ℕ) → letter < 128 → 64 < letter → IsOneLine remark
    → b ≡ a ++ line (letter ∷ 32 ∷ digit_char p ∷ 32 ∷ digit_char v ∷ digit_char w ∷ 32 ∷ 35 ∷ 32 ∷ remark)
    → Adds a b ((letter ∷ 32 ∷ digit_char p ∷ 32 ∷ digit_char v ∷ digit_char w ∷ []) ∷ [])
adds_place a b letter p v w remark below above one is =
    let text : List ℕ = letter ∷ 32 ∷ digit_char p ∷ 32 ∷ digit_char v ∷ digit_char w ∷ 32 ∷ 35 ∷ 32 ∷ remark in
    let no_end : (letter == 10) ≡ false = ne_eqb letter 10 (λ e. absurd (omega (arith, e, above))) in
    let no_sign : (letter == 35) ≡ false = ne_eqb letter 35 (λ e. absurd (omega (arith, e, above))) in
    let whole : IsOneLine text = place_is_line letter (digit_char p) (digit_char v) (digit_char w) remark no_end
    (other p 10 (lit< tt)) (other v 10 (lit< tt)) (other w 10 (lit< tt)) one in
    let says = place_said letter (digit_char p) (digit_char v) (digit_char w) (32 ∷ remark) no_sign
    (other p 35 (lit< tt)) (other v 35 (lit< tt)) (other w 35 (lit< tt)) (other w 32 (lit< tt)) in
    let added : Adds a b (line_said text) = adds_line a b text whole is in
    adds_same a b (line_said text) ((letter ∷ 32 ∷ digit_char p ∷ 32 ∷ digit_char v ∷ digit_char w ∷ []) ∷ []) says added

pub adds_access : (a b : List ℕ) (e : Access) (remark : List ℕ) → IsOneLine remark
    → b ≡ a ++ line (access_line e ++ (32 ∷ 35 ∷ 32 ∷ remark)) → Adds a b (access_line e ∷ [])
adds_access a b (Read offset answer) remark one is =
    adds_place a b 114 (offset % 8) (answer / 16) (answer % 16) remark (lit< tt) (lit< tt) one is
adds_access a b (Write offset value) remark one is =
    adds_place a b 119 (offset % 8) (value / 16) (value % 16) remark (lit< tt) (lit< tt) one is

part_is_line : (parts : List (List ℕ)) (k : ℕ) → AllByRecursion IsOneLine parts → IsOneLine (slice_index_or parts k [])
part_is_line [] k all = refl
part_is_line (part ∷ parts) zero all = all.0
part_is_line (part ∷ parts) (suc k) all = part_is_line parts k all.1

pub line_is_line : (text : List ℕ) (k : ℕ) → IsOneLine (slice_index_or (slice_split is_line_feed text) k [])
line_is_line text k = part_is_line (slice_split is_line_feed text) k (parts_are_lines text)

-- bytes as text are one line
printed_byte : (b : ℕ) → is_line_feed (printable_byte b) ≡ false
printed_byte b = grind arith

pub printable_is_line : (bytes : List ℕ) → IsOneLine (printable bytes)
printable_is_line [] = refl
printable_is_line (b ∷ bytes) = ap (λ t. t || list_any is_line_feed (printable bytes)) (printed_byte b) ∙ printable_is_line bytes

pub printed_is_line : (text bytes : List ℕ) → text ≡ printable bytes → IsOneLine text
printed_is_line text bytes is = ap (list_any is_line_feed) is ∙ printable_is_line bytes

-- ---- calls

-- text that begins with nothing
pub from_none : (a b : List ℕ) (said : List (List ℕ)) → a ≡ [] → Adds a b said → Adds [] b said
from_none a b said none adds = subst (λ (t : List ℕ). Adds t b said) none adds

pub begins_next : (a b line : List ℕ) → bytes_eq line (codes "next") ≡ true → b ≡ a ++ remark_line (codes "next")
    → Adds a b (begin_said line)
begins_next a b line is remark =
    adds_same a b [] (begin_said line) (sym (ap (λ t. cond t [] (line_said line)) is)) (adds_remark a b (codes "next") refl remark)

pub begins_other : (a b line : List ℕ) → bytes_eq line (codes "next") ≡ false → Adds a b (line_said line)
    → Adds a b (begin_said line)
begins_other a b line is adds =
    adds_same a b (line_said line) (begin_said line) (sym (ap (λ t. cond t [] (line_said line)) is)) adds

-- the whole text says this
pub text_says : (text : List ℕ) (said : List (List ℕ)) → Adds [] text said → text_said text ≡ said
text_says text said adds =
    ap (λ (t : List ℕ). flat_map line_said (slice_split is_line_feed t)) adds.text
    ∙ ap (flat_map line_said) (split_lines adds.lines adds.whole)
    ∙ flat_map-append line_said adds.lines ([] ∷ [])
    ∙ ap (λ (l : List (List ℕ)). flat_map line_said adds.lines ++ (l ++ [])) no_text
    ∙ append-nil (flat_map line_said adds.lines) ∙ adds.says
