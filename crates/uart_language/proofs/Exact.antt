-- The parser reads exactly the scripts, and reports exactly the first fault of other bytes.
use Rattle.std.proofs.Common.{◌≡◌, ℕ, ◌+◌, ◌≤◌, Bool, true, false, cond, ltb, List, [], ◌∷◌, ◌++◌, length, drop, Option, Some}
use Rattle.std.proofs.Common.{None, Result, Ok, Err, refl, sym, ap, subst, ◌∙◌, arith, inl, inr, ◌⊎◌}
use Rattle.std.specs.List.{position_or_len}
use Rattle.std.proofs.lemmas.Bool.{cases_lt, ltb-true, ltb-false, lt-ltb, le-ltb}
use Rattle.uart_language.specs.declared.cause.Cause.{Cause}
use Rattle.uart_language.specs.declared.cause.Cause.TheVariants.{Misplaced, TooLong}
use Rattle.uart_language.specs.declared.items.Header.{Header}
use Rattle.uart_language.specs.declared.limits.TheConstants.{MOST_BYTES, MOST_LINES}
use Rattle.uart_language.specs.Text.{lines_of}
use Rattle.uart_language.specs.Fields.{◌>>=◌}
use Rattle.uart_language.specs.Words.{fault_of, is_limited, place_of}
use Rattle.uart_language.specs.Sayings.{Saying}
use Rattle.uart_language.specs.Script.{Plan, SayInOrder, IsScript, fault_at, AreFaultless, IsFirstFault, IsFaulty, long, empty, faulty}
use Rattle.uart_language.specs.Items.{item_at, header_at}
use Rattle.uart_language.specs.Reading.{Fault, on_line, numbered, before, sayings_from, sayings_after_first, plan_by, planned}
use Rattle.uart_language.specs.Reading.{from_lines, script_of}
use Rattle.uart_language.proofs.Lines.{lines_first, is_end}
use Rattle.uart_language.proofs.Results.{bind_ok}
use Rattle.uart_language.proofs.Meanings.{not_first, says_what_is_read, reads_what_is_said}
use Rattle.uart_language.proofs.Faults.{line_fault, header_fault, says_header, reads_header}

-- ---- values and faults

abbrev pub fault : ℕ → Cause → Fault
fault number cause = record { line = number; cause = cause }

value_where : {A E : Type 0} (r : Result A E) → fault_of r ≡ None → (x : A) × (r ≡ Ok x)
value_where (Ok x) e = (x, refl)
value_where (Err f) e = absurd cc

fault_where_told : {A E : Type 0} (r : Result A E) (f : E) → fault_of r ≡ Some f → r ≡ Err f
fault_where_told (Ok x) f e = absurd cc
fault_where_told (Err g) f e = cc

-- ---- one line with its number

-- a numbered line is read, or has the fault of the definition
numbered_ok : (number : ℕ) (line : List ℕ) (long : Bool) (r : Result Saying Cause) (s : Saying)
    → on_line number (cond long (Err TooLong) r) ≡ Ok s → (long ≡ false) × (r ≡ Ok s)
numbered_ok number line true r s e = absurd cc
numbered_ok number line false (Ok x) s e = (refl, cc)
numbered_ok number line false (Err c) s e = absurd cc

is_line : (limited : Bool) (number : ℕ) (line : List ℕ) (s : Saying) → numbered limited number line ≡ Ok s
    → (number ≤ MOST_LINES) × (item_at (place_of limited number) line ≡ Ok s)
is_line limited number line s e =
    let r = numbered_ok number line _ (item_at (place_of limited number) line) s e in (ltb-false MOST_LINES number r.0, r.1)

numbered_is : (limited : Bool) (number : ℕ) (line : List ℕ) → number ≤ MOST_LINES
    → numbered limited number line ≡ on_line number (item_at (place_of limited number) line)
numbered_is limited number line most = rw (le-ltb MOST_LINES number most) refl

abbrev at_line : ℕ → Option Cause → Option Fault
at_line number None = None
at_line number (Some c) = Some (fault number c)

on_line_fault : {A : Type 0} (number : ℕ) (r : Result A Cause) → fault_of (on_line number r) ≡ at_line number (fault_of r)
on_line_fault number (Ok x) = refl
on_line_fault number (Err c) = refl

numbered_fault : (limited : Bool) (number : ℕ) (line : List ℕ) → 2 ≤ number
    → fault_of (numbered limited number line) ≡ at_line number (fault_at limited number line)
numbered_fault limited number line le = elim (cases_lt MOST_LINES number) [
  | inl lt ↦ rw (lt-ltb MOST_LINES number lt) refl
  | inr most ↦ ap fault_of (numbered_is limited number line most) ∙ on_line_fault number (item_at (place_of limited number) line)
      ∙ ap (at_line number) (line_fault limited number line le most)
]

-- a numbered line that the definition finds no fault with is read
is_numbered : (limited : Bool) (number : ℕ) (line : List ℕ) → 2 ≤ number → fault_at limited number line ≡ None
    → (s : Saying) × (numbered limited number line ≡ Ok s)
is_numbered limited number line le e =
    value_where (numbered limited number line) (numbered_fault limited number line le ∙ ap (at_line number) e)

-- and one that it finds a fault with is refused by it
is_refused : (limited : Bool) (number : ℕ) (line : List ℕ) (c : Cause) → 2 ≤ number → fault_at limited number line ≡ Some c
    → numbered limited number line ≡ Err (fault number c)
is_refused limited number line c le e =
    fault_where_told (numbered limited number line) (fault number c) (numbered_fault limited number line le ∙ ap (at_line number) e)

no_fault_at : (number : ℕ) (o : Option Cause) → None ≡ at_line number o → o ≡ None
no_fault_at number None e = refl
no_fault_at number (Some c) e = absurd cc

fault_is_at : (number : ℕ) (o : Option Cause) (f : Fault) → Some f ≡ at_line number o → (f.line ≡ number) × (o ≡ Some f.cause)
fault_is_at number None f e = absurd cc
fault_is_at number (Some c) f e =
    let same : f ≡ fault number c = cc in (ap (λ (x : Fault). x.line) same, ap (λ (x : Fault). Some x.cause) (sym same))

-- ---- the lines after the first

before_ok : (r : Result Saying Fault) (rest : Result (List Saying) Fault) (sayings : List Saying) → before r rest ≡ Ok sayings
    → (s : Saying) × (ss : List Saying) × (r ≡ Ok s) × (rest ≡ Ok ss) × (s ∷ ss ≡ sayings)
before_ok (Ok s) (Ok ss) sayings e = (s, ss, refl, refl, cc)
before_ok (Ok s) (Err f) sayings e = absurd cc
before_ok (Err f) rest sayings e = absurd cc

before_err : (r : Result Saying Fault) (rest : Result (List Saying) Fault) (f : Fault) → before r rest ≡ Err f
    → (r ≡ Err f) ⊎ ((s : Saying) × (r ≡ Ok s) × (rest ≡ Err f))
before_err (Ok s) (Ok ss) f e = absurd cc
before_err (Ok s) (Err g) f e = inr (s, refl, cc)
before_err (Err g) rest f e = inl cc

-- what is read of lines is what they say, and they are not too many
all_said : (limited : Bool) (number : ℕ) (lines : List (List ℕ)) (sayings : List Saying) → 2 ≤ number → number ≤ MOST_LINES + 1
    → sayings_from limited number lines ≡ Ok sayings
    → SayInOrder limited number lines sayings × (number + length lines ≤ MOST_LINES + 1)
unfolding sayings_from
all_said limited number [] sayings le most e =
    let none : [] ≡ sayings = cc in (subst (λ (x : List Saying). SayInOrder limited number [] x) none tt, omega arith)
all_said limited number (line ∷ lines) sayings le most e =
    let r = before_ok (numbered limited number line) (sayings_from limited (number + 1) lines) sayings e in
    let first = is_line limited number line r.0 r.2 in
    let said = says_what_is_read (place_of limited number) line r.0 (not_first limited number le) first.1 in
    let rest = all_said limited (number + 1) lines r.1 (omega arith) (omega (arith, first.0)) r.3 in (
      subst (λ (x : List Saying). SayInOrder limited number (line ∷ lines) x) r.4 (said, rest.0),
      omega (arith, rest.1),
    )

all_read : (limited : Bool) (number : ℕ) (lines : List (List ℕ)) (sayings : List Saying) → 2 ≤ number
    → number + length lines ≤ MOST_LINES + 1 → SayInOrder limited number lines sayings
    → sayings_from limited number lines ≡ Ok sayings
unfolding sayings_from
all_read limited number [] [] le most h = refl
all_read limited number [] (s ∷ sayings) le most h = absurd h
all_read limited number (line ∷ lines) [] le most h = absurd h
all_read limited number (line ∷ lines) (s ∷ sayings) le most h =
    let said = reads_what_is_said (place_of limited number) line s (not_first limited number le) h.0 in
    let first = numbered_is limited number line (omega arith) ∙ ap (on_line number) said in
    let rest = all_read limited (number + 1) lines sayings (omega arith) (omega arith) h.1 in
    rw (first, rest) refl

first_is_told : (limited : Bool) (number : ℕ) (line : List ℕ) (lines : List (List ℕ)) (f : Fault) → 2 ≤ number
    → numbered limited number line ≡ Err f → IsFirstFault limited number (line ∷ lines) f.line f.cause
first_is_told limited number line lines f le e =
    let told = fault_is_at number (fault_at limited number line) f (sym (ap fault_of e) ∙ numbered_fault limited number line le) in
    record {
      before = [];
      line = line;
      after = lines;
      cut = refl;
      faultless = tt;
      number_is = omega (arith, told.0);
      faulty = rw told.0 told.1;
    }

later_is_told : (limited : Bool) (number : ℕ) (line : List ℕ) (lines : List (List ℕ)) (at : ℕ) (c : Cause)
    → fault_at limited number line ≡ None → IsFirstFault limited (number + 1) lines at c
    → IsFirstFault limited number (line ∷ lines) at c
later_is_told limited number line lines at c none later = record {
  before = line ∷ later.before;
  line = later.line;
  after = later.after;
  cut = ap (λ (x : List (List ℕ)). line ∷ x) later.cut;
  faultless = (none, later.faultless);
  number_is = omega (arith, later.number_is);
  faulty = later.faulty;
}

-- the fault that is reported for lines is their first
told_is_first : (limited : Bool) (number : ℕ) (lines : List (List ℕ)) (f : Fault) → 2 ≤ number
    → sayings_from limited number lines ≡ Err f → IsFirstFault limited number lines f.line f.cause
unfolding sayings_from
told_is_first limited number [] f le e = absurd cc
told_is_first limited number (line ∷ lines) f le e =
    elim (before_err (numbered limited number line) (sayings_from limited (number + 1) lines) f e) [
      | inl here ↦ first_is_told limited number line lines f le here
      | inr later ↦
          let same = sym (ap fault_of later.1) ∙ numbered_fault limited number line le in
          let none = no_fault_at number (fault_at limited number line) same in
          let rest = told_is_first limited (number + 1) lines f (omega arith) later.2 in
          later_is_told limited number line lines f.line f.cause none rest
    ]

first_is : (limited : Bool) (start : ℕ) (front : List (List ℕ)) (line : List ℕ) (after : List (List ℕ)) (number : ℕ) (c : Cause)
    → 2 ≤ start → AreFaultless limited start front → number ≡ start + length front → fault_at limited number line ≡ Some c
    → sayings_from limited start (front ++ line ∷ after) ≡ Err (fault number c)
unfolding sayings_from
first_is limited start [] line after number c le none e told =
    let here : number ≡ start = omega (arith, e) in
    rw here (rw (is_refused limited start line c le (rw here at told)) refl)
first_is limited start (l ∷ front) line after number c le none e told =
    let said = is_numbered limited start l le none.0 in
    rw (said.1, first_is limited (start + 1) front line after number c (omega arith) none.1 (omega (arith, e)) told) refl

-- ---- a whole script

on_line_ok : {A : Type 0} (number : ℕ) (r : Result A Cause) (x : A) → on_line number r ≡ Ok x → r ≡ Ok x
on_line_ok number (Ok y) x e = cc
on_line_ok number (Err c) x e = absurd cc

planned_ok : (header : Header) (r : Result (List Saying) Fault) (plan : Plan) → planned header r ≡ Ok plan
    → (sayings : List Saying) × (r ≡ Ok sayings) × (plan_by header sayings ≡ plan)
unfolding planned
planned_ok header (Ok sayings) plan e = (sayings, refl, cc)
planned_ok header (Err f) plan e = absurd cc

planned_err : (header : Header) (r : Result (List Saying) Fault) (f : Fault) → planned header r ≡ Err f → r ≡ Err f
unfolding planned
planned_err header (Ok sayings) f e = absurd cc
planned_err header (Err g) f e = cc

is_script_by : (bytes first : List ℕ) (others : List (List ℕ)) (plan : Plan) → length bytes ≤ MOST_BYTES → lines_of bytes ≡ first ∷ others
    → from_lines (first ∷ others) ≡ Ok plan → IsScript bytes plan
unfolding from_lines
is_script_by bytes first others plan fits l e =
    let h = bind_ok (on_line 1 (header_at first)) (λ header. planned header (sayings_after_first others)) plan e in
    let p = planned_ok h.0 (sayings_after_first others) plan h.2 in
    let said = all_said (is_limited others) 2 others p.0 (omega arith) (omega arith) p.1 in
    subst (λ (x : Plan). IsScript bytes x) p.2 (record {
      first = first;
      others = others;
      sayings = p.0;
      fits = fits;
      lines = l;
      few = omega (arith, said.1);
      header = says_header first h.0 (on_line_ok 1 (header_at first) h.0 h.1);
      body = said.0;
      limit = refl;
      driver_fifo_size = refl;
      events = refl;
      calls = refl;
    })

script_by_lines : (bytes : List ℕ) (lines : List (List ℕ)) (plan : Plan) → length bytes ≤ MOST_BYTES → lines_of bytes ≡ lines
    → from_lines lines ≡ Ok plan → IsScript bytes plan
unfolding from_lines
script_by_lines bytes [] plan fits l e = absurd cc
script_by_lines bytes (first ∷ others) plan fits l e = is_script_by bytes first others plan fits l e

fits_by : {A : Type 0} (long : Bool) (r : Result A Fault) (x : A) → cond long (Err (fault 0 TooLong)) r ≡ Ok x → (long ≡ false) × (r ≡ Ok x)
fits_by true r x e = absurd cc
fits_by false r x e = (refl, e)

-- what is read is a script that the bytes are
pub is_script : (bytes : List ℕ) (plan : Plan) → script_of bytes ≡ Ok plan → IsScript bytes plan
unfolding script_of
is_script bytes plan e =
    let r = fits_by _ (from_lines (lines_of bytes)) plan e in script_by_lines bytes (lines_of bytes) plan (ltb-false _ _ r.0) refl r.1

-- a script that the bytes are is read
pub script_is_read : (bytes : List ℕ) (plan : Plan) → IsScript bytes plan → script_of bytes ≡ Ok plan
unfolding script_of from_lines planned
script_is_read bytes plan s =
    let read = all_read (is_limited s.others) 2 s.others s.sayings (omega arith) (omega (arith, s.few)) s.body in
    rw (
      le-ltb MOST_BYTES (length bytes) s.fits,
      s.lines,
      reads_header s.first plan.chip plan.fifo_size plan.auto_flow plan.ticks plan.wire_capacity plan.cuts s.header,
      read,
      ← s.limit,
      ← s.driver_fifo_size,
      ← s.events,
      ← s.calls,
    ) refl

no_lines : (bytes : List ℕ) → lines_of bytes ≡ [] → bytes ≡ []
no_lines [] e = refl
no_lines (b ∷ bytes) e = let cons = lines_first (b ∷ bytes) (position_or_len is_end (b ∷ bytes)) (omega arith) refl in absurd cc

header_told : (first : List ℕ) (others : List (List ℕ)) (c : Cause) → header_at first ≡ Err c
    → IsFirstFault (is_limited others) 1 (first ∷ others) 1 c
header_told first others c e = record {
  before = [];
  line = first;
  after = others;
  cut = refl;
  faultless = tt;
  number_is = refl;
  faulty = sym (header_fault (is_limited others) first) ∙ ap fault_of e;
}

lines_told : (first : List ℕ) (others : List (List ℕ)) (r : Result Header Cause) (f : Fault) → header_at first ≡ r
    → (on_line 1 r >>= (λ header. planned header (sayings_after_first others))) ≡ Err f
    → IsFirstFault (is_limited others) 1 (first ∷ others) f.line f.cause
lines_told first others (Err c) f h e =
    let told : fault 1 c ≡ f = cc in
    subst (λ (x : Fault). IsFirstFault (is_limited others) 1 (first ∷ others) x.line x.cause) told (header_told first others c h)
lines_told first others (Ok header) f h e =
    later_is_told (is_limited others) 1 first others f.line f.cause (sym (header_fault (is_limited others) first) ∙ ap fault_of h)
    (told_is_first (is_limited others) 2 others f (omega arith) (planned_err header (sayings_after_first others) f e))

faulty_by_lines : (bytes : List ℕ) (lines : List (List ℕ)) (f : Fault) → length bytes ≤ MOST_BYTES → lines_of bytes ≡ lines
    → from_lines lines ≡ Err f → IsFaulty bytes f.line f.cause
unfolding from_lines
faulty_by_lines bytes [] f fits l e =
    let told : fault 1 Misplaced ≡ f = cc in
    empty (no_lines bytes l) (ap (λ (x : Fault). x.line) (sym told)) (ap (λ (x : Fault). x.cause) (sym told))
faulty_by_lines bytes (first ∷ others) f fits l e = faulty fits (rw l (lines_told first others (header_at first) f refl e))

faulty_by : (bytes : List ℕ) (f : Fault) (long_text : Bool) → ltb MOST_BYTES (length bytes) ≡ long_text
    → cond long_text (Err (fault 0 TooLong)) (from_lines (lines_of bytes)) ≡ Err f → IsFaulty bytes f.line f.cause
faulty_by bytes f true l e =
    let told : fault 0 TooLong ≡ f = cc in
    long (ltb-true _ _ l) (ap (λ (x : Fault). x.line) (sym told)) (ap (λ (x : Fault). x.cause) (sym told))
faulty_by bytes f false l e = faulty_by_lines bytes (lines_of bytes) f (ltb-false _ _ l) refl e

-- what is reported for bytes that are not a script is their first fault
pub is_faulty : (bytes : List ℕ) (f : Fault) → script_of bytes ≡ Err f → IsFaulty bytes f.line f.cause
unfolding script_of
is_faulty bytes f e = faulty_by bytes f _ refl e

first_told : (front : List (List ℕ)) (line : List ℕ) (after : List (List ℕ)) (number : ℕ) (c : Cause)
    → AreFaultless (is_limited (drop 1 (front ++ line ∷ after))) 1 front → number ≡ 1 + length front
    → fault_at (is_limited (drop 1 (front ++ line ∷ after))) number line ≡ Some c
    → from_lines (front ++ line ∷ after) ≡ Err (fault number c)
unfolding from_lines planned
first_told [] line after number c none e told =
    let here : number ≡ 1 = omega (arith, e) in
    rw here (rw (fault_where_told (header_at line) c (header_fault (is_limited after) line ∙ rw here at told)) refl)
first_told (first ∷ front) line after number c none e told =
    let limited = is_limited (front ++ line ∷ after) in
    let header = value_where (header_at first) (header_fault limited first ∙ none.0) in
    rw (header.1, first_is limited 2 front line after number c (omega arith) none.1 (omega (arith, e)) told) refl

-- the first fault of bytes that are not a script is reported
pub fault_is_told : (bytes : List ℕ) (number : ℕ) (c : Cause) → IsFaulty bytes number c → script_of bytes ≡ Err (fault number c)
unfolding script_of from_lines lines_of
fault_is_told bytes number c (long lt n e) = rw (lt-ltb MOST_BYTES (length bytes) lt, n, e) refl
fault_is_told bytes number c (empty b n e) = rw (b, n, e) refl
fault_is_told bytes number c (faulty fits f) =
    let faultless = subst (λ (lines : List (List ℕ)). AreFaultless (is_limited (drop 1 lines)) 1 f.before) f.cut f.faultless in
    let told = subst (λ (lines : List (List ℕ)). fault_at (is_limited (drop 1 lines)) number f.line ≡ Some c) f.cut f.faulty in
    rw (le-ltb MOST_BYTES (length bytes) fits, f.cut) (first_told f.before f.line f.after number c faultless f.number_is told)
