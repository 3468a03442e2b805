-- What holds before and after some entries, and what is not found at them.
use Rattle.std.proofs.Common.{◌≡◌, List, [], ◌∷◌, ◌++◌, refl, sym, ◌∙◌, ap, subst}
use Rattle.uart_spec.specs.declared.access.Access.{Access as RegisterAccess}
use Rattle.uart_spec.specs.declared.setup.FifoSize.{FifoSize}
use Rattle.uart_judges.specs.Findings.{all_found, findings_at}
use Rattle.uart_judges.specs.History.{known, next, step_from}
use Rattle.uart_judges.specs.declared.audit.auditor.Auditor.{Auditor}
use Rattle.uart_judges.specs.declared.recording.entry.Entry.{Entry}
use Rattle.uart_judges.specs.declared.recording.entry.Happening.{Happening}
use Rattle.uart_judges.specs.declared.recording.entry.Happening.TheVariants.{Access}
use Rattle.uart_judges_runs.specs.Recorded.{HasNone, NoneIs, access_in, accesses_in, behind}
use Rattle.uart_judges_runs.proofs.Spared.{of_calls}

-- ---- one entry

-- from a state of the first kind the entry leads to one of the second, and there is no such finding at it
abbrev pub Leads : (size : FifoSize) (P Q : Auditor → Type 0) → Entry → Type 0
Leads size P Q e = (a : Auditor) → P a → NoneIs (of_calls size) (all_found a (step_from a e)) × Q (next a (step_from a e))

-- it is no access
abbrev pub IsOther : Happening → Type 0
IsOther (Access access) = ⊥
IsOther _ = Unit {0}

-- whatever happens beside accesses
abbrev pub Stays : (size : FifoSize) → (Auditor → Type 0) → Type 0
Stays size P = (e : Entry) → IsOther e.happening → Leads size P P e

-- an access, at whatever line, time and level
abbrev pub Moves : (size : FifoSize) (P : Auditor → Type 0) → RegisterAccess → (Q : Auditor → Type 0) → Type 0
Moves size P x Q = (e : Entry) → e.happening ≡ Access x → Leads size P Q e

-- what is known goes on by an entry
at_entry : (size : FifoSize) (P Q : Auditor → Type 0) (e : Entry) (past : List Entry) → Leads size P Q e → P (known past) →
    NoneIs (of_calls size) (findings_at e past) × Q (known (e ∷ past))
at_entry size P Q e past leads p = leads (known past) p

-- ---- some accesses, with what else happens between

abbrev pub Goes : (size : FifoSize) (P : Auditor → Type 0) → List RegisterAccess → (Q : Auditor → Type 0) → Type 0
Goes size P l Q = (past entries : List Entry) → accesses_in entries ≡ l → P (known past) →
    HasNone (of_calls size) past entries × Q (known (behind past entries))

-- an entry is an access, or another one
pub data IsEither (h : Happening) : Type 0 where
  access : (x : RegisterAccess) → h ≡ Access x → IsEither h
  other : IsOther h → access_in h ≡ [] → IsEither h

pub either : (h : Happening) → IsEither h
either (Access x) = access x refl
either _ = other tt refl

first_is : (x y : RegisterAccess) (l m : List RegisterAccess) → x ∷ l ≡ y ∷ m → x ≡ y
first_is x y l m e = cc

rest_is : (x y : RegisterAccess) (l m : List RegisterAccess) → x ∷ l ≡ y ∷ m → l ≡ m
rest_is x y l m e = cc

-- what is shown of some entries
abbrev Shown : (size : FifoSize) (P : Auditor → Type 0) → (past entries : List Entry) → Type 0
Shown size P past entries = HasNone (of_calls size) past entries × P (known (behind past entries))

none_from : (size : FifoSize) (P : Auditor → Type 0) → Stays size P → (past : List Entry) (e : Entry) (es : List Entry) →
    IsEither e.happening →
    access_in e.happening ++ accesses_in es ≡ [] → P (known past) →
    (accesses_in es ≡ [] → P (known (e ∷ past)) → Shown size P (e ∷ past) es) → Shown size P past (e ∷ es)
none_from size P stays past e es (access x h) is p rest =
    let f : x ∷ accesses_in es ≡ [] = sym (ap (λ (h : Happening). access_in h ++ accesses_in es) h) ∙ is in absurd (cc)
none_from size P stays past e es (other o none) is p rest =
    let here = at_entry size P P e past (stays e o) p in
    let left : accesses_in es ≡ [] = sym (ap (λ (l : List RegisterAccess). l ++ accesses_in es) none) ∙ is in
    let r = rest left here.1 in
    ((here.0, r.0), r.1)

pub goes_none : (size : FifoSize) (P : Auditor → Type 0) → Stays size P → Goes size P [] P
goes_none size P stays past [] is p = (tt, p)
goes_none size P stays past (e ∷ es) is p =
    none_from size P stays past e es (either e.happening) is p (λ left q. goes_none size P stays (e ∷ past) es left q)

one_from : (size : FifoSize) (P Q : Auditor → Type 0) (x : RegisterAccess) → Stays size P → Stays size Q → Moves size P x Q →
    (past : List Entry) (e : Entry)
    (es : List Entry) → IsEither e.happening → access_in e.happening ++ accesses_in es ≡ x ∷ [] → P (known past) →
    (accesses_in es ≡ x ∷ [] → P (known (e ∷ past)) → Shown size Q (e ∷ past) es) → Shown size Q past (e ∷ es)
one_from size P Q x stays after moves past e es (access y h) is p rest =
    let whole : y ∷ accesses_in es ≡ x ∷ [] = sym (ap (λ (h : Happening). access_in h ++ accesses_in es) h) ∙ is in
    let here = at_entry size P Q e past (moves e (h ∙ ap Access (first_is y x (accesses_in es) [] whole))) p in
    let r = goes_none size Q after (e ∷ past) es (rest_is y x (accesses_in es) [] whole) here.1 in
    ((here.0, r.0), r.1)
one_from size P Q x stays after moves past e es (other o none) is p rest =
    let here = at_entry size P P e past (stays e o) p in
    let left : accesses_in es ≡ x ∷ [] = sym (ap (λ (l : List RegisterAccess). l ++ accesses_in es) none) ∙ is in
    let r = rest left here.1 in
    ((here.0, r.0), r.1)

pub goes_one : (size : FifoSize) (P Q : Auditor → Type 0) (x : RegisterAccess) → Stays size P → Stays size Q → Moves size P x Q →
    Goes size P (x ∷ []) Q
goes_one size P Q x stays after moves past [] is p = absurd (cc)
goes_one size P Q x stays after moves past (e ∷ es) is p =
    one_from size P Q x stays after moves past e es (either e.happening) is p (λ left q. goes_one size P Q x stays after moves
    (e ∷ past) es left q)

-- ---- one after the other

-- the entries in two parts
record Parts (entries : List Entry) (l m : List RegisterAccess) : Type 0 where
  pub front : List Entry
  pub back : List Entry
  pub whole : entries ≡ front ++ back
  pub first : accesses_in front ≡ l
  pub second : accesses_in back ≡ m

parts_cons : (e : Entry) (es : List Entry) (l m : List RegisterAccess) → Parts es l m → Parts (e ∷ es) (access_in e.happening ++ l) m
parts_cons e es l m p = record {
  front = e ∷ p.front;
  back = p.back;
  whole = ap (λ (es : List Entry). e ∷ es) p.whole;
  first = ap (λ (l : List RegisterAccess). access_in e.happening ++ l) p.first;
  second = p.second;
}

parts_from : (e : Entry) (es : List Entry) (x : RegisterAccess) (l m : List RegisterAccess) → IsEither e.happening →
    access_in e.happening ++ accesses_in es ≡ x ∷ (l ++ m) → (accesses_in es ≡ l ++ m → Parts es l m) →
    (accesses_in es ≡ x ∷ (l ++ m) → Parts es (x ∷ l) m) → Parts (e ∷ es) (x ∷ l) m
parts_from e es x l m (access y h) is shorter same =
    let whole : y ∷ accesses_in es ≡ x ∷ (l ++ m) = sym (ap (λ (h : Happening). access_in h ++ accesses_in es) h) ∙ is in
    let rest = shorter (rest_is y x (accesses_in es) (l ++ m) whole) in
    let front : access_in e.happening ++ l ≡ x ∷ l =
    ap (λ (h : Happening). access_in h ++ l) h ∙ ap (λ (y : RegisterAccess). y ∷ l) (first_is y x (accesses_in es) (l ++ m) whole) in
    subst (λ (k : List RegisterAccess). Parts (e ∷ es) k m) front (parts_cons e es l m rest)
parts_from e es x l m (other o none) is shorter same =
    let rest = same (sym (ap (λ (l : List RegisterAccess). l ++ accesses_in es) none) ∙ is) in
    subst (λ (k : List RegisterAccess). Parts (e ∷ es) k m) (ap (λ (k : List RegisterAccess). k ++ (x ∷ l)) none)
    (parts_cons e es (x ∷ l) m rest)

parts : (entries : List Entry) (l m : List RegisterAccess) → accesses_in entries ≡ l ++ m → Parts entries l m
parts entries [] m is = record { front = []; back = entries; whole = refl; first = refl; second = is }
parts [] (x ∷ l) m is = absurd (cc)
parts (e ∷ es) (x ∷ l) m is =
    parts_from e es x l m (either e.happening) is (λ left. parts es l m left) (λ left. parts es (x ∷ l) m left)

both : (size : FifoSize) (P : Auditor → Type 0) (past front back : List Entry) → HasNone (of_calls size) past front →
    HasNone (of_calls size) (behind past front) back × P (known (behind (behind past front) back)) →
    HasNone (of_calls size) past (front ++ back) × P (known (behind past (front ++ back)))
both size P past [] back h k = k
both size P past (e ∷ front) back h k = let r = both size P (e ∷ past) front back h.1 k in ((h.0, r.0), r.1)

pub goes_then : (size : FifoSize) (P Q R : Auditor → Type 0) (l m : List RegisterAccess) → Goes size P l Q → Goes size Q m R →
    Goes size P (l ++ m) R
goes_then size P Q R l m first second past entries is p =
    let cut = parts entries l m is in
    let a = first past cut.front cut.first p in
    let b = second (behind past cut.front) cut.back cut.second a.1 in
    let r = both size R past cut.front cut.back a.0 b in
    subst (λ (es : List Entry). HasNone (of_calls size) past es × R (known (behind past es))) (sym cut.whole) r
