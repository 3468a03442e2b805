-- What is read from DATA is kept, or handed on.
use Rattle.std.proofs.Common.{◌≡◌, ℕ, zero, suc, Bool, true, false, List, [], ◌∷◌, ◌++◌, refl, sym, ◌∙◌, ap, subst, append_assoc}
use Rattle.std.proofs.Common.{append-nil, inl, inr, MatchBool, None}
use Rattle.std.specs.Prelude.{◌⊎◌}
use Rattle.std.proofs.lemmas.List.{map-append}
use Rattle.uart_spec.specs.declared.access.Access.{Access}
use Rattle.uart_spec.specs.declared.access.Access.TheVariants.{Read, Write}
use Rattle.uart_spec.specs.declared.registers.offsets.TheConstants as offsets
use Rattle.uart_design_ware.specs.declared.fault.DesignWareFault.{DesignWareFault}
use Rattle.uart_design_ware.specs.declared.kept.KeptCharacter.{KeptCharacter}
use Rattle.uart_design_ware.specs.Held.{Held}
use Rattle.uart_design_ware.specs.Doing.{Doing, Nothing, Next, If, InOrder, Times, AnyOf, Where, Reads, Writes, Sets, Makes, Looks}
use Rattle.uart_design_ware.specs.Faults.{BeginsFault, EndsFault, LooksIfMistaken, RestoresInterrupts, differs, ends_now, is_ignored}
use Rattle.uart_design_ware.specs.Faults.{opens_latch, with_fault}
use Rattle.uart_design_ware.specs.Line.{AsksIfBusy, DiscardsUnreadable, FindsNoMore, GivesUp, Keeps, KeepsWaiting, MakesRoom, OffersLine}
use Rattle.uart_design_ware.specs.Line.{ResetsReceiver, Succeeds, TriesInVain, TriesLine, is_full, with_line}
use Rattle.uart_design_ware.specs.Serving.{FirstOr, ReadsData, ReadsRegister, ShowsFor, is_latch, line_state}
use Rattle.uart_design_ware.specs.Laws.{DataHandsOn, LineKeepsBytes, StatusTakesNothing, bytes_of, taken, read_from_data}
use Rattle.uart_design_ware.proofs.Meant.{line_is_meant}

-- what is read is kept
abbrev KeepsBytes : Doing → Type 0
KeepsBytes G = (h : Held) (l : List Access) (after : Held) → G h l after → bytes_of after.kept ≡ bytes_of h.kept ++ taken l

taken-append : (xs ys : List Access) → taken (xs ++ ys) ≡ taken xs ++ taken ys
taken-append [] ys = refl
taken-append (x ∷ xs) ys = rw (taken-append xs ys) (sym (append_assoc (read_from_data x) (taken xs) (taken ys)))

keeps_next : (G H : Doing) → KeepsBytes G → KeepsBytes H → KeepsBytes (Next G H)
keeps_next G H p q h l after t =
    q t.mid t.back after t.second
    ∙ ap (λ (xs : List ℕ). xs ++ taken t.back) (p h t.front t.mid t.first)
    ∙ append_assoc (bytes_of h.kept) (taken t.front) (taken t.back)
    ∙ ap (λ (xs : List ℕ). bytes_of h.kept ++ xs) (sym (taken-append t.front t.back))
    ∙ ap (λ (x : List Access). bytes_of h.kept ++ taken x) (sym t.whole)

-- accesses that read nothing from DATA, and leave what is kept
keeps_plain : (h : Held) (l : List Access) (after : Held) → taken l ≡ [] → after.kept ≡ h.kept →
    bytes_of after.kept ≡ bytes_of h.kept ++ taken l
keeps_plain h l after none same =
    ap (λ (k : List KeptCharacter). bytes_of k) same
    ∙ sym (append-nil (bytes_of h.kept))
    ∙ ap (λ (xs : List ℕ). bytes_of h.kept ++ xs) (sym none)

keeps_makes : (list : List Access) → taken list ≡ [] → KeepsBytes (Makes list)
keeps_makes list none h l after t =
    keeps_plain h l after (ap (λ (x : List Access). taken x) t.0 ∙ none) (ap (λ (x : Held). x.kept) t.1)

keeps_sets : (change : Held → Held) → ((h : Held) → (change h).kept ≡ h.kept) → KeepsBytes (Sets change)
keeps_sets change same h l after t =
    keeps_plain h l after (ap (λ (x : List Access). taken x) t.0) (ap (λ (x : Held). x.kept) t.1 ∙ same h)

keeps_looks : (lsr : ℕ) → KeepsBytes (Looks lsr)
keeps_looks lsr h l after t = keeps_plain h l after (ap (λ (x : List Access). taken x) t.0) (ap (λ (x : Held). x.kept) t.1)

keeps_any : {A : Type 0} (G : A → Doing) → ((x : A) → KeepsBytes (G x)) → KeepsBytes (AnyOf G)
keeps_any G p h l after t = p t.0 h l after t.1

keeps_where : (P : Type 0) (G : Doing) → KeepsBytes G → KeepsBytes (Where P G)
keeps_where P G p h l after t = p h l after t.1

keeps_if : (test : Held → Bool) (G H : Doing) → KeepsBytes G → KeepsBytes H → KeepsBytes (If test G H)
keeps_if test G H p q h l after t =
    elim (test h) as (λ b. MatchBool b (G h l after) (H h l after) → bytes_of after.kept ≡ bytes_of h.kept ++ taken l) [
      | true ↦ λ t. p h l after t
      | false ↦ λ t. q h l after t
    ] t

keeps_order : {A : Type 0} (G : A → Doing) → ((x : A) → KeepsBytes (G x)) → (items : List A) → KeepsBytes (InOrder G items)
keeps_order G p [] = keeps_sets (λ h. h) (λ h. refl)
keeps_order G p (x ∷ items) = keeps_next (G x) (InOrder G items) (p x) (keeps_order G p items)

keeps_times : (G : Doing) → KeepsBytes G → (n : ℕ) → KeepsBytes (Times n G)
keeps_times G p zero = keeps_sets (λ h. h) (λ h. refl)
keeps_times G p (suc n) = keeps_next G (Times n G) p (keeps_times G p n)

keeps_character : (character : ℕ × ℕ) → KeepsBytes (Keeps character)
keeps_character character h l after t =
    ap (λ (x : Held). bytes_of x.kept) t.3
    ∙ map-append (λ (c : KeptCharacter). c.byte) h.kept _
    ∙ ap (λ (x : List Access). bytes_of h.kept ++ taken x) (sym t.2)

keeps_waiting : KeepsBytes KeepsWaiting
keeps_waiting = keeps_any _ (λ characters.
    keeps_next (InOrder Keeps characters) FindsNoMore (keeps_order Keeps keeps_character characters)
    (keeps_if is_full Nothing _ (keeps_sets (λ h. h) (λ h. refl)) (keeps_any _ (λ lsr. keeps_where _ (Looks lsr) (keeps_looks lsr)))))

keeps_reset : KeepsBytes ResetsReceiver
keeps_reset h l after t = keeps_plain h l after (ap (λ (x : List Access). taken x) t.0) (ap (λ (x : Held). x.kept) t.1)

keeps_room : KeepsBytes MakesRoom
keeps_room = keeps_any _ (λ shown.
    keeps_next (Reads offsets.LCR shown) _ (keeps_makes _ refl)
    (keeps_if (λ h. opens_latch shown) DiscardsUnreadable KeepsWaiting
    (keeps_any _ (λ lsr. keeps_next (Looks lsr) _ (keeps_looks lsr)
    (keeps_if _ ResetsReceiver Nothing keeps_reset (keeps_sets (λ h. h) (λ h. refl)))))
    keeps_waiting))

keeps_offer : (line : ℕ) (is_taken : Bool) → KeepsBytes (OffersLine line is_taken)
keeps_offer line is_taken = keeps_any _ (λ busy.
    keeps_next (AsksIfBusy busy) _ (keeps_any _ (λ usr. keeps_where _ (Reads 31 usr) (keeps_makes _ refl)))
    (keeps_if (λ h. busy) (Where (is_taken ≡ false) Nothing) (TriesLine line is_taken)
    (keeps_where _ Nothing (keeps_sets (λ h. h) (λ h. refl)))
    (keeps_any _ (λ shown. keeps_where _ (Makes (Write offsets.LCR line ∷ Read offsets.LCR shown ∷ [])) (keeps_makes _ refl)))))

keeps_vain : (line : ℕ) → KeepsBytes (TriesInVain line)
keeps_vain line = keeps_next (OffersLine line false) MakesRoom (keeps_offer line false) keeps_room

keeps_begin : (fault : DesignWareFault) → KeepsBytes (BeginsFault fault)
keeps_begin fault = keeps_next (Sets _) _ (keeps_sets _ (λ h. refl)) (keeps_any _ (λ shown.
    keeps_next (Reads offsets.LCR shown) _ (keeps_makes _ refl)
    (keeps_if (λ h. opens_latch shown) Nothing (Writes offsets.IER 0) (keeps_sets (λ h. h) (λ h. refl)) (keeps_makes _ refl))))

keeps_end : KeepsBytes EndsFault
keeps_end = keeps_if ends_now (Next (Sets (with_fault None)) RestoresInterrupts) Nothing
    (keeps_next (Sets (with_fault None)) RestoresInterrupts (keeps_sets _ (λ h. refl))
    (λ h. keeps_makes (Write offsets.IER h.interrupts ∷ []) refl h))
    (keeps_sets (λ h. h) (λ h. refl))

keeps_rest : (line : ℕ) (h : Held) (l : List Access) (after : Held) → Succeeds line h l after ⊎ GivesUp line h l after →
    bytes_of after.kept ≡ bytes_of h.kept ++ taken l
keeps_rest line h l after (inl s) =
    keeps_next (Times s.0 (TriesInVain line)) (Next (OffersLine line true) EndsFault) (keeps_times _ (keeps_vain line) s.0)
    (keeps_next (OffersLine line true) EndsFault (keeps_offer line true) keeps_end) h l after s.2
keeps_rest line h l after (inr g) =
    keeps_next (Times h.patience (TriesInVain line)) _ (keeps_times _ (keeps_vain line) h.patience)
    (keeps_next _ _ (keeps_begin _) (keeps_any _ (λ usr. keeps_makes (Read 31 usr ∷ []) refl))) h l after g

pub line_keeps : LineKeepsBytes
line_keeps line h after l t =
    keeps_next (Sets (with_line line)) (λ h l after. Succeeds line h l after ⊎ GivesUp line h l after)
    (keeps_sets (with_line line) (λ h. refl))
    (keeps_rest line) h l after (line_is_meant line h l after t)

-- a look whether offsets 0 and 1 are mistaken
looks_plain : (mistaken : Bool) → KeepsBytes (LooksIfMistaken mistaken)
looks_plain mistaken = keeps_if (λ h. is_ignored h.fault) _ _
    (λ h l after t. keeps_makes (Read offsets.LCR t.0 ∷ []) refl h l after t.1.1)
    (keeps_where _ Nothing (keeps_sets (λ h. h) (λ h. refl)))

looks_same : (mistaken : Bool) (h : Held) (l : List Access) (after : Held) → LooksIfMistaken mistaken h l after →
    (taken l ≡ []) × (after ≡ h)
looks_same mistaken h l after t =
    elim (is_ignored h.fault) as (λ b. MatchBool b
    ((shown : ℕ) × ((mistaken ≡ differs (opens_latch shown) (opens_latch h.line)) × Reads offsets.LCR shown h l after))
    (Where (mistaken ≡ false) Nothing h l after) → (taken l ≡ []) × (after ≡ h)) [
      | true ↦ λ t. (ap (λ (x : List Access). taken x) t.1.1.0, t.1.1.1)
      | false ↦ λ t. (ap (λ (x : List Access). taken x) t.1.0, t.1.1)
    ] t

-- the first of those that are kept, or the chip's
first_hands_on : (kept : List KeptCharacter) (answer : ℕ) (h : Held) (l : List Access) (after : Held) → kept ≡ h.kept →
    FirstOr kept answer h l after → bytes_of h.kept ++ taken l ≡ answer ∷ bytes_of after.kept
first_hands_on [] answer h l after is t =
    let none : bytes_of h.kept ≡ [] = ap (λ (k : List KeptCharacter). bytes_of k) (sym is) in
    let left : bytes_of after.kept ≡ [] = ap (λ (x : Held). bytes_of x.kept) t.1 ∙ none in
    rw (none, t.0, left) refl
first_hands_on (first ∷ others) answer h l after is t =
    let there : bytes_of h.kept ≡ first.byte ∷ bytes_of others = ap (λ (k : List KeptCharacter). bytes_of k) (sym is) in
    let left : bytes_of after.kept ≡ bytes_of others = ap (λ (x : Held). bytes_of x.kept) t.1.1 in
    rw (there, t.0, t.1.0, left) (ap (λ (xs : List ℕ). first.byte ∷ xs) (append-nil (bytes_of others)))

data_of : (mistaken : Bool) (answer : ℕ) (h : Held) (l : List Access) (after : Held) → is_latch offsets.DATA h ≡ false →
    If (λ h. mistaken) (Where (answer ≡ 0) Nothing) (ReadsRegister offsets.DATA answer) h l after →
    ((answer ≡ 0) × (taken l ≡ []) × (bytes_of after.kept ≡ bytes_of h.kept)) ⊎ (bytes_of h.kept ++ taken l ≡ answer ∷ bytes_of after.kept)
data_of true answer h l after is_open t =
    inl (t.0, ap (λ (x : List Access). taken x) t.1.0, ap (λ (x : Held). bytes_of x.kept) t.1.1)
data_of false answer h l after is_open t =
    let M : Bool → Type 0 = λ b. MatchBool b (Reads offsets.DATA answer h l after) (ReadsData answer h l after) in
    inr (first_hands_on h.kept answer h l after refl (subst M is_open t))

pub data_hands_on : DataHandsOn
data_hands_on answer h after l is_open t =
    let n = t.1 in
    let same = looks_same t.0 h n.front n.mid n.first in
    let still = let P : Held → Type 0 = (λ x. is_latch offsets.DATA x ≡ false) in subst P (sym same.1) is_open in
    let whole : taken l ≡ taken n.back =
    ap (λ (x : List Access). taken x) n.whole
    ∙ taken-append n.front n.back
    ∙ ap (λ (xs : List ℕ). xs ++ taken n.back) same.0 in
    let kept : bytes_of n.mid.kept ≡ bytes_of h.kept = ap (λ (x : Held). bytes_of x.kept) same.1 in
    elim (data_of t.0 answer n.mid n.back after still n.second) [
      | inl u ↦ inl (u.0, whole ∙ u.1, u.2 ∙ kept)
      | inr u ↦ inr (ap (λ (xs : List ℕ). xs ++ taken l) (sym kept) ∙ ap (λ (xs : List ℕ). bytes_of n.mid.kept ++ xs) whole ∙ u)
    ]

shows_same : (kept : List KeptCharacter) (state answer : ℕ) (h : Held) (l : List Access) (after : Held) → kept ≡ h.kept →
    ShowsFor kept state answer h l after → (l ≡ []) × (bytes_of after.kept ≡ bytes_of h.kept)
shows_same [] state answer h l after is t = (t.1.0, ap (λ (x : Held). bytes_of x.kept) t.1.1)
shows_same (first ∷ others) state answer h l after is t =
    (t.1.0, ap (λ (x : Held). bytes_of x.kept) t.1.1 ∙ ap (λ (k : List KeptCharacter). bytes_of k) is)

status_of : (mistaken : Bool) (answer : ℕ) (h : Held) (l : List Access) (after : Held) → mistaken ≡ false →
    If (λ h. mistaken) (Where (answer ≡ 0) Nothing) (ReadsRegister offsets.LSR answer) h l after →
    (taken l ≡ []) × (bytes_of after.kept ≡ bytes_of h.kept)
status_of true answer h l after wrong t = absurd cc
status_of false answer h l after is t =
    let n = t.1 in
    let k = n.second.1 in
    let same = looks_same n.second.0 n.mid k.front k.mid k.first in
    let shown = shows_same k.mid.kept (line_state t.0 n.second.0) answer k.mid k.back after refl k.second in
    let none : taken l ≡ [] =
    ap (λ (x : List Access). taken x) n.whole
    ∙ taken-append n.front n.back
    ∙ ap (λ (x : List Access). taken x ++ taken n.back) n.first.0
    ∙ ap (λ (x : List Access). taken x) k.whole
    ∙ taken-append k.front k.back
    ∙ ap (λ (xs : List ℕ). xs ++ taken k.back) same.0
    ∙ ap (λ (x : List Access). taken x) shown.0 in
    (none, shown.1 ∙ ap (λ (x : Held). bytes_of x.kept) same.1 ∙ ap (λ (x : Held). bytes_of x.kept) n.first.1)

pub status_takes_nothing : StatusTakesNothing
status_takes_nothing answer h after l t =
    let n = t.1 in
    let looked = n.first.1 in
    let read = status_of t.0 answer n.mid n.back after n.first.0 n.second in (
      ap (λ (x : List Access). taken x) n.whole ∙ taken-append n.front n.back
          ∙ ap (λ (x : List Access). taken x ++ taken n.back) looked.0 ∙ read.0,
      read.1 ∙ ap (λ (x : Held). bytes_of x.kept) looked.1,
    )

-- what the law cites
pub ruleset kept = (line_keeps, data_hands_on, status_takes_nothing)
