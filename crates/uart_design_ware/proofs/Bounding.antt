-- How many accesses a write of LCR makes at most. Each character that is kept takes two.
use Rattle.std.proofs.Common.{◌≡◌, ◌≤◌, ◌+◌, ◌*◌, ◌≢◌, ℕ, zero, suc, Bool, true, false, List, [], ◌∷◌, ◌++◌, refl, sym, ◌∙◌, ap, arith, inl}
use Rattle.std.proofs.Common.{inr, length, MatchBool, ◌==◌, None}
use Rattle.std.specs.Prelude.{◌⊎◌}
use Rattle.std.proofs.lemmas.Bool.Decides.{nat_tests}
use Rattle.std.proofs.lemmas.List.{length-append}
use Rattle.uart_spec.specs.declared.access.Access.{Access}
use Rattle.uart_spec.specs.declared.access.Access.TheVariants.{Read, Write}
use Rattle.uart_spec.specs.declared.registers.offsets.TheConstants as offsets
use Rattle.uart_design_ware.specs.declared.fault.DesignWareFault.{DesignWareFault}
use Rattle.uart_design_ware.specs.Held.{Held}
use Rattle.uart_design_ware.specs.Doing.{Doing, Nothing, Next, If, InOrder, Times, AnyOf, Where, Reads, Writes, Sets, Makes, Looks}
use Rattle.uart_design_ware.specs.Faults.{BeginsFault, EndsFault, RestoresInterrupts, ends_now, opens_latch, with_fault}
use Rattle.uart_design_ware.specs.Line.{AsksIfBusy, DiscardsUnreadable, FindsNoMore, GivesUp, Keeps, KeepsWaiting, MakesRoom, OffersLine}
use Rattle.uart_design_ware.specs.Line.{ResetsReceiver, Succeeds, TriesInVain, TriesLine, is_full, with_line}
use Rattle.uart_design_ware.specs.Laws.{LineIsBounded}
use Rattle.uart_design_ware.proofs.Meant.{line_is_meant}

-- so many accesses, and two for each character that is kept meanwhile. There is room for what is kept
abbrev Within : ℕ → Held → List Access → Held → Type 0
Within n h l after = (length l + 2 * length h.kept ≤ n + 2 * length after.kept) × (length after.kept ≤ 64)

abbrev AtMost : ℕ → Doing → Type 0
AtMost n G = (h : Held) (l : List Access) (after : Held) → length h.kept ≤ 64 → G h l after → Within n h l after

most_next : (m n : ℕ) (G H : Doing) → AtMost m G → AtMost n H → AtMost (m + n) (Next G H)
most_next m n G H p q h l after fits t =
    let first = p h t.front t.mid fits t.first in
    let second = q t.mid t.back after first.1 t.second in
    let whole : length l ≡ length t.front + length t.back =
    ap (λ (x : List Access). length x) t.whole ∙ length-append t.front t.back in
    (omega (arith, first.0, second.0, whole), second.1)

-- as many as the list has, and what is kept stays
within_plain : (n : ℕ) (h : Held) (l : List Access) (after : Held) → length h.kept ≤ 64 → length l ≤ n → length after.kept ≡ length h.kept →
    Within n h l after
within_plain n h l after fits few same = (omega (arith, few, same), omega (arith, fits, same))

most_makes : (n : ℕ) (list : List Access) → length list ≤ n → AtMost n (Makes list)
most_makes n list few h l after fits t =
    let same : length l ≡ length list = ap (λ (x : List Access). length x) t.0 in
    within_plain n h l after fits (omega (arith, few, same)) (ap (λ (x : Held). length x.kept) t.1)

most_sets : (change : Held → Held) → ((h : Held) → length (change h).kept ≡ length h.kept) → AtMost 0 (Sets change)
most_sets change same h l after fits t =
    let none : length l ≡ 0 = ap (λ (x : List Access). length x) t.0 in
    within_plain 0 h l after fits (omega (arith, none)) (ap (λ (x : Held). length x.kept) t.1 ∙ same h)

most_nothing : (n : ℕ) → AtMost n Nothing
most_nothing n h l after fits t =
    let none : length l ≡ 0 = ap (λ (x : List Access). length x) t.0 in
    within_plain n h l after fits (omega (arith, none)) (ap (λ (x : Held). length x.kept) t.1)

most_looks : (lsr : ℕ) → AtMost 1 (Looks lsr)
most_looks lsr h l after fits t =
    let one : length l ≡ 1 = ap (λ (x : List Access). length x) t.0 in
    within_plain 1 h l after fits (omega (arith, one)) (ap (λ (x : Held). length x.kept) t.1)

most_any : {A : Type 0} (n : ℕ) (G : A → Doing) → ((x : A) → AtMost n (G x)) → AtMost n (AnyOf G)
most_any n G p h l after fits t = p t.0 h l after fits t.1

most_where : (n : ℕ) (P : Type 0) (G : Doing) → AtMost n G → AtMost n (Where P G)
most_where n P G p h l after fits t = p h l after fits t.1

most_if : (n : ℕ) (test : Held → Bool) (G H : Doing) → AtMost n G → AtMost n H → AtMost n (If test G H)
most_if n test G H p q h l after fits t =
    elim (test h) as (λ b. MatchBool b (G h l after) (H h l after) → Within n h l after) [
      | true ↦ λ t. p h l after fits t
      | false ↦ λ t. q h l after fits t
    ] t

most_character : (character : ℕ × ℕ) → AtMost 0 (Keeps character)
most_character character h l after fits t =
    let two : length l ≡ 2 = ap (λ (x : List Access). length x) t.2 in
    let more : length after.kept ≡ length h.kept + 1 = ap (λ (x : Held). length x.kept) t.3 ∙ length-append h.kept _ in
    let not_full : length h.kept ≢ 64 = λ full.
    let at_end : (length h.kept == 64) ≡ true = grind (arith, nat_tests, full) in
    let wrong : true ≡ false = sym at_end ∙ t.0 in
    cc in
    (omega (arith, two, more), omega (arith, more, fits, not_full))

most_characters : (characters : List (ℕ × ℕ)) → AtMost 0 (InOrder Keeps characters)
most_characters [] = most_nothing 0
most_characters (c ∷ characters) = most_next 0 0 (Keeps c) (InOrder Keeps characters) (most_character c) (most_characters characters)

most_waiting : AtMost 1 KeepsWaiting
most_waiting = most_any 1 _ (λ characters.
    most_next 0 1 (InOrder Keeps characters) FindsNoMore (most_characters characters)
    (most_if 1 is_full Nothing _ (most_nothing 1) (most_any 1 _ (λ lsr. most_where 1 _ (Looks lsr) (most_looks lsr)))))

most_reset : AtMost 1 ResetsReceiver
most_reset h l after fits t =
    let one : length l ≡ 1 = ap (λ (x : List Access). length x) t.0 in
    within_plain 1 h l after fits (omega (arith, one)) (ap (λ (x : Held). length x.kept) t.1)

most_discarded : AtMost 2 DiscardsUnreadable
most_discarded = most_any 2 _ (λ lsr.
    most_next 1 1 (Looks lsr) _ (most_looks lsr) (most_if 1 _ ResetsReceiver Nothing most_reset (most_nothing 1)))

-- more are at most as many
most_more : (m n : ℕ) (G : Doing) → m ≤ n → AtMost m G → AtMost n G
most_more m n G less p h l after fits t =
    let within = p h l after fits t in
    (omega (arith, less, within.0), within.1)

most_room : AtMost 3 MakesRoom
most_room = most_any 3 _ (λ shown.
    most_next 1 2 (Reads offsets.LCR shown) _ (most_makes 1 _ (omega arith))
    (most_if 2 (λ h. opens_latch shown) DiscardsUnreadable KeepsWaiting most_discarded
    (most_more 1 2 KeepsWaiting (omega arith) most_waiting)))

most_offer : (line : ℕ) (is_taken : Bool) → AtMost 3 (OffersLine line is_taken)
most_offer line is_taken = most_any 3 _ (λ busy.
    most_next 1 2 (AsksIfBusy busy) _ (most_any 1 _ (λ usr. most_where 1 _ (Reads 31 usr) (most_makes 1 _ (omega arith))))
    (most_if 2 (λ h. busy) (Where (is_taken ≡ false) Nothing) (TriesLine line is_taken) (most_where 2 _ Nothing (most_nothing 2))
    (most_any 2 _ (λ shown. most_where 2 _ (Makes (Write offsets.LCR line ∷ Read offsets.LCR shown ∷ [])) (most_makes 2 _ (omega arith))))))

most_vain : (line : ℕ) → AtMost 6 (TriesInVain line)
most_vain line = most_next 3 3 (OffersLine line false) MakesRoom (most_offer line false) most_room

most_times : (G : Doing) → AtMost 6 G → (n : ℕ) → AtMost (n * 6) (Times n G)
most_times G p zero = most_nothing _
most_times G p (suc n) = λ h l after fits t.
    let within = most_next 6 (n * 6) G (Times n G) p (most_times G p n) h l after fits t in
    (omega (arith, within.0), within.1)

most_begin : (fault : DesignWareFault) → AtMost 2 (BeginsFault fault)
most_begin fault = most_next 0 2 (Sets _) _ (most_sets _ (λ h. refl)) (most_any 2 _ (λ shown.
    most_next 1 1 (Reads offsets.LCR shown) _ (most_makes 1 _ (omega arith))
    (most_if 1 (λ h. opens_latch shown) Nothing (Writes offsets.IER 0) (most_nothing 1) (most_makes 1 _ (omega arith)))))

most_end : AtMost 1 EndsFault
most_end = most_if 1 ends_now (Next (Sets (with_fault None)) RestoresInterrupts) Nothing
    (most_next 0 1 (Sets (with_fault None)) RestoresInterrupts (most_sets _ (λ h. refl))
    (λ h. most_makes 1 (Write offsets.IER h.interrupts ∷ []) (omega arith) h))
    (most_nothing 1)

most_rest : (line : ℕ) (h : Held) (l : List Access) (after : Held) → length h.kept ≤ 64 → Succeeds line h l after ⊎ GivesUp line h l after →
    Within (h.patience * 6 + 3) h l after
most_rest line h l after fits (inl s) =
    let within = most_next (s.0 * 6) 4 (Times s.0 (TriesInVain line)) (Next (OffersLine line true) EndsFault)
    (most_times _ (most_vain line) s.0)
    (most_next 3 1 (OffersLine line true) EndsFault (most_offer line true) most_end) h l after fits s.2 in
    (omega (arith, within.0, s.1), within.1)
most_rest line h l after fits (inr g) =
    let within = most_next (h.patience * 6) 3 (Times h.patience (TriesInVain line)) _ (most_times _ (most_vain line) h.patience)
    (most_next 2 1 _ _ (most_begin _) (most_any 1 _ (λ usr. most_makes 1 (Read 31 usr ∷ []) (omega arith)))) h l after fits g in
    (omega (arith, within.0), within.1)

pub line_is_bounded : LineIsBounded
line_is_bounded line h after l fits performed =
    let t = line_is_meant line h l after performed in
    let same : t.mid ≡ with_line line h = t.first.1 in
    let kept : length t.mid.kept ≡ length h.kept = ap (λ (x : Held). length x.kept) same in
    let patience : t.mid.patience ≡ h.patience = ap (λ (x : Held). x.patience) same in
    let within = most_rest line t.mid t.back after (omega (arith, fits, kept)) t.second in
    let whole : length l ≡ length t.back =
    ap (λ (x : List Access). length x) t.whole ∙ ap (λ (x : List Access). length (x ++ t.back)) t.first.0 in
    (omega (arith, within.0, within.1, whole, patience, kept), within.1)
