-- What is known of loopback holds of a chip, lasts between the accesses, and says which byte is read.
use Rattle.std.proofs.Common.{◌≡◌, ℕ, ◌+◌, ◌-◌, ◌<◌, ◌≤◌, Bool, true, false, not, ◌&&◌, ◌==◌, nat_lt, List, [], ◌∷◌, ◌++◌, length}
use Rattle.std.proofs.Common.{take, drop, Option, Some, None, refl, arith, sym, ◌∙◌, ap, subst, if◌then◌else◌}
use Rattle.std.proofs.Common.{length-take-le, length-drop, length-set, take-take, cond}
use Rattle.std.specs.Prelude.{is_none, set}
use Rattle.std.proofs.lemmas.Bool.{lt-ltb, ltb-true}
use Rattle.std.proofs.lemmas.List.{drop-take, take_more_set, length-set}
use Rattle.std.proofs.lemmas.List.Edits.{take-paste, length-paste}
use Rattle.std.specs.List.{copy_within, position_or_len}
use Rattle.uart_chip.specs.Chip.{ChipState, is_loopback}
use Rattle.uart_chip.proofs.lasting.Lasting.{LastsInEvents}
use Rattle.uart_chip.proofs.loopback.Loops.{line_in}
use Rattle.uart_judges.specs.declared.replay.looped.Looped.{Looped}
use Rattle.uart_judges.specs.declared.replay.looped.TheConstants.{MOST_LOOPED}
use Rattle.uart_judges.specs.Looped as looped
use Rattle.uart_judges.specs.Looped.{begun, pending, place_of, excludes, behind, after, and}
use Rattle.uart_judges.proofs.Looping.{Within, none, within-refl, within-trans, within-before, within-place, within_tick, within_arrive}

-- ---- what is known

-- loopback is on, and nothing comes back but some of these bytes, in order
pub record Returns (l : Looped) (c : ChipState) : Type 0 where
  pub loops : is_loopback c.latches ≡ true
  pub places : length l.bytes ≡ MOST_LOOPED
  pub few : l.count ≤ MOST_LOOPED
  pub line : Within (line_in c) (pending l)

-- that is so if it is known
abbrev pub LoopHolds : Looped → ChipState → Type 0
LoopHolds l c = l.is_known ≡ true → Returns l c

-- nothing is known
pub unknown_holds : (c : ChipState) → LoopHolds looped.unknown c
unknown_holds c e = absurd (cc)

-- nothing is on its way
pub nothing_holds : (c : ChipState) → is_loopback c.latches ≡ true → line_in c ≡ [] → LoopHolds looped.nothing c
nothing_holds c loops empty e = record {
  loops = loops;
  places = refl;
  few = omega arith;
  line = subst (λ xs. Within xs []) (sym empty) none;
}

-- it begins to be known, or stays as it is
pub begun_holds : (is_empty : Bool) (l : Looped) (c : ChipState) → (is_empty ≡ true → LoopHolds looped.nothing c) → LoopHolds l c →
    LoopHolds (begun is_empty l) c
begun_holds is_empty l c n h = go is_empty l.is_known refl
  where
    go : (a b : Bool) → is_empty ≡ a → LoopHolds (if a && not b then looped.nothing else l) c
    go true false e = n e
    go true true e = h
    go false b e = h

-- loopback stays on, and nothing is added
pub holds_on : (l : Looped) (c d : ChipState) → (is_loopback c.latches ≡ true → is_loopback d.latches ≡ true) →
    (is_loopback c.latches ≡ true → Within (line_in d) (line_in c)) → LoopHolds l c → LoopHolds l d
holds_on l c d loops line h e =
    let r : Returns l c = h e in
    record { loops = loops r.loops; places = r.places; few = r.few; line = within-trans (line r.loops) r.line }

-- ---- between the accesses

pub loop_lasts : (l : Looped) → LastsInEvents (LoopHolds l)
loop_lasts l = record {
  in_tick = λ c h. holds_on l c _ (λ e. e) (within_tick c) h;
  in_arrival = λ byte errors c h. holds_on l c _ (λ e. e) (within_arrive byte errors c) h;
  in_lines = λ inputs c h. holds_on l c _ (λ e. e) (λ _. within-refl (line_in c)) h;
}

-- ---- a byte that is read

module _ (l : Looped) (places : length l.bytes ≡ MOST_LOOPED) (few : l.count ≤ MOST_LOOPED) where
  how_many : length (pending l) ≡ l.count
  how_many = length-take-le l.count l.bytes (omega (arith, places, few))

  -- what is behind a place
  pending_behind : (place : ℕ) → place < l.count → pending (behind l (Some place)) ≡ drop (place + 1) (pending l)
  pending_behind place h =
      let from : ℕ = place + 1 in
      let left : ℕ = l.count - from in
      let room : ℕ = MOST_LOOPED - from in
      let rest : List ℕ = drop from l.bytes in
      let moved : List ℕ = copy_within l.bytes from MOST_LOOPED 0 in
      let whole : from + left ≡ l.count = omega (arith, h) in
      let none : room ≡ 0 + room = omega arith in
      taken_moved left room rest moved
      (ap (λ n. take n moved) none ∙
      take-paste l.bytes 0 rest room (omega arith) (omega (arith, places, length-drop from l.bytes)))
      (omega (arith, few))
      ∙ (sym (drop-take from left l.bytes) ∙ ap (λ n. drop from (take n l.bytes)) whole)
    where
      taken_moved : (left room : ℕ) (rest moved : List ℕ) → take room moved ≡ take room rest → left ≤ room →
          take left moved ≡ take left rest
      taken_moved left room rest moved e fits =
          sym (take-take left room moved fits) ∙ (ap (take left) e ∙ take-take left room rest fits)

  -- the byte that is first has a place, and what is behind it is behind that place
  first_place : (x : ℕ) (xs : List ℕ) → Within (x ∷ xs) (pending l) →
      (place : ℕ) × (place_of l x ≡ Some place) × ((place < l.count) × Within xs (drop (place + 1) (pending l)))
  first_place x xs w =
      let p = within-place x xs (pending l) w in
      let here : ℕ = position_or_len (λ y. y == x) (pending l) in
      (here, found here (lt-ltb here (length (pending l)) p.0), (omega (arith, p.0, how_many), p.1))
    where
      found : (n : ℕ) → nat_lt n (length (pending l)) ≡ true →
          cond (nat_lt n (length (pending l))) (Some n) None ≡ Some n
      found n e = rw e refl

-- the byte that is first is not excluded
pub none_excluded : (l : Looped) (c : ChipState) (x : ℕ) (xs : List ℕ) → LoopHolds l c → line_in c ≡ x ∷ xs → excludes l x ≡ false
none_excluded l c x xs h e = go l.is_known refl
  where
    go : (b : Bool) → l.is_known ≡ b → (b && is_none (place_of l x)) ≡ false
    go false k = refl
    go true k =
        let r : Returns l c = h k in
        let p = first_place l r.places r.few x xs (subst (λ ys. Within ys (pending l)) e r.line) in
        rw p.1 refl

-- once it is taken, what is behind it comes back
pub after_holds : (l : Looped) (c d : ChipState) (x : ℕ) (xs : List ℕ) → LoopHolds l c → line_in c ≡ x ∷ xs → line_in d ≡ xs →
    is_loopback d.latches ≡ is_loopback c.latches → LoopHolds (after l x) d
after_holds l c d x xs h e f loops = go (place_of l x) refl
  where
    go : (o : Option ℕ) → place_of l x ≡ o → LoopHolds (behind l o) d
    go None p k =
        let r : Returns l c = h k in
        let q = first_place l r.places r.few x xs (subst (λ ys. Within ys (pending l)) e r.line) in
        absurd (let g : None ≡ Some q.0 = sym p ∙ q.1 in cc)
    go (Some place) p k =
        let r : Returns l c = h k in
        let q = first_place l r.places r.few x xs (subst (λ ys. Within ys (pending l)) e r.line) in
        let same : q.0 ≡ place = some_same q.0 place (sym q.1 ∙ p) in
        record {
          loops = loops ∙ r.loops;
          places = length-copied l.bytes (place + 1) r.places (omega (arith, same, q.2.0, r.few));
          few = omega (arith, r.few);
          line =
              subst (λ ys. Within ys (pending (behind l (Some place)))) (sym f)
              (subst (Within xs) (ap (λ n. drop (n + 1) (pending l)) same ∙
              sym (pending_behind l r.places r.few place (omega (arith, same, q.2.0)))) q.2.1);
        }
      where
        some_same : (n m : ℕ) → Some n ≡ Some m → n ≡ m
        some_same n m e = cc

        length-copied : (bytes : List ℕ) (from : ℕ) → length bytes ≡ MOST_LOOPED → from ≤ MOST_LOOPED →
            length (copy_within bytes from MOST_LOOPED 0) ≡ MOST_LOOPED
        length-copied bytes from e fits =
            length-paste bytes 0 (drop from bytes) (MOST_LOOPED - from) (omega (arith, e)) (omega (arith, e, length-drop from bytes)) ∙ e

-- ---- a byte that is written

pub and_holds : (l : Looped) (c d : ChipState) (byte : ℕ) → LoopHolds l c → Within (line_in d) (line_in c ++ byte ∷ []) →
    is_loopback d.latches ≡ is_loopback c.latches → LoopHolds (and l byte) d
and_holds l c d byte h w loops = go (l.is_known) (nat_lt l.count MOST_LOOPED) refl refl
  where
    more : Looped
    more = record l { bytes = set l.bytes l.count byte; count = l.count + 1 }

    go : (a b : Bool) → l.is_known ≡ a → nat_lt l.count MOST_LOOPED ≡ b → LoopHolds (if a && b then more else looped.unknown) d
    go true true e f k =
        let r : Returns l c = h e in
        let few : l.count < MOST_LOOPED = ltb-true l.count MOST_LOOPED f in
        record {
          loops = loops ∙ r.loops;
          places = length-set l.bytes l.count byte ∙ r.places;
          few = omega (arith, few);
          line =
              subst (Within (line_in d)) (sym (take_more_set l.bytes l.count byte (omega (arith, few, r.places))))
              (within-trans w (within-before (byte ∷ []) r.line));
        }
    go true false e f k = unknown_holds d k
    go false b e f k = unknown_holds d k
