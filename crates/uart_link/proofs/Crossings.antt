-- Bytes that cross a cable: those that arrive at one end are the next ones that have left the other.
use Rattle.uart_link.proofs.Names.{◌≡◌, ℕ, ◌+◌, ◌≤◌, List, [], ◌∷◌, ◌++◌, length, drop, refl, sym, ◌∙◌, ap, arith, append_assoc}
use Rattle.uart_link.proofs.Names.{length-append, drop-drop, drop-append-le, length-drop, drop-append_seam, Event, Arrive, Arrived}
use Rattle.uart_link.proofs.Names.{arriving, arriving_cut, Moment, brought, numbered, AllClean, events_of}
use Rattle.uart_link.specs.declared.call.Moment.TheVariants as moment

-- ---- the bytes of events

pub brought-append : (xs ys : List Event) → brought (xs ++ ys) ≡ brought xs ++ brought ys
brought-append [] ys = refl
brought-append (Arrive byte errors ∷ xs) ys = ap (λ zs. byte ∷ zs) (brought-append xs ys)
brought-append (_ ∷ xs) ys = brought-append xs ys

-- as many characters arrive as bytes are brought
pub arriving_count : (cut : ℕ → ℕ) (k : ℕ) (events : List Event) → length (arriving_cut cut k events) ≡ length (brought events)
arriving_count cut k [] = refl
arriving_count cut k (Arrive byte errors ∷ events) = let h = arriving_count cut (k + 1) events in omega (arith, h)
arriving_count cut k (_ ∷ events) = arriving_count cut k events

-- and if none has an error, they are these bytes with their numbers
pub arriving_numbered : (k : ℕ) (events : List Event) → AllClean events → arriving k events ≡ numbered k (brought events)
arriving_numbered k [] c = refl
arriving_numbered k (Arrive byte errors ∷ events) c =
    rw c.0 (ap (λ zs. record { byte = byte; errors = 0; origin = Arrived k } ∷ zs) (arriving_numbered (k + 1) events c.1))
arriving_numbered k (_ ∷ events) c = arriving_numbered k events c.1

-- the moments bring the first bytes on the cable
pub events_first : (moments : List Moment) (cable : List ℕ) (lines : ℕ) →
    (rest : List ℕ) × (cable ≡ brought (events_of moments cable lines) ++ rest)
events_first [] cable lines = (cable, refl)
events_first (moment.Ticks n ∷ moments) cable lines = events_first moments cable lines
events_first (moment.Arrives ∷ moments) [] lines = events_first moments [] lines
events_first (moment.Arrives ∷ moments) (byte ∷ cable) lines =
    let r = events_first moments cable lines in (r.0, ap (λ zs. byte ∷ zs) r.1)
events_first (moment.Lines ∷ moments) cable lines = events_first moments cable lines
events_first (moment.Access ∷ moments) cable lines = events_first moments cable lines

pub clean_events : (moments : List Moment) (cable : List ℕ) (lines : ℕ) → AllClean (events_of moments cable lines)
clean_events [] cable lines = tt
clean_events (moment.Ticks n ∷ moments) cable lines = (tt, clean_events moments cable lines)
clean_events (moment.Arrives ∷ moments) [] lines = clean_events moments [] lines
clean_events (moment.Arrives ∷ moments) (byte ∷ cable) lines = (refl, clean_events moments cable lines)
clean_events (moment.Lines ∷ moments) cable lines = (tt, clean_events moments cable lines)
clean_events (moment.Access ∷ moments) cable lines = (tt, clean_events moments cable lines)

-- ---- crossings

-- of these bytes that have left one end, k had arrived before, then those crossed, and then j have arrived
pub record Crosses (k : ℕ) (bytes : List ℕ) (j : ℕ) (wire : List ℕ) : Type 0 where
  pub starts : k ≤ length wire
  pub ends : j ≤ length wire
  pub same : drop k wire ≡ bytes ++ drop j wire

pub crosses-refl : (k : ℕ) (wire : List ℕ) → k ≤ length wire → Crosses k [] k wire
crosses-refl k wire h = record { starts = h; ends = h; same = refl }

pub crosses-trans : (k j i : ℕ) (xs ys wire : List ℕ) → Crosses k xs j wire → Crosses j ys i wire → Crosses k (xs ++ ys) i wire
crosses-trans k j i xs ys wire a b = record {
  starts = a.starts;
  ends = b.ends;
  same = a.same ∙ (ap (λ zs. xs ++ zs) b.same ∙ sym (append_assoc xs ys (drop i wire)));
}

-- more bytes leave meanwhile
pub crosses-more : (k j : ℕ) (xs wire more : List ℕ) → Crosses k xs j wire → Crosses k xs j (wire ++ more)
crosses-more k j xs wire more a = record {
  starts = let h = length-append wire more in omega (arith, h, a.starts);
  ends = let h = length-append wire more in omega (arith, h, a.ends);
  same = drop-append-le k wire more a.starts ∙ (ap (λ zs. zs ++ more) a.same ∙ (append_assoc xs (drop j wire) more ∙
      ap (λ zs. xs ++ zs) (sym (drop-append-le j wire more a.ends))));
}

-- the next bytes cross
pub record CrossesNext (k : ℕ) (bytes rest : List ℕ) (j : ℕ) (wire : List ℕ) : Type 0 where
  pub crosses : Crosses k bytes j wire
  pub next : drop j wire ≡ rest

pub crosses_next : (k j : ℕ) (bytes rest wire : List ℕ) → k ≤ length wire → drop k wire ≡ bytes ++ rest → j ≡ k + length bytes →
    CrossesNext k bytes rest j wire
crosses_next k j bytes rest wire h e number =
    let after : drop j wire ≡ rest =
    ap (λ n. drop n wire) number ∙ (sym (drop-drop (length bytes) k wire) ∙ (ap (drop (length bytes)) e ∙ drop-append_seam bytes rest)) in
    record {
      crosses = record {
        starts = h;
        ends = let a : length (drop k wire) ≡ length (bytes ++ rest) = ap length e in
            let b = length-drop k wire in let c = length-append bytes rest in omega (arith, a, b, c, number, h);
        same = e ∙ ap (λ zs. bytes ++ zs) (sym after);
      };
      next = after;
    }
