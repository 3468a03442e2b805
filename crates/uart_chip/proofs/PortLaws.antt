-- What a program concludes of a port, without driver and chip.
use Rattle.std.proofs.Common.{◌≡◌, ℕ, false, inl, inr, List, [], ◌∷◌, ◌++◌, refl, sym, ◌∙◌, ap, subst, append_assoc, append-nil}
use Rattle.std.specs.List.{AllByRecursion}
use Rattle.std.proofs.lemmas.Bool.{false≢true}
use Rattle.uart_chip.specs.Port.{Port, Step, DoesAll, sent_in, received_in, came_in, told_in}
use Rattle.uart_chip.specs.PortLaws.{IsPart, PortsLoseNothingSilently}

-- what goes out grew by what was sent
port_sends : (p q : Port) (steps : List Step) → DoesAll p steps q → q.out ≡ p.out ++ sent_in steps
port_sends p q [] h = ap (λ (o : Port). o.out) h ∙ sym (append-nil p.out)
port_sends p q (Step.Sends bytes ∷ steps) (m, e, rest) =
    port_sends m q steps rest ∙ (ap (λ (o : Port). o.out ++ sent_in steps) e ∙ append_assoc p.out bytes (sent_in steps))
port_sends p q (Step.Receives bytes ∷ steps) (m, (w, e), rest) =
    port_sends m q steps rest ∙ ap (λ (o : Port). o.out ++ sent_in steps) e
port_sends p q (Step.Arrives byte ∷ steps) (m, (r, e), rest) =
    port_sends m q steps rest ∙ ap (λ (o : Port). o.out ++ sent_in steps) e
port_sends p q (Step.LosesNew byte ∷ steps) (m, (f, r, e), rest) =
    port_sends m q steps rest ∙ ap (λ (o : Port). o.out ++ sent_in steps) e
port_sends p q (Step.LosesOld byte ∷ steps) (m, (f, (old, w, e)), rest) =
    port_sends m q steps rest ∙ ap (λ (o : Port). o.out ++ sent_in steps) e
port_sends p q (Step.Tells overrun ∷ steps) (m, (l, e), rest) =
    port_sends m q steps rest ∙ ap (λ (o : Port). o.out ++ sent_in steps) e

-- where no loss was told and none is left to be told, there was none at the start
unlost : (p q : Port) (steps : List Step) → DoesAll p steps q → AllByRecursion (λ overrun. overrun ≡ false) (told_in steps) →
    q.lost ≡ false → p.lost ≡ false
unlost p q [] h t l = sym (ap (λ (o : Port). o.lost) h) ∙ l
unlost p q (Step.Sends bytes ∷ steps) (m, e, rest) t l = sym (ap (λ (o : Port). o.lost) e) ∙ unlost m q steps rest t l
unlost p q (Step.Receives bytes ∷ steps) (m, (w, e), rest) t l = sym (ap (λ (o : Port). o.lost) e) ∙ unlost m q steps rest t l
unlost p q (Step.Arrives byte ∷ steps) (m, (r, e), rest) t l = sym (ap (λ (o : Port). o.lost) e) ∙ unlost m q steps rest t l
unlost p q (Step.LosesNew byte ∷ steps) (m, (f, r, e), rest) t l =
    absurd (false≢true (sym (unlost m q steps rest t l) ∙ ap (λ (o : Port). o.lost) e))
unlost p q (Step.LosesOld byte ∷ steps) (m, (f, (old, w, e)), rest) t l =
    absurd (false≢true (sym (unlost m q steps rest t l) ∙ ap (λ (o : Port). o.lost) e))
unlost p q (Step.Tells overrun ∷ steps) (m, (is, e), rest) t l = sym is ∙ t.0

-- and then what was received and what waits is all that waited and came
keeps_all : (p q : Port) (steps : List Step) → DoesAll p steps q → AllByRecursion (λ overrun. overrun ≡ false) (told_in steps) →
    q.lost ≡ false → received_in steps ++ q.waiting ≡ p.waiting ++ came_in steps
keeps_all p q [] h t l = ap (λ (o : Port). o.waiting) h ∙ sym (append-nil p.waiting)
keeps_all p q (Step.Sends bytes ∷ steps) (m, e, rest) t l =
    keeps_all m q steps rest t l ∙ ap (λ (o : Port). o.waiting ++ came_in steps) e
keeps_all p q (Step.Receives bytes ∷ steps) (m, (w, e), rest) t l =
    append_assoc bytes (received_in steps) q.waiting
    ∙ (ap (λ zs. bytes ++ zs) (keeps_all m q steps rest t l)
    ∙ (sym (append_assoc bytes m.waiting (came_in steps)) ∙ ap (λ zs. zs ++ came_in steps) (sym w)))
keeps_all p q (Step.Arrives byte ∷ steps) (m, (r, e), rest) t l =
    keeps_all m q steps rest t l
    ∙ (ap (λ (o : Port). o.waiting ++ came_in steps) e ∙ append_assoc p.waiting (byte ∷ []) (came_in steps))
keeps_all p q (Step.LosesNew byte ∷ steps) (m, (f, r, e), rest) t l =
    absurd (false≢true (sym (unlost m q steps rest t l) ∙ ap (λ (o : Port). o.lost) e))
keeps_all p q (Step.LosesOld byte ∷ steps) (m, (f, (old, w, e)), rest) t l =
    absurd (false≢true (sym (unlost m q steps rest t l) ∙ ap (λ (o : Port). o.lost) e))
keeps_all p q (Step.Tells overrun ∷ steps) (m, (is, e), rest) t l =
    keeps_all m q steps rest t.1 l ∙ ap (λ (o : Port). o.waiting ++ came_in steps) e

-- ---- in order

skip : (xs ys : List ℕ) (y : ℕ) → IsPart xs ys → IsPart xs (y ∷ ys)
skip [] ys y part = tt
skip (x ∷ xs) ys y part = inr part

part_all : (xs : List ℕ) → IsPart xs xs
part_all [] = tt
part_all (x ∷ xs) = inl (refl, part_all xs)

part_behind : (zs xs ys : List ℕ) → IsPart xs ys → IsPart (zs ++ xs) (zs ++ ys)
part_behind [] xs ys part = part
part_behind (z ∷ zs) xs ys part = inl (refl, part_behind zs xs ys part)

part_more : (xs front ys : List ℕ) (y : ℕ) → IsPart xs (front ++ ys) → IsPart xs (front ++ y ∷ ys)
part_more xs [] ys y part = skip xs ys y part
part_more [] (z ∷ front) ys y part = tt
part_more (x ∷ xs) (z ∷ front) ys y (inl (e, part)) = inl (e, part_more xs front ys y part)
part_more (x ∷ xs) (z ∷ front) ys y (inr part) = inr (part_more (x ∷ xs) front ys y part)

part_as : (xs vs ys ws : List ℕ) → xs ≡ vs → ys ≡ ws → IsPart xs ys → IsPart vs ws
part_as xs vs ys ws e f part =
    subst (λ (zs : List ℕ). IsPart zs ws) e (subst (λ (zs : List ℕ). IsPart xs zs) f part)

keeps_order : (p q : Port) (steps : List Step) → DoesAll p steps q →
    IsPart (received_in steps ++ q.waiting) (p.waiting ++ came_in steps)
keeps_order p q [] h =
    part_as p.waiting q.waiting p.waiting (p.waiting ++ []) (sym (ap (λ (o : Port). o.waiting) h)) (sym (append-nil p.waiting))
    (part_all p.waiting)
keeps_order p q (Step.Sends bytes ∷ steps) (m, e, rest) =
    part_as _ _ _ _ refl (ap (λ (o : Port). o.waiting ++ came_in steps) e) (keeps_order m q steps rest)
keeps_order p q (Step.Receives bytes ∷ steps) (m, (w, e), rest) =
    part_as (bytes ++ (received_in steps ++ q.waiting)) ((bytes ++ received_in steps) ++ q.waiting)
    (bytes ++ (m.waiting ++ came_in steps)) (p.waiting ++ came_in steps)
    (sym (append_assoc bytes (received_in steps) q.waiting))
    (sym (append_assoc bytes m.waiting (came_in steps)) ∙ ap (λ zs. zs ++ came_in steps) (sym w))
    (part_behind bytes (received_in steps ++ q.waiting) (m.waiting ++ came_in steps) (keeps_order m q steps rest))
keeps_order p q (Step.Arrives byte ∷ steps) (m, (r, e), rest) =
    part_as _ _ _ _ refl (ap (λ (o : Port). o.waiting ++ came_in steps) e ∙ append_assoc p.waiting (byte ∷ []) (came_in steps))
    (keeps_order m q steps rest)
keeps_order p q (Step.LosesNew byte ∷ steps) (m, (f, r, e), rest) =
    part_more (received_in steps ++ q.waiting) p.waiting (came_in steps) byte
    (part_as _ _ _ _ refl (ap (λ (o : Port). o.waiting ++ came_in steps) e) (keeps_order m q steps rest))
keeps_order p q (Step.LosesOld byte ∷ steps) (m, (f, (old, w, e)), rest) =
    part_as (received_in steps ++ q.waiting) _ (old ∷ byte ∷ came_in steps) _ refl (ap (λ zs. zs ++ byte ∷ came_in steps) (sym w))
    (skip (received_in steps ++ q.waiting) (byte ∷ came_in steps) old
    (part_as _ _ _ _ refl (ap (λ (o : Port). o.waiting ++ came_in steps) e) (keeps_order m q steps rest)))
keeps_order p q (Step.Tells overrun ∷ steps) (m, (l, e), rest) =
    part_as _ _ _ _ refl (ap (λ (o : Port). o.waiting ++ came_in steps) e) (keeps_order m q steps rest)

-- ---- each run of a port

pub loses_nothing_silently : PortsLoseNothingSilently
loses_nothing_silently p q steps h = record {
  sends = port_sends p q steps h;
  receives = keeps_order p q steps h;
  tells = λ told lost. keeps_all p q steps h told lost;
}
