-- Whether some character of a queue has errors, or some one behind the front.
use Rattle.std.proofs.Common.{◌≡◌, ℕ, zero, suc, ◌+◌, ◌-◌, ◌<◌, ◌≤◌, Bool, true, false, ◌||◌, List, [], ◌∷◌, take, drop, map}
use Rattle.std.proofs.Common.{length, get_or, bit_and, refl, sym, ap, ◌∙◌, arith}
use Rattle.std.specs.List.{list_any, slice_range}
use Rattle.std.proofs.lemmas.List.{take_min, drop-take, drop-map, length-take, length-map}
use Rattle.uart_c.specs.Queue.{character_of}
use Rattle.uart_c.specs.declared.queue.UartCharacter.{UartCharacter}
use Rattle.uart_chip.specs.Receiver.{front_errors, unreported}
use Rattle.uart_chip.specs.declared.receiver.Character.{Character}
use Rattle.uart_spec.specs.declared.registers.line_status.TheConstants.LSR

any_map : {X Y : Type 0} (p : Y → Bool) (f : X → Y) (xs : List X) → list_any (λ x. p (f x)) xs ≡ list_any p (map f xs)
any_map p f [] = refl
any_map p f (x ∷ xs) = ap (λ more. p (f x) || more) (any_map p f xs)

whole : {X Y : Type 0} (f : X → Y) (n len : ℕ) (items : List X) → len ≡ length (map f (take n items)) → take len items ≡ take n items
whole f n len items is = ap (λ k. take k items) (is ∙ length-map (take n items) f ∙ length-take n items) ∙ take_min n items

pub any_of_all : {X : Type 0} (p : Character → Bool) (f : X → Character) (n len : ℕ) (items : List X) (reported : Bool) →
    len ≡ length (map f (take n items)) → reported ≡ false →
    list_any (λ x. p (f x)) (take len items) ≡ list_any p (unreported (map f (take n items)) reported)
any_of_all p f n len items reported is off =
    any_map p f (take len items) ∙ ap (λ xs. list_any p (map f xs)) (whole f n len items is) ∙
    ap (λ b. list_any p (unreported (map f (take n items)) b)) (sym off)

pub none_of_none : (p : Character → Bool) (queue : List Character) (reported : Bool) → 0 ≡ length queue →
    false ≡ list_any p (unreported queue reported)
none_of_none p [] true is = refl
none_of_none p [] false is = refl
none_of_none p (x ∷ xs) reported is = absurd (omega (arith, is))

pub any_behind : {X : Type 0} (p : Character → Bool) (f : X → Character) (n len : ℕ) (items : List X) (reported : Bool) →
    len ≡ length (map f (take n items)) → 0 < len → reported ≡ true →
    list_any (λ x. p (f x)) (slice_range items 1 len) ≡ list_any p (unreported (map f (take n items)) reported)
any_behind p f n len items reported is some on =
    let more : 1 + (len - 1) ≡ len = omega (arith, some) in
    let behind : slice_range items 1 len ≡ drop 1 (take n items) =
    sym (drop-take 1 (len - 1) items) ∙ ap (λ k. drop 1 (take k items)) more ∙ ap (λ xs. drop 1 xs) (whole f n len items is) in
    any_map p f (slice_range items 1 len) ∙ ap (λ xs. list_any p (map f xs)) behind ∙
    ap (λ xs. list_any p xs) (sym (drop-map f 1 (take n items))) ∙
    ap (λ b. list_any p (unreported (map f (take n items)) b)) (sym on)

-- the first item is the front, whose errors were not reported
pub front_is : (n : ℕ) (items : List UartCharacter) (reported : Bool) (d : UartCharacter) → 1 ≤ n → 1 ≤ length items → false ≡ reported →
    bit_and (get_or items 0 d).errors LSR.CHARACTER_ERRORS.0 ≡ front_errors (map character_of (take n items)) reported
front_is zero items reported d some there off = absurd (omega (arith, some))
front_is (suc n) [] reported d some there off = absurd (omega (arith, there))
front_is (suc n) (x ∷ xs) true d some there off = absurd (cc)
front_is (suc n) (x ∷ xs) false d some there off = refl
