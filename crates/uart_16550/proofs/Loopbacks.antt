-- The pieces of the loopback test.
use Rattle.std.proofs.Common.{◌≡◌, ◌++◌, ◌+◌, ◌<◌, ℕ, Bool, true, List, [], ◌∷◌, Option, Some, None, Result, Ok, Err, inr, ap, ◌∙◌, length}
use Rattle.std.proofs.Common.{map, take, drop, get_or, add-one, drop-cons}
use Rattle.std.proofs.lemmas.List.{take-append-drop, map-append}
use Rattle.uart_spec.specs.declared.errors.LoopbackError.{LoopbackError}
use Rattle.uart_spec.specs.declared.access.Access.{Access}
use Rattle.uart_spec.specs.declared.access.Access.TheVariants.{Write}
use Rattle.uart_16550.specs.Grammar.{Settings, Only, Then}
use Rattle.uart_16550.specs.Receive.{Awaits}
use Rattle.uart_16550.specs.Transmit.{Round}
use Rattle.uart_16550.specs.Driver.{Made, Did, Doing, Next, Saving, fields}
use Rattle.uart_16550.specs.Loopback.{HasEchoed, DrainsLoopback, ExchangesByte, ExchangesMessage, Exchanges, Enters, Leaves, Inside, Tests}
use Rattle.uart_16550.specs.declared.driver.Uart16550.{Uart16550}
use Rattle.uart_16550.proofs.Making.{made_among}
use Rattle.uart_16550.proofs.Doings.{did_then}

-- what was received for a byte that was sent, or the wait for it that reaches the limit
pub echoed : (byte : ℕ) (back : Option ℕ) (s : Settings) (l : List Access) → Then (Round (byte ∷ [])) (Awaits back) s l →
    HasEchoed byte back s l
echoed byte (Some back) s l t = t
echoed byte None s l t = inr t

-- the message's answer is that of the whole exchange
pub exchanged : {T : Type 0} (result : Result T LoopbackError) (s : Settings) (l : List Access) →
    Then (DrainsLoopback true) (Then (ExchangesByte {T = Unit {0}} (Ok tt)) (ExchangesMessage result)) s l → Exchanges result s l
exchanged (Ok x) s l t = t
exchanged (Err e) s l t = inr (inr t)

-- a list around one of its items
pub parted : (xs : List ℕ) (i : ℕ) → i < length xs → take i xs ++ (get_or xs i 0 ∷ drop (i + 1) xs) ≡ xs
parted xs i within = rw (add-one, ← drop-cons xs i 0 within) (take-append-drop i xs)

-- one more item of a list that is mapped to another
pub map_one : {X : Type 0} (f : X → ℕ) (items : List X) (item : X) (xs : List ℕ) → map f items ≡ xs →
    map f (items ++ item ∷ []) ≡ xs ++ f item ∷ []
map_one f items item xs same = map-append f items (item ∷ []) ∙ ap (λ ys. ys ++ f item ∷ []) same

-- a write, at another name of its value
pub made_value : {B : Type 0} {step : B → Access → B → Type 0} (offset value same : ℕ) {a b : Uart16550 B} → value ≡ same →
    Made step (Only (Write offset value ∷ [])) a b → Made step (Only (Write offset same ∷ [])) a b
made_value offset value same is p = made_among (λ l t. record { is = t.is ∙ ap (λ (x : ℕ). Write offset x ∷ []) is }) p

-- the test after its first wait
pub tested : {T B : Type 0} {step : B → Access → B → Type 0} (mcr ier before : ℕ) (result : Result T LoopbackError) {a b c : Uart16550 B} →
    Did step (Enters before (fields b).fifo) a b → Did step (Next (Saving (Exchanges result)) (Leaves mcr ier before (fields a).lsr)) b c →
    Did step (Tests mcr ier result) a c
tested mcr ier before result {b = b} p q =
    let all = did_then p q in
    record { list = all.list; path = all.path; does = (before, (fields b).fifo, all.does) }

-- something that is done in loopback
pub inside : {B : Type 0} {step : B → Access → B → Type 0} {enters : ℕ → Bool → Doing} {during : Doing} (mcr ier before : ℕ) (fifo : Bool)
    {a b c d : Uart16550 B} → Did step (enters before fifo) a b → Did step during b c →
    Did step (Leaves mcr ier before (fields a).lsr) c d → Did step (Inside enters during mcr ier) a d
inside mcr ier before fifo p q r =
    let all = did_then p (did_then q r) in
    record { list = all.list; path = all.path; does = (before, fifo, all.does) }
