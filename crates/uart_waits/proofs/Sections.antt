-- Tasks are counted through sections.
use Rattle.std.proofs.Common.{◌≡◌, ◌+◌, Bool, true, false, [], ◌∷◌, Option, Some, None, refl, sym, ap, subst, arith}
use Rattle.std.specs.Prelude.{if◌then◌else◌}
use Rattle.uart_waits.specs.declared.awaited.Awaited.{Awaited}
use Rattle.uart_waits.specs.declared.awaited.Awaited.TheVariants.{ReceivedByte}
use Rattle.uart_waits.specs.declared.awaited.Seen.{Seen}
use Rattle.uart_waits.specs.declared.waits.Waiter.{Waiter}
use Rattle.uart_waits.specs.declared.waits.Waits.{Waits}
use Rattle.uart_waits.specs.Waits.{IsPut, due_of, is_due, left_of}
use Rattle.uart_waits.specs.Laws.{EachIsWokenOnce, IsToWait, Leads, NobodyIsForgotten, Puts, Section, count, waiting}

-- a place is parted: its task is handed out, or stays
parted : {W : Type 0} (p : Waiter W → Bool) (seen : Option Seen) (place : Option (Waiter W)) →
    count p place ≡ count p (due_of seen place) + count p (left_of seen place)
parted p seen None = refl
parted {W} p seen (Some waiter) =
    let none : Option (Waiter W) = None in
    elim (is_due seen waiter.awaited) as (λ b.
    count p (Some waiter) ≡ count p (if b then Some waiter else none) + count p (if b then none else Some waiter)) [
      | true ↦ omega arith
      | false ↦ omega arith
    ]

-- a task that comes into a place
put : {W : Type 0} (p : Waiter W → Bool) (awaited : Awaited) (waiter : Waiter W) (replaced : Option (Waiter W)) (old new : Waits W) →
    IsPut awaited waiter replaced old new → waiting p old + count p (Some waiter) ≡ count p replaced + waiting p new
put p ReceivedByte waiter replaced old new t =
    omega (arith, ap (λ (x : _). count p x) t.0, ap (λ (x : _). count p x) t.1, ap (λ (x : _). count p x) t.2)
put p _ waiter replaced old new t =
    omega (arith, ap (λ (x : _). count p x) t.0, ap (λ (x : _). count p x) t.1, ap (λ (x : _). count p x) t.2)

puts : {W : Type 0} (p : Waiter W → Bool) (comes replaced : Option (Waiter W)) (old new : Waits W) → Puts comes replaced old new →
    waiting p old + count p comes ≡ count p replaced + waiting p new
puts p None replaced old new t =
    omega (arith, ap (λ (x : _). count p x) t.0, ap (λ (x : _). waiting p x) t.1)
puts p (Some waiter) replaced old new t = put p waiter.awaited waiter replaced old new t

-- one section
section : {W : Type 0} (p : Waiter W → Bool) (s : Section W) (old new : Waits W) → Leads s old new →
    waiting p old + count p s.comes ≡ count p s.replaced + (count p s.due.receive + count p s.due.transmit) + waiting p new
section p s old new t =
    let mid = t.0 in
    let takes = t.2 in
    omega (
      arith,
      puts p s.comes s.replaced old mid t.1,
      parted p s.seen mid.receive,
      parted p s.seen mid.transmit,
      ap (λ (x : _). count p x) takes.receive,
      ap (λ (x : _). count p x) takes.transmit,
      ap (λ (x : _). count p x) takes.receive_left,
      ap (λ (x : _). count p x) takes.transmit_left,
    )

pub each_is_woken_once : {W : Type 0} → EachIsWokenOnce W
each_is_woken_once p [] old new t = omega (arith, ap (λ (x : _). waiting p x) t)
each_is_woken_once p (s ∷ sections) old new t =
    omega (arith, section p s old t.0 t.1, each_is_woken_once p sections t.0 new t.2)

-- who is left has nothing to be woken for
is_left : {W : Type 0} (seen : Option Seen) (waiter : Waiter W) (b : Bool) → is_due seen waiter.awaited ≡ b →
    IsToWait seen (if b then None else Some waiter)
is_left seen waiter true e = tt
is_left seen waiter false e = e

left : {W : Type 0} (seen : Option Seen) (place : Option (Waiter W)) → IsToWait seen (left_of seen place)
left seen None = tt
left seen (Some waiter) = is_left seen waiter (is_due seen waiter.awaited) refl

pub nobody_is_forgotten : {W : Type 0} → NobodyIsForgotten W
nobody_is_forgotten {W} s old new t =
    let P : Option (Waiter W) → Type 0 = (λ x. IsToWait s.seen x) in
    let takes = t.2 in
    (subst P (sym takes.receive_left) (left s.seen t.0.receive), subst P (sym takes.transmit_left) (left s.seen t.0.transmit))

-- what the law cites
pub ruleset waking = (each_is_woken_once, nobody_is_forgotten)
