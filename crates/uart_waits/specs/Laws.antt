-- Sections one after another: who comes, and who is handed out to be woken.
use Rattle.std.specs.Prelude.{◌≡◌, ℕ, ◌+◌, Bool, false, List, [], ◌∷◌, Option, Some, None, if◌then◌else◌}
use Rattle.uart_waits.specs.declared.awaited.Seen.{Seen}
use Rattle.uart_waits.specs.declared.waits.Due.{Due}
use Rattle.uart_waits.specs.declared.waits.Waiter.{Waiter}
use Rattle.uart_waits.specs.declared.waits.Waits.{Waits}
use Rattle.uart_waits.specs.Waits.{Registers, Takes, is_due}

-- a section: the task that comes, if one does, what is then to be seen of the rings, if there are some, and who is
-- handed out to be woken: the task whose place was taken, and those whose turn it is
pub record Section (W : Type 0) : Type 0 where
  pub comes : Option (Waiter W)
  pub seen : Option Seen
  pub replaced : Option (Waiter W)
  pub due : Due W

-- nobody comes, or a task is registered
abbrev pub Puts : {W : Type 0} → Option (Waiter W) → Option (Waiter W) → Waits W → Waits W → Type 0
Puts None replaced old new = (replaced ≡ None) × (new ≡ old)
Puts (Some waiter) replaced old new = Registers waiter replaced old new

-- a section leads from the one state of the places to the other
abbrev pub Leads : {W : Type 0} → Section W → Waits W → Waits W → Type 0
Leads {W} s old new = (put : Waits W) × Puts s.comes s.replaced old put × Takes s.seen s.due put new

-- these sections do, one after another
abbrev pub Lead : {W : Type 0} → List (Section W) → Waits W → Waits W → Type 0
Lead [] old new = new ≡ old
Lead {W} (s ∷ sections) old new = (mid : Waits W) × Leads s old mid × Lead sections mid new

-- 1 if there is a task of these, else 0
abbrev pub count : {W : Type 0} → (Waiter W → Bool) → Option (Waiter W) → ℕ
count p None = 0
count p (Some waiter) = if p waiter then 1 else 0

-- how many of these tasks wait
abbrev pub waiting : {W : Type 0} → (Waiter W → Bool) → Waits W → ℕ
waiting p w = count p w.receive + count p w.transmit

-- how many of them came in the course of the sections
abbrev pub came : {W : Type 0} → (Waiter W → Bool) → List (Section W) → ℕ
came p [] = 0
came p (s ∷ sections) = count p s.comes + came p sections

-- how many of them were handed out to be woken
abbrev pub woken : {W : Type 0} → (Waiter W → Bool) → List (Section W) → ℕ
woken p [] = 0
woken p (s ∷ sections) = count p s.replaced + (count p s.due.receive + count p s.due.transmit) + woken p sections

-- of whatever tasks: those that waited and those that came are those that were handed out and those that wait
abbrev pub EachIsWokenOnce : Type 0 → Type 0
EachIsWokenOnce W = (p : Waiter W → Bool) (sections : List (Section W)) (old new : Waits W) → Lead sections old new →
    waiting p old + came p sections ≡ woken p sections + waiting p new

-- a task in a place has nothing to be woken for
abbrev pub IsToWait : {W : Type 0} → Option Seen → Option (Waiter W) → Type 0
IsToWait seen None = Unit {0}
IsToWait seen (Some waiter) = is_due seen waiter.awaited ≡ false

-- who waits after a section has nothing to be woken for
abbrev pub NobodyIsForgotten : Type 0 → Type 0
NobodyIsForgotten W = (s : Section W) (old new : Waits W) → Leads s old new →
    IsToWait s.seen new.receive × IsToWait s.seen new.transmit
