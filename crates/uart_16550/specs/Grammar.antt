-- Languages of register accesses: the lists that a call may make.
use Rattle.std.specs.Prelude.{◌≡◌, ◌<◌, ℕ, Bool, List, [], ◌∷◌, ◌++◌, MatchBool, zero, suc}
use Rattle.uart_spec.specs.Bits.{has}
use Rattle.uart_spec.specs.declared.access.Access.{Access}
use Rattle.uart_spec.specs.declared.access.Access.TheVariants.{Read, Write}
use Rattle.uart_spec.specs.declared.setup.FifoSize.{FifoSize}

-- A call's list is a language of whole lists, made of the few words below. It is not the call's loop written again,
-- which could repeat the loop's fault. A language takes the call's result too, so list and result are tied to each
-- other.

-- what the lists of a call depend on: whether CTS is checked before sending, whether the FIFO is on, which size it is
-- taken to have, and the spin limit
pub record Settings : Type 0 where
  pub checks : Bool
  pub fifo : Bool
  pub size : FifoSize
  pub limit : ℕ

-- the lists of accesses that a call may make under some settings
abbrev pub Language : Type 1
Language = Settings → List Access → Type 0

-- these accesses in this order, and no other
pub record Only (list : List Access) (s : Settings) (l : List Access) : Type 0 where
  pub is : l ≡ list

-- a list of the first, then one of the second
pub record Then (P Q : Language) (s : Settings) (l : List Access) : Type 0 where
  pub front : List Access
  pub back : List Access
  pub whole : l ≡ front ++ back
  pub first : P s front
  pub second : Q s back

-- a list of the language of each item, in order
abbrev pub InOrder : {A : Type 0} → (A → Language) → List A → Language
InOrder P [] = Only []
InOrder P (item ∷ items) = Then (P item) (InOrder P items)

-- n lists of the language
abbrev pub Times : ℕ → Language → Language
Times zero P = Only []
Times (suc n) P = Then P (Times n P)

-- Misses count in a row. Progress ends a row, since the next wait is a part of its own in the list.

-- fewer of them in a row than the spin limit
abbrev pub FewMisses : Language → Language
FewMisses P s l = (n : ℕ) × (n < s.limit) × Times n P s l

-- as many of them in a row as the spin limit
abbrev pub AllMisses : Language → Language
AllMisses P s l = Times s.limit P s l

-- one read of a register, whose answer has all of these bits, or does not
pub record Asks (register bits : ℕ) (outcome : Bool) (s : Settings) (l : List Access) : Type 0 where
  pub answer : ℕ
  pub shows : has answer bits ≡ outcome
  pub is : l ≡ Read register answer ∷ []

-- one read of the register, with any answer
abbrev pub ReadsRegister : ℕ → Language
ReadsRegister register s l = (answer : ℕ) × (l ≡ Read register answer ∷ [])

-- one read of the register, and a write of what its answer is changed to
abbrev pub Modifies : (register : ℕ) → (ℕ → ℕ) → Language
Modifies register change s l = (answer : ℕ) × (l ≡ Read register answer ∷ Write register (change answer) ∷ [])

-- the first language if CTS is checked, otherwise the second; likewise if the FIFO is on
abbrev pub IfChecks : Language → Language → Language
IfChecks P Q s l = MatchBool s.checks (P s l) (Q s l)

abbrev pub IfFifo : Language → Language → Language
IfFifo P Q s l = MatchBool s.fifo (P s l) (Q s l)

-- no list at all
abbrev pub Never : Language
Never s l = ⊥
