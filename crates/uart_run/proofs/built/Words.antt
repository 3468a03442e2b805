-- Languages, and doings, that are built of the words of the grammar, as data. So what holds of the accesses of all of their lists is proved
-- by one induction over the words, and of a call it is told only how it is built.
use Rattle.uart_run.proofs.Names.{◌≡◌, ◌⊎◌, ℕ, zero, suc, ◌==◌, ◌&&◌, ◌||◌, Bool, true, false, List, [], ◌∷◌, inl, inr, refl, ap, ◌∙◌}
use Rattle.uart_run.proofs.Names.{MatchBool, and_parts, or_cases, eqb-true, false≢true, AllByRecursion, Access, Read, Write, Config}
use Rattle.uart_run.proofs.Names.{FifoSize, Language, Settings, Only, Then, InOrder, Times, FewMisses, AllMisses, Asks, ReadsRegister}
use Rattle.uart_run.proofs.Names.{IfChecks, IfFifo, Never, Doing, Fields, Saving, Plain, Sets, Next, saving, settings_of, each-append}
use Rattle.uart_run.proofs.Names.{each-weaker}
use Rattle.uart_run.proofs.ListsInTurn.{HoldsOfAll, HoldsOfDoing}

-- what may change of the driver's configuration: nothing; something, but not whether CTS is checked before sending; anything
pub data Alters : Type 0 where
  nothing : Alters
  but_checks : Alters
  anything : Alters

-- which registers are read, which are written, and what changes of the configuration
pub record Kinds : Type 0 where
  pub reads : List ℕ
  pub writes : List ℕ
  pub alters : Alters

abbrev pub is_among : List ℕ → ℕ → Bool
is_among [] register = false
is_among (one ∷ others) register = (register == one) || is_among others register

-- an access is of one of these kinds, and each of a list is
abbrev pub is_of : Kinds → Access → Bool
is_of kinds (Read register answer) = is_among kinds.reads register
is_of kinds (Write register value) = is_among kinds.writes register

abbrev pub are_of : Kinds → List Access → Bool
are_of kinds [] = true
are_of kinds (access ∷ accesses) = is_of kinds access && are_of kinds accesses

-- each of these registers passes this test
abbrev pub all_pass : (test : ℕ → Bool) → List ℕ → Bool
all_pass test [] = true
all_pass test (one ∷ others) = test one && all_pass test others

-- who may change the one may change the other
abbrev pub allows : (more alters : Alters) → Bool
allows more nothing = true
allows but_checks but_checks = true
allows anything other = true
allows more other = false

-- what is of the one kinds is of the others
abbrev pub covers : (more kinds : Kinds) → Bool
covers more kinds =
    all_pass (is_among more.reads) kinds.reads && (all_pass (is_among more.writes) kinds.writes && allows more.alters kinds.alters)

-- a language that is built so, with accesses of these kinds alone. What a call does not build of words alone, as a sum over results whose
-- lists are by cases of the result, is among the lists of a language that it does
pub data Built : Kinds → Language → Type 1 where
  only : {kinds : Kinds} (list : List Access) → are_of kinds list ≡ true → Built kinds (Only list)
  exactly : {kinds : Kinds} (list : List Access) → are_of kinds list ≡ true → Built kinds (λ s l. l ≡ list)
  asks : {kinds : Kinds} {register bits : ℕ} {outcome : Bool} → is_among kinds.reads register ≡ true →
      Built kinds (Asks register bits outcome)
  then : {kinds : Kinds} {P Q : Language} → Built kinds P → Built kinds Q → Built kinds (Then P Q)
  times : {kinds : Kinds} (n : ℕ) {P : Language} → Built kinds P → Built kinds (Times n P)
  limited : {kinds : Kinds} {P : Language} → Built kinds P → Built kinds (AllMisses P)
  in_order : {kinds : Kinds} {A : Type 0} {P : A → Language} (items : List A) → ((item : A) → Built kinds (P item)) →
      Built kinds (InOrder P items)
  never : {kinds : Kinds} → Built kinds Never
  if_checks : {kinds : Kinds} {P Q : Language} → Built kinds P → Built kinds Q → Built kinds (IfChecks P Q)
  if_fifo : {kinds : Kinds} {P Q : Language} → Built kinds P → Built kinds Q → Built kinds (IfFifo P Q)
  either : {kinds : Kinds} {P Q : Language} → Built kinds P → Built kinds Q → Built kinds (λ s l. P s l ⊎ Q s l)
  some : {kinds : Kinds} {A : Type 0} {P : A → Language} → ((a : A) → Built kinds (P a)) → Built kinds (λ s l. (a : A) × P a s l)
  among : {kinds : Kinds} {P Q : Language} → ((s : Settings) (l : List Access) → Q s l → P s l) → Built kinds P → Built kinds Q
  wider : {kinds more : Kinds} {P : Language} → covers more kinds ≡ true → Built kinds P → Built more P

pub few : {kinds : Kinds} {P : Language} → Built kinds P → Built kinds (FewMisses P)
few p = among (λ s l t. (t.0, t.2)) (some (λ n. times n p))

pub reads : {kinds : Kinds} {register : ℕ} → is_among kinds.reads register ≡ true → Built kinds (ReadsRegister register)
reads {register} of = some (λ answer. exactly (Read register answer ∷ []) (both of))
  where
    both : {b : Bool} → b ≡ true → (b && true) ≡ true
    both p = rw p refl

-- what nothing changes that a call does: for which size the driver takes the FIFOs, and its spin limit
abbrev pub told_of : Fields → FifoSize × ℕ
told_of f = (f.size, f.limit)

abbrev pub LeavesConfig : Alters → (f after : Fields) → Type 0
LeavesConfig nothing f after = after.config ≡ f.config
LeavesConfig but_checks f after = after.config.check_cts_before_sending ≡ f.config.check_cts_before_sending
LeavesConfig anything f after = Unit

-- the fields are as they were, but for what is saved, for whether the FIFOs are taken to be on, and for what may change
abbrev pub Leaves : Alters → (f after : Fields) → Type 0
Leaves alters f after = (told_of after ≡ told_of f) × LeavesConfig alters f after

-- what a call does, built so
pub data Does : Kinds → Doing → Type 1 where
  makes : {kinds : Kinds} {L : Language} → Built kinds L → (change : Fields → List Access → Fields) →
      ((f : Fields) (l : List Access) → Leaves kinds.alters f (change f l)) →
      Does kinds (λ f l after. L (settings_of f) l × (after ≡ change f l))
  next : {kinds : Kinds} {G H : Doing} → Does kinds G → Does kinds H → Does kinds (Next G H)
  either_does : {kinds : Kinds} {G H : Doing} → Does kinds G → Does kinds H → Does kinds (λ f l after. G f l after ⊎ H f l after)
  some_does : {kinds : Kinds} {A : Type 0} {G : A → Doing} → ((a : A) → Does kinds (G a)) →
      Does kinds (λ f l after. (a : A) × G a f l after)
  by_fields : {kinds : Kinds} {G : Fields → Doing} {H : Doing} →
      ((f : Fields) (l : List Access) (after : Fields) → H f l after → G f f l after) → ((g : Fields) → Does kinds (G g)) → Does kinds H
  among_does : {kinds : Kinds} {G H : Doing} → ((f : Fields) (l : List Access) (after : Fields) → H f l after → G f l after) →
      Does kinds G → Does kinds H
  wider_does : {kinds more : Kinds} {G : Doing} → covers more kinds ≡ true → Does kinds G → Does more G

-- who leaves the configuration as it is leaves it whatever else may change
unaltered : (alters : Alters) (f after : Fields) → after.config ≡ f.config → LeavesConfig alters f after
unaltered nothing f after same = same
unaltered but_checks f after same = ap (λ (c : Config). c.check_cts_before_sending) same
unaltered anything f after same = tt

pub saves : {kinds : Kinds} {L : Language} → Built kinds L → Does kinds (Saving L)
saves {kinds} p = makes p saving (λ f l. (refl, unaltered kinds.alters f (saving f l) refl))

pub looks : {kinds : Kinds} {L : Language} → Built kinds L → Does kinds (Plain L)
looks {kinds} p = makes p (λ f l. f) (λ f l. (refl, unaltered kinds.alters f f refl))

pub sets : {kinds : Kinds} (change : Fields → Fields) → ((f : Fields) → Leaves kinds.alters f (change f)) → Does kinds (Sets change)
sets change kept = makes (exactly [] refl) (λ f l. change f) (λ f l. kept f)

-- ---- each access of their lists is of these kinds

abbrev pub IsOf : Kinds → Access → Type 0
IsOf kinds access = is_of kinds access ≡ true

abbrev pub AllOf : Kinds → List Access → Type 0
AllOf kinds l = AllByRecursion (IsOf kinds) l

each_of : (kinds : Kinds) (l : List Access) → are_of kinds l ≡ true → AllOf kinds l
each_of kinds [] are = tt
each_of kinds (access ∷ l) are =
    let p = and_parts (is_of kinds access) (are_of kinds l) are in
    (p.0, each_of kinds l p.1)

-- if a test of registers holds of all of these, it holds of each
pub passes : (test : ℕ → Bool) (registers : List ℕ) (register : ℕ) → all_pass test registers ≡ true → is_among registers register ≡ true →
    test register ≡ true
passes test [] register all is = absurd (false≢true is)
passes test (one ∷ others) register all is =
    let p = and_parts (test one) (all_pass test others) all in
    by p.0 (λ later. passes test others register p.1 later) (or_cases (register == one) (is_among others register) is)
  where
    by : test one ≡ true → (is_among others register ≡ true → test register ≡ true) →
        ((register == one) ≡ true) ⊎ (is_among others register ≡ true) → test register ≡ true
    by passed rest (inl same) = rw (eqb-true register one same) passed
    by passed rest (inr later) = rest later

widened : (more kinds : Kinds) → covers more kinds ≡ true → (access : Access) → IsOf kinds access → IsOf more access
widened more kinds c (Read register answer) is =
    passes (is_among more.reads) kinds.reads register (and_parts (all_pass (is_among more.reads) kinds.reads) _ c).0 is
widened more kinds c (Write register value) is =
    let later = (and_parts (all_pass (is_among more.reads) kinds.reads) _ c).1 in
    passes (is_among more.writes) kinds.writes register (and_parts (all_pass (is_among more.writes) kinds.writes) _ later).0 is

module _ (kinds : Kinds) (s : Settings) where
  of_only : (list : List Access) → are_of kinds list ≡ true → HoldsOfAll (AllOf kinds) s (Only list)
  of_only list are l t = rw t.is (each_of kinds list are)

  of_then : (P Q : Language) → HoldsOfAll (AllOf kinds) s P → HoldsOfAll (AllOf kinds) s Q →
      HoldsOfAll (AllOf kinds) s (Then P Q)
  of_then P Q p q l t = rw t.whole (each-append (IsOf kinds) t.front t.back (p t.front t.first) (q t.back t.second))

  of_times : (n : ℕ) (P : Language) → HoldsOfAll (AllOf kinds) s P → HoldsOfAll (AllOf kinds) s (Times n P)
  of_times zero P p l t = rw t.is tt
  of_times (suc n) P p l t = of_then P (Times n P) p (λ k u. of_times n P p k u) l t

  of_in_order : {A : Type 0} (P : A → Language) (items : List A) → ((item : A) → HoldsOfAll (AllOf kinds) s (P item)) →
      HoldsOfAll (AllOf kinds) s (InOrder P items)
  of_in_order P [] p l t = rw t.is tt
  of_in_order P (item ∷ items) p l t = of_then (P item) (InOrder P items) (p item) (λ k u. of_in_order P items p k u) l t

  of_if : (b : Bool) (P Q : Language) → HoldsOfAll (AllOf kinds) s P → HoldsOfAll (AllOf kinds) s Q → (l : List Access) →
      MatchBool b (P s l) (Q s l) → AllOf kinds l
  of_if true P Q p q l t = p l t
  of_if false P Q p q l t = q l t

  of_either : (P Q : Language) → HoldsOfAll (AllOf kinds) s P → HoldsOfAll (AllOf kinds) s Q → (l : List Access) →
      P s l ⊎ Q s l → AllOf kinds l
  of_either P Q p q l (inl t) = p l t
  of_either P Q p q l (inr t) = q l t

pub of_kinds : {kinds : Kinds} {P : Language} → Built kinds P → (s : Settings) → HoldsOfAll (AllOf kinds) s P
of_kinds (only {kinds} list are) s l t = of_only kinds s list are l t
of_kinds (exactly {kinds} list are) s l t = rw t (each_of kinds list are)
of_kinds (asks is) s l t = rw t.is (is, tt)
of_kinds (then {kinds} p q) s l t = of_then kinds s _ _ (of_kinds p s) (of_kinds q s) l t
of_kinds (times {kinds} n p) s l t = of_times kinds s n _ (of_kinds p s) l t
of_kinds (limited {kinds} p) s l t = of_times kinds s s.limit _ (of_kinds p s) l t
of_kinds (in_order {kinds} items p) s l t = of_in_order kinds s _ items (λ item. of_kinds (p item) s) l t
of_kinds never s l t = absurd t
of_kinds (if_checks {kinds} {P} {Q} p q) s l t = of_if kinds s s.checks P Q (of_kinds p s) (of_kinds q s) l t
of_kinds (if_fifo {kinds} {P} {Q} p q) s l t = of_if kinds s s.fifo P Q (of_kinds p s) (of_kinds q s) l t
of_kinds (either {kinds} {P} {Q} p q) s l t = of_either kinds s P Q (of_kinds p s) (of_kinds q s) l t
of_kinds (some p) s l t = of_kinds (p t.0) s l t.1
of_kinds (among within p) s l t = of_kinds p s l (within s l t)
of_kinds (wider {kinds} {more} c p) s l t = each-weaker (IsOf kinds) (IsOf more) (widened more kinds c) l (of_kinds p s l t)

pub does_of_kinds : {kinds : Kinds} {G : Doing} → Does kinds G → HoldsOfDoing (AllOf kinds) G
does_of_kinds (makes p change kept) f l after t = of_kinds p (settings_of f) l t.0
does_of_kinds (next {kinds} p q) f l after t =
    rw t.whole
    (each-append (IsOf kinds) t.front t.back (does_of_kinds p f t.front t.mid t.first) (does_of_kinds q t.mid t.back after t.second))
does_of_kinds (either_does p q) f l after (inl t) = does_of_kinds p f l after t
does_of_kinds (either_does p q) f l after (inr t) = does_of_kinds q f l after t
does_of_kinds (some_does p) f l after t = does_of_kinds (p t.0) f l after t.1
does_of_kinds (by_fields within p) f l after t = does_of_kinds (p f) f l after (within f l after t)
does_of_kinds (among_does within p) f l after t = does_of_kinds p f l after (within f l after t)
does_of_kinds (wider_does {kinds} {more} c p) f l after t =
    each-weaker (IsOf kinds) (IsOf more) (widened more kinds c) l (does_of_kinds p f l after t)

-- ---- what the fields keep

still : (alters : Alters) (f mid after : Fields) → LeavesConfig alters f mid → LeavesConfig alters mid after → LeavesConfig alters f after
still nothing f mid after p q = q ∙ p
still but_checks f mid after p q = q ∙ p
still anything f mid after p q = tt

pub allowed : (more alters : Alters) (f after : Fields) → allows more alters ≡ true → LeavesConfig alters f after →
    LeavesConfig more f after
allowed more nothing f after is p = unaltered more f after p
allowed but_checks but_checks f after is p = p
allowed anything but_checks f after is p = tt
allowed anything anything f after is p = tt
allowed nothing but_checks f after is p = absurd (false≢true is)
allowed nothing anything f after is p = absurd (false≢true is)
allowed but_checks anything f after is p = absurd (false≢true is)

pub leaves : {kinds : Kinds} {G : Doing} → Does kinds G → (f : Fields) (l : List Access) (after : Fields) → G f l after →
    Leaves kinds.alters f after
leaves (makes p change kept) f l after t = rw t.1 (kept f l)
leaves (next {kinds} p q) f l after t =
    let a = leaves p f t.front t.mid t.first in
    let b = leaves q t.mid t.back after t.second in
    (b.0 ∙ a.0, still kinds.alters f t.mid after a.1 b.1)
leaves (either_does p q) f l after (inl t) = leaves p f l after t
leaves (either_does p q) f l after (inr t) = leaves q f l after t
leaves (some_does p) f l after t = leaves (p t.0) f l after t.1
leaves (by_fields within p) f l after t = leaves (p f) f l after (within f l after t)
leaves (among_does within p) f l after t = leaves p f l after (within f l after t)
leaves (wider_does {kinds} {more} c p) f l after t =
    let a = leaves p f l after t in
    let writes = (and_parts (all_pass (is_among more.reads) kinds.reads) _ c).1 in
    (a.0, allowed more.alters kinds.alters f after (and_parts (all_pass (is_among more.writes) kinds.writes) _ writes).1 a.1)

-- the spin limit
pub leaves_limit : {kinds : Kinds} {G : Doing} → Does kinds G → (f : Fields) (l : List Access) (after : Fields) → G f l after →
    after.limit ≡ f.limit
leaves_limit p f l after t = ap (λ (told : FifoSize × ℕ). told.1) (leaves p f l after t).0

-- ---- so what holds of reads and of writes of registers that pass a test holds of each access, if all of these registers pass it

module _ (P : Access → Type 0) (is_read is_written : ℕ → Bool)
    (read : (register answer : ℕ) → is_read register ≡ true → P (Read register answer))
    (write : (register value : ℕ) → is_written register ≡ true → P (Write register value)) where
  such : (kinds : Kinds) → all_pass is_read kinds.reads ≡ true → all_pass is_written kinds.writes ≡ true → (access : Access) →
      IsOf kinds access → P access
  such kinds reads writes (Read register answer) is = read register answer (passes is_read kinds.reads register reads is)
  such kinds reads writes (Write register value) is = write register value (passes is_written kinds.writes register writes is)

  pub each_so : {kinds : Kinds} {L : Language} → Built kinds L → all_pass is_read kinds.reads ≡ true →
      all_pass is_written kinds.writes ≡ true → (s : Settings) → HoldsOfAll (λ l. AllByRecursion P l) s L
  each_so {kinds} p reads writes s l t = each-weaker (IsOf kinds) P (such kinds reads writes) l (of_kinds p s l t)

  pub does_so : {kinds : Kinds} {G : Doing} → Does kinds G → all_pass is_read kinds.reads ≡ true → all_pass is_written kinds.writes ≡ true →
      HoldsOfDoing (λ l. AllByRecursion P l) G
  does_so {kinds} p reads writes f l after t = each-weaker (IsOf kinds) P (such kinds reads writes) l (does_of_kinds p f l after t)

-- any register
abbrev any_register : ℕ → Bool
any_register register = true

any_registers : (registers : List ℕ) → all_pass any_register registers ≡ true
any_registers [] = refl
any_registers (one ∷ others) = any_registers others

-- what holds of each read
module _ (P : Access → Type 0) (is_written : ℕ → Bool) (read : (register answer : ℕ) → P (Read register answer))
    (write : (register value : ℕ) → is_written register ≡ true → P (Write register value)) where
  pub each_such : {kinds : Kinds} {L : Language} → Built kinds L → all_pass is_written kinds.writes ≡ true → (s : Settings) →
      HoldsOfAll (λ l. AllByRecursion P l) s L
  each_such {kinds} p = each_so P any_register is_written (λ register answer is. read register answer) write p (any_registers kinds.reads)

  pub does_such : {kinds : Kinds} {G : Doing} → Does kinds G → all_pass is_written kinds.writes ≡ true →
      HoldsOfDoing (λ l. AllByRecursion P l) G
  does_such {kinds} p = does_so P any_register is_written (λ register answer is. read register answer) write p (any_registers kinds.reads)
