-- What holds of all lists of a language, or of all that a call does, since it holds of those of its parts.
use Rattle.uart_run.proofs.Names.{ℕ, zero, suc, List, [], ◌∷◌, ◌++◌, Access, Language, Settings, Only, Then, InOrder, Times, FewMisses}
use Rattle.uart_run.proofs.Names.{AllMisses, Doing, Fields, Saving, Plain, Sets, Next, settings_of}

-- it holds of no accesses, and of two lists in turn if it holds of both
pub record HoldsInTurn (P : List Access → Type 0) : Type 0 where
  pub none : P []
  pub append : (xs ys : List Access) → P xs → P ys → P (xs ++ ys)

-- it holds of each list of the language
abbrev pub HoldsOfAll : (List Access → Type 0) → Settings → Language → Type 0
HoldsOfAll P s L = (l : List Access) → L s l → P l

module _ {P : List Access → Type 0} (turn : HoldsInTurn P) (s : Settings) where
  pub all_only : (list : List Access) → P list → HoldsOfAll P s (Only list)
  all_only list h l t = rw t.is h

  pub all_then : (L M : Language) → HoldsOfAll P s L → HoldsOfAll P s M → HoldsOfAll P s (Then L M)
  all_then L M p q l t = rw t.whole (turn.append t.front t.back (p t.front t.first) (q t.back t.second))

  pub all_times : (n : ℕ) (L : Language) → HoldsOfAll P s L → HoldsOfAll P s (Times n L)
  all_times zero L p l t = all_only [] turn.none l t
  all_times (suc n) L p l t = all_then L (Times n L) p (λ k u. all_times n L p k u) l t

  pub all_few : (L : Language) → HoldsOfAll P s L → HoldsOfAll P s (FewMisses L)
  all_few L p l t = all_times t.0 L p l t.2

  pub all_misses : (L : Language) → HoldsOfAll P s L → HoldsOfAll P s (AllMisses L)
  all_misses L p l t = all_times s.limit L p l t

  pub all_in_order : {A : Type 0} (L : A → Language) (items : List A) → ((item : A) → HoldsOfAll P s (L item)) →
      HoldsOfAll P s (InOrder L items)
  all_in_order L [] p l t = all_only [] turn.none l t
  all_in_order L (item ∷ items) p l t = all_then (L item) (InOrder L items) (p item) (λ k u. all_in_order L items p k u) l t

-- ---- what a call does

-- it holds of each list that is made so
abbrev pub HoldsOfDoing : (List Access → Type 0) → Doing → Type 0
HoldsOfDoing P G = (f : Fields) (l : List Access) (after : Fields) → G f l after → P l

module _ {P : List Access → Type 0} (turn : HoldsInTurn P) where
  pub does_next : (G H : Doing) → HoldsOfDoing P G → HoldsOfDoing P H → HoldsOfDoing P (Next G H)
  does_next G H p q f l after t = rw t.whole (turn.append t.front t.back (p f t.front t.mid t.first) (q t.mid t.back after t.second))

  pub does_sets : (change : Fields → Fields) → HoldsOfDoing P (Sets change)
  does_sets change f l after t = rw t.0 turn.none

pub does_saving : {P : List Access → Type 0} (L : Language) → ((s : Settings) → HoldsOfAll P s L) → HoldsOfDoing P (Saving L)
does_saving L p f l after t = p (settings_of f) l t.0

pub does_plain : {P : List Access → Type 0} (L : Language) → ((s : Settings) → HoldsOfAll P s L) → HoldsOfDoing P (Plain L)
does_plain L p f l after t = p (settings_of f) l t.0
