-- What a call does: the accesses that it makes, and what the backend holds before and after them.
use Rattle.std.specs.Prelude.{◌≡◌, ℕ, Bool, List, [], ◌∷◌, ◌++◌, MatchBool, zero, suc}
use Rattle.std.specs.Int.RustNames.{bit_and, bit_or}
use Rattle.uart_spec.specs.Access.{Path}
use Rattle.uart_spec.specs.declared.access.Access.{Access}
use Rattle.uart_spec.specs.declared.access.Access.TheVariants.{Read, Write}
use Rattle.uart_spec.specs.declared.registers.line_status.TheConstants.LSR
use Rattle.uart_spec.specs.declared.registers.offsets.TheConstants as offsets
use Rattle.uart_design_ware.specs.declared.state.DesignWare.{DesignWare}
use Rattle.uart_design_ware.specs.Held.{Held, held}

-- what the backend holds, these accesses, and what it holds after them
abbrev pub Doing : Type 1
Doing = Held → List Access → Held → Type 0

-- the call did this, on a path of steps of the registers
pub record Did {R : Type 0} (step : R → Access → R → Type 0) (G : Doing) (old new : DesignWare R) : Type 0 where
  pub list : List Access
  pub path : Path step old.registers list new.registers
  pub does : G (held old) list (held new)

-- no access, and this change
abbrev pub Sets : (Held → Held) → Doing
Sets change h l after = (l ≡ []) × (after ≡ change h)

-- no access, and no change
abbrev pub Nothing : Doing
Nothing = Sets (λ h. h)

-- these accesses, and no change
abbrev pub Makes : List Access → Doing
Makes list h l after = (l ≡ list) × (after ≡ h)

-- one read of this register, which returned this
abbrev pub Reads : ℕ → ℕ → Doing
Reads offset answer = Makes (Read offset answer ∷ [])

-- one write of this register
abbrev pub Writes : ℕ → ℕ → Doing
Writes offset value = Makes (Write offset value ∷ [])

-- the errors of a look at LSR are saved
abbrev pub saving : ℕ → Held → Held
saving lsr h = record h { cleared = bit_or h.cleared (bit_and lsr LSR.LINE_ERRORS.0) }

-- one read of LSR, whose errors are saved
abbrev pub Looks : ℕ → Doing
Looks lsr h l after = (l ≡ Read offsets.LSR lsr ∷ []) × (after ≡ saving lsr h)

-- the one, and then the other
pub record Next (G H : Doing) (h : Held) (l : List Access) (after : Held) : Type 0 where
  pub front : List Access
  pub back : List Access
  pub mid : Held
  pub whole : l ≡ front ++ back
  pub first : G h front mid
  pub second : H mid back after

-- one of these
abbrev pub AnyOf : {A : Type 0} → (A → Doing) → Doing
AnyOf {A} G h l after = (x : A) × G x h l after

-- this, where that holds
abbrev pub Where : Type 0 → Doing → Doing
Where p G h l after = p × G h l after

-- the first if this is so of what the backend holds, otherwise the second
abbrev pub If : (Held → Bool) → Doing → Doing → Doing
If test G H h l after = MatchBool (test h) (G h l after) (H h l after)

-- this for each item, in order
abbrev pub InOrder : {A : Type 0} → (A → Doing) → List A → Doing
InOrder G [] = Nothing
InOrder G (item ∷ items) = Next (G item) (InOrder G items)

-- this so many times
abbrev pub Times : ℕ → Doing → Doing
Times zero G = Nothing
Times (suc n) G = Next G (Times n G)
