-- Lists of accesses that keep the direction, access by access.
use Rattle.std.proofs.Common.{◌≡◌, ◌==◌, ◌&&◌, ℕ, Bool, true, false, not, if◌then◌else◌, List, [], ◌∷◌, ◌++◌, refl, subst}
use Rattle.std.specs.Prelude.{⊤}
use Rattle.uart_spec.specs.Bits.{has, has_any}
use Rattle.uart_spec.specs.declared.access.Access.{Access}
use Rattle.uart_spec.specs.declared.access.Access.TheVariants.{Read, Write}
use Rattle.uart_spec.specs.declared.registers.line_status.TheConstants.LSR
use Rattle.uart_spec.specs.declared.registers.modem_control.TheConstants.MCR
use Rattle.uart_spec.specs.declared.registers.offsets.TheConstants as offsets
use Rattle.uart_rs485.specs.Directions.{drives_itself, empty_after, empty_after_one, sends_after, sends_after_one, sends_by}
use Rattle.uart_rs485.specs.Laws.{KeepsDirection}
use Rattle.uart_rs485.specs.declared.direction.Direction.{Direction}

-- an access that is allowed while the transceiver sends or not, and the transmitter is known to be empty or not
abbrev pub Allows : Direction → (sends empty : Bool) → Access → Type 0
Allows d sends empty (Read offset answer) = ⊤
Allows d sends empty (Write offset value) =
    (offset ≡ offsets.DATA → sends ≡ true) × (offset ≡ offsets.MCR → sends_by d value ≡ false → empty ≡ true)
    × (offset ≡ offsets.MCR → (drives_itself d value ≡ false) × (has_any value MCR.LOOP_BACK.0 ≡ false))

abbrev pub AllowsAll : Direction → (sends empty : Bool) → List Access → Type 0
AllowsAll d sends empty [] = ⊤
AllowsAll d sends empty (access ∷ accesses) =
    Allows d sends empty access × AllowsAll d (sends_after_one d sends access) (empty_after_one empty access) accesses

bytes_allowed : (d : Direction) (sends empty : Bool) (before behind : List Access) (byte : ℕ) →
    AllowsAll d sends empty (before ++ Write offsets.DATA byte ∷ behind) → sends_after d sends before ≡ true
bytes_allowed d sends empty [] behind byte t = t.0.0 refl
bytes_allowed d sends empty (access ∷ before) behind byte t =
    bytes_allowed d (sends_after_one d sends access) (empty_after_one empty access) before behind byte t.1

turns_allowed : (d : Direction) (sends empty : Bool) (before behind : List Access) (mcr : ℕ) →
    AllowsAll d sends empty (before ++ Write offsets.MCR mcr ∷ behind) → sends_by d mcr ≡ false → empty_after empty before ≡ true
turns_allowed d sends empty [] behind mcr t off = t.0.1 refl off
turns_allowed d sends empty (access ∷ before) behind mcr t off =
    turns_allowed d (sends_after_one d sends access) (empty_after_one empty access) before behind mcr t.1 off

own_allowed : (d : Direction) (sends empty : Bool) (before behind : List Access) (mcr : ℕ) →
    AllowsAll d sends empty (before ++ Write offsets.MCR mcr ∷ behind) → drives_itself d mcr ≡ false
own_allowed d sends empty [] behind mcr t = (t.0.2 refl).0
own_allowed d sends empty (access ∷ before) behind mcr t =
    own_allowed d (sends_after_one d sends access) (empty_after_one empty access) before behind mcr t.1

loopback_allowed : (d : Direction) (sends empty : Bool) (before behind : List Access) (mcr : ℕ) →
    AllowsAll d sends empty (before ++ Write offsets.MCR mcr ∷ behind) → has_any mcr MCR.LOOP_BACK.0 ≡ false
loopback_allowed d sends empty [] behind mcr t = (t.0.2 refl).1
loopback_allowed d sends empty (access ∷ before) behind mcr t =
    loopback_allowed d (sends_after_one d sends access) (empty_after_one empty access) before behind mcr t.1

-- a list whose accesses are allowed keeps the direction
pub keeps_all : (d : Direction) (sends : Bool) (l : List Access) → AllowsAll d sends false l → KeepsDirection d sends l
keeps_all d sends l t =
    let P : List Access → Type 0 = λ x. AllowsAll d sends false x in
    record {
      bytes = λ before behind byte is. bytes_allowed d sends false before behind byte (subst P is t);
      turns = λ before behind mcr is off. turns_allowed d sends false before behind mcr (subst P is t) off;
      own = λ before behind mcr is. own_allowed d sends false before behind mcr (subst P is t);
      loopback = λ before behind mcr is. loopback_allowed d sends false before behind mcr (subst P is t);
    }

-- ---- one list after another

-- what is known to be empty stays so where more is known
one_less : (e f : Bool) (access : Access) → (e ≡ true → f ≡ true) → empty_after_one e access ≡ true → empty_after_one f access ≡ true
one_less e f (Read offset answer) less is = go (offset == offsets.LSR) is
  where
    go : (b : Bool) → (if b then has answer LSR.TRANSMITTER_EMPTY.0 else e) ≡ true →
        (if b then has answer LSR.TRANSMITTER_EMPTY.0 else f) ≡ true
    go true is = is
    go false is = less is
one_less e f (Write offset value) less is = go (not (offset == offsets.DATA)) is
  where
    go : (b : Bool) → (b && e) ≡ true → (b && f) ≡ true
    go true is = less is
    go false is = is

one_more : (d : Direction) (sends e f : Bool) (access : Access) → (e ≡ true → f ≡ true) → Allows d sends e access → Allows d sends f access
one_more d sends e f (Read offset answer) less t = tt
one_more d sends e f (Write offset value) less t = (t.0, λ at off. less (t.1 at off), t.2)

allows_more : (d : Direction) (sends e f : Bool) (l : List Access) → (e ≡ true → f ≡ true) → AllowsAll d sends e l → AllowsAll d sends f l
allows_more d sends e f [] less t = tt
allows_more d sends e f (access ∷ l) less t = (
  one_more d sends e f access less t.0,
  allows_more d (sends_after_one d sends access) (empty_after_one e access) (empty_after_one f access) l (one_less e f access less) t.1,
)

never : (e : Bool) → false ≡ true → e ≡ true
never e wrong = absurd cc

pub allows_append : (d : Direction) (sends e : Bool) (l m : List Access) → AllowsAll d sends e l →
    AllowsAll d (sends_after d sends l) false m → AllowsAll d sends e (l ++ m)
allows_append d sends e [] m t u = allows_more d sends false e m (never e) u
allows_append d sends e (access ∷ l) m t u =
    (t.0, allows_append d (sends_after_one d sends access) (empty_after_one e access) l m t.1 u)

pub sends_after-append : (d : Direction) (sends : Bool) (l m : List Access) →
    sends_after d sends (l ++ m) ≡ sends_after d (sends_after d sends l) m
sends_after-append d sends [] m = refl
sends_after-append d sends (access ∷ l) m = sends_after-append d (sends_after_one d sends access) l m
