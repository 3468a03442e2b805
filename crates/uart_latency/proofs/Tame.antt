-- The calls of the rings themselves reset nothing: their accesses, one call after the other.
use Rattle.uart_latency.proofs.Names.{◌≡◌, ℕ, ◌==◌, ◌||◌, Bool, true, false, List, [], ◌∷◌, map, refl, sym, subst, arith, Option, Some}
use Rattle.uart_latency.proofs.Names.{None, AllByRecursion, nat_tests, has, Access, Read, Write, switched, unlooped, has_not, each-append}
use Rattle.uart_latency.proofs.Names.{RingFields, write_if_other, MakesRtsIfAny, AllLeaveLcr, MakesRingBlocks}
use Rattle.uart_spec.specs.declared.registers.modem_control.TheConstants.MCR
use Rattle.uart_spec.specs.declared.registers.offsets.TheConstants as offsets
use Rattle.uart_chip.proofs.conservation.Blocks.{is_quiet, Block, Look, Hit, Burst, Other, Divisor, accesses_of, AllQuiet, IsFit}
use Rattle.uart_chip.proofs.conservation.Blocks.{AllFit, flat}
use Rattle.uart_latency.proofs.Moves.{IsTame}

abbrev pub AllTame : List Access → Type 0
AllTame accesses = AllByRecursion IsTame accesses

-- ---- blocks

-- the access writes neither FCR nor MCR
abbrev LeavesBoth : Access → Type 0
LeavesBoth (Read offset value) = Unit {0}
LeavesBoth (Write offset value) = ((offset == offsets.FCR) ≡ false) × ((offset == offsets.MCR) ≡ false)

abbrev AllLeaveBoth : List Access → Type 0
AllLeaveBoth accesses = AllByRecursion LeavesBoth accesses

quiet_leaves : (access : Access) → is_quiet access ≡ true → LeavesBoth access
quiet_leaves (Read offset value) q = tt
quiet_leaves (Write offset value) q = go (offset == offsets.IER) refl q
  where
    go : (b : Bool) → (offset == offsets.IER) ≡ b → (b || (offset == offsets.SPR)) ≡ true → LeavesBoth (Write offset value)
    go true e q = let is : offset ≡ offsets.IER = grind (arith, nat_tests) in rw is (refl, refl)
    go false e q = let is : offset ≡ offsets.SPR = grind (arith, nat_tests) in rw is (refl, refl)

quiets_leave : (accesses : List Access) → AllQuiet accesses → AllLeaveBoth accesses
quiets_leave [] q = tt
quiets_leave (access ∷ accesses) q = (quiet_leaves access q.0, quiets_leave accesses q.1)

writes_leave : (bytes : List ℕ) → AllLeaveBoth (map (Write offsets.DATA) bytes)
writes_leave [] = tt
writes_leave (byte ∷ bytes) = ((refl, refl), writes_leave bytes)

block_leaves : (most : ℕ) (block : Block) → IsFit most block → AllLeaveBoth (accesses_of block)
block_leaves most (Look line) h = (tt, tt)
block_leaves most (Hit line byte) h = (tt, (tt, tt))
block_leaves most (Burst line checks bytes) h =
    (tt, each-append LeavesBoth checks (map (Write offsets.DATA) bytes) (quiets_leave checks h.1) (writes_leave bytes))
block_leaves most (Other access) h = (quiet_leaves access h, tt)
block_leaves most (Divisor lcr low high) h = (tt, ((refl, refl), (tt, (tt, ((refl, refl), tt)))))

blocks_leave : (most : ℕ) (blocks : List Block) → AllFit most blocks → AllLeaveBoth (flat blocks)
blocks_leave most [] h = tt
blocks_leave most (block ∷ blocks) h =
    each-append LeavesBoth (accesses_of block) (flat blocks) (block_leaves most block h.0) (blocks_leave most blocks h.1)

-- nor LCR
tame_by : (accesses : List Access) → AllLeaveBoth accesses → AllLeaveLcr accesses → AllTame accesses
tame_by [] h lcr = tt
tame_by (Read offset value ∷ accesses) h lcr = (tt, tame_by accesses h.1 lcr.1)
tame_by (Write offset value ∷ accesses) h lcr =
    ((h.0.0, lcr.0, λ e. absurd (let f = h.0.1 in cc)), tame_by accesses h.1 lcr.1)

pub tame_blocks : (f : RingFields) (l : List Access) (after : RingFields) → MakesRingBlocks f l after → AllTame l
tame_blocks f l after makes =
    let blocks = makes.blocks in
    let A : List Access → Type 0 = λ k. AllLeaveBoth k in
    tame_by l (subst A (sym blocks.joined) (blocks_leave _ blocks.blocks blocks.fit)) makes.lcr

-- ---- `adjust_rts`

rts_tame : (shown on : Bool) (mcr : ℕ) →
    AllTame (Read offsets.MCR mcr ∷ write_if_other shown on (Write offsets.MCR (unlooped (switched on MCR.RTS.0 mcr))))
rts_tame true true mcr = (tt, tt)
rts_tame false false mcr = (tt, tt)
rts_tame true false mcr = (tt, ((refl, refl, λ e. has_not 4 (switched false MCR.RTS.0 mcr) 239 refl), tt))
rts_tame false true mcr = (tt, ((refl, refl, λ e. has_not 4 (switched true MCR.RTS.0 mcr) 239 refl), tt))

pub tame_rts : (wanted : Option Bool) (f : RingFields) (l : List Access) (after : RingFields) → MakesRtsIfAny wanted f l after → AllTame l
tame_rts None f l after t = let A : List Access → Type 0 = λ k. AllTame k in subst A (sym t.0) tt
tame_rts (Some on) f l after (((mcr, is), saved), same) =
    let A : List Access → Type 0 = λ k. AllTame k in subst A (sym is) (rts_tame (has mcr MCR.RTS.0) on mcr)
