-- What the accesses of `adjust_rts` do in a session: they may write MCR, and so change the modes.
use Rattle.uart_ring_runs.proofs.Names.{◌≡◌, ◌==◌, ℕ, Bool, true, false, List, [], ◌∷◌, Option, Some, None, refl, sym, ◌∙◌, subst, Path}
use Rattle.uart_ring_runs.proofs.Names.{has, has_any, Access, Read, Write, switched, unlooped, kept_mcr, has_not, kept_bit, MachineState}
use Rattle.uart_ring_runs.proofs.Names.{MachineStep, at_access, Modes, loopback-in, Passed, passed-trans, IsOpen, Stands, PassedBlocks}
use Rattle.uart_ring_runs.proofs.Names.{nothing_taken, passed_quiet, path_as, stands-after, IsWired, IsWiredChip, settings_of, most_in}
use Rattle.uart_ring_runs.proofs.Names.{passed_in_blocks, InSession, session_room, NeverWrites, RingFields, ring_fields, write_if_other}
use Rattle.uart_ring_runs.proofs.Names.{MakesRtsIfAny, data_written, data_read, RingState, under, ring_machine}
use Rattle.uart_spec.specs.declared.registers.modem_control.TheConstants.MCR
use Rattle.uart_spec.specs.declared.registers.offsets.TheConstants as offsets
use Rattle.uart_run.proofs.Wired.{wired_step, passed_mcr}
use Rattle.uart_ring_runs.proofs.RingWalk as walk
use Rattle.uart_ring_runs.proofs.RingBlocks.{MakesRingBlocks, MakesBlocks, in_blocks}

-- ---- modes in which only MCR changes

-- these modes, with MCR as the machine has it; as the machine of a state has it
abbrev pub with_mcr_of : Modes → MachineState → Modes
with_mcr_of x m = record x { mcr = m.chip.latches.mcr }

abbrev pub modes_at : Modes → RingState → Modes
modes_at x s = with_mcr_of x (ring_machine s)

-- the state is one of a session that began in these modes
abbrev pub InRingSession : Modes → RingState → Type 0
InRingSession x s = InSession (modes_at x s) (under s)

pub begins_session : (x : Modes) (s : RingState) → InSession x (under s) → InRingSession x s
begins_session x s w = record {
  open_modes = record {
    dlab = w.open_modes.dlab;
    loopback = loopback-in x (ring_machine s).chip w.stands.modes ∙ w.open_modes.loopback;
  };
  stands = record {
    sound = w.stands.sound;
    modes = record { lcr = w.stands.modes.lcr; mcr = refl; fifo = w.stands.modes.fifo; cut = w.stands.modes.cut };
  };
  fifo = w.fifo;
  fits = w.fits;
}

-- a stretch in a session that does not end it
pub record Came (x : Modes) (m n : MachineState) (made : List Access) (written read : List ℕ) : Type 0 where
  pub open_modes : IsOpen (with_mcr_of x n)
  pub passed : PassedBlocks (with_mcr_of x n) m n made written read

-- MCR is then as the modes have it
pub came : (x : Modes) (mcr : ℕ) (m n : MachineState) (made : List Access) (ws rs : List ℕ) → IsOpen (record x { mcr = mcr }) →
    PassedBlocks (record x { mcr = mcr }) m n made ws rs → Came x m n made ws rs
came x mcr m n made ws rs o p =
    let O : ℕ → Type 0 = λ v. IsOpen (record x { mcr = v }) in
    let B : ℕ → Type 0 = λ v. PassedBlocks (record x { mcr = v }) m n made ws rs in
    let same = sym p.passed.went.modes.mcr in
    record { open_modes = subst O same o; passed = subst B same p }

-- ---- MCR is read, and perhaps written

rts_read : (x : Modes) (m n : MachineState) (mcr : ℕ) → IsOpen (with_mcr_of x m) → Stands (with_mcr_of x m) m →
    Path MachineStep m (Read offsets.MCR mcr ∷ []) n → Came x m n (Read offsets.MCR mcr ∷ []) [] []
rts_read x m n mcr o w p =
    let read = passed_quiet (with_mcr_of x m) m p.0 (Read offsets.MCR mcr) o w refl p.1 in
    let whole : Passed (with_mcr_of x m) m n (Read offsets.MCR mcr ∷ []) [] [] = rw p.2 read in
    came x m.chip.latches.mcr m n (Read offsets.MCR mcr ∷ []) [] [] o (nothing_taken (with_mcr_of x m) m n _ [] whole)

rts_written : (x : Modes) (m n : MachineState) (mcr value : ℕ) → IsOpen (with_mcr_of x m) → Stands (with_mcr_of x m) m →
    IsWiredChip m.chip → has_any value MCR.LOOP_BACK.0 ≡ false →
    Path MachineStep m (Read offsets.MCR mcr ∷ Write offsets.MCR value ∷ []) n →
    Came x m n (Read offsets.MCR mcr ∷ Write offsets.MCR value ∷ []) [] []
rts_written x m n mcr value o w wired off p =
    let y = with_mcr_of x m in
    let q = p.2 in
    let f = (at_access p.0).chip.auto_flow in
    let z : Modes = record x { mcr = kept_mcr f value } in
    let still = kept_bit f 4 value refl refl ∙ off in
    let read = passed_quiet y m p.0 (Read offsets.MCR mcr) o w refl p.1 in
    let written = passed_mcr y p.0 q.0 value o still (stands-after y m p.0 (Read offsets.MCR mcr ∷ []) [] [] read)
    (wired_step (Read offsets.MCR mcr) m p.0 p.1 wired) q.1 in
    let both = passed-trans y z m p.0 q.0 (Read offsets.MCR mcr ∷ []) (Write offsets.MCR value ∷ []) [] [] [] [] refl read written in
    let whole : Passed z m n (Read offsets.MCR mcr ∷ Write offsets.MCR value ∷ []) [] [] = rw q.2 both in
    came x (kept_mcr f value) m n (Read offsets.MCR mcr ∷ Write offsets.MCR value ∷ []) [] []
    (record { dlab = o.dlab; loopback = still }) (nothing_taken z m n _ [] whole)

abbrev pub rts_accesses : (shown on : Bool) (mcr value : ℕ) → List Access
rts_accesses shown on mcr value = Read offsets.MCR mcr ∷ write_if_other shown on (Write offsets.MCR value)

rts_came : (x : Modes) (m n : MachineState) (shown on : Bool) (mcr value : ℕ) → IsOpen (with_mcr_of x m) →
    Stands (with_mcr_of x m) m → IsWiredChip m.chip → has_any value MCR.LOOP_BACK.0 ≡ false →
    Path MachineStep m (rts_accesses shown on mcr value) n →
    let made = rts_accesses shown on mcr value in Came x m n made (data_written made) (data_read made)
rts_came x m n true true mcr value o w wired off p = rts_read x m n mcr o w p
rts_came x m n false false mcr value o w wired off p = rts_read x m n mcr o w p
rts_came x m n true false mcr value o w wired off p = rts_written x m n mcr value o w wired off p
rts_came x m n false true mcr value o w wired off p = rts_written x m n mcr value o w wired off p

-- ---- the call

-- a stretch of blocks
pub came_blocks : (x : Modes) (s t : RingState) (l : List Access) → InRingSession x s → MakesRingBlocks (ring_fields s) l (ring_fields t) →
    Path MachineStep (ring_machine s) l (ring_machine t) →
    Came x (ring_machine s) (ring_machine t) l (data_written l) (data_read l)
came_blocks x s t l w makes path =
    came x (ring_machine s).chip.latches.mcr (ring_machine s) (ring_machine t) l _ _ w.open_modes
    (passed_in_blocks (modes_at x s) (most_in (settings_of (ring_fields s).driver)) (ring_machine s) (ring_machine t) l _ _ w.open_modes
    w.stands (session_room (modes_at x s) (under s) w) makes.blocks path)

pub came_rts : (x : Modes) (s t : RingState) (wanted : Option Bool) (l : List Access) → InRingSession x s → IsWired (under s) →
    MakesRtsIfAny wanted (ring_fields s) l (ring_fields t) → Path MachineStep (ring_machine s) l (ring_machine t) →
    Came x (ring_machine s) (ring_machine t) l (data_written l) (data_read l)
came_rts x s t None l w wired d path = came_blocks x s t l w (walk.stays MakesBlocks in_blocks (ring_fields s) l (ring_fields t) d) path
came_rts x s t (Some on) l w wired (((mcr, is), saved), same) path =
    let m = ring_machine s in
    let n = ring_machine t in
    let shown = has mcr MCR.RTS.0 in
    let value = unlooped (switched on MCR.RTS.0 mcr) in
    let C : List Access → Type 0 = λ k. Came x m n k (data_written k) (data_read k) in
    subst C (sym is) (rts_came x m n shown on mcr value w.open_modes w.stands wired (has_not 4 (switched on MCR.RTS.0 mcr) 239 refl)
    (path_as m n l (rts_accesses shown on mcr value) is path))

-- no other register is written
rts_leave : (register : ℕ) → (offsets.MCR == register) ≡ false → (shown on : Bool) (mcr value : ℕ) →
    NeverWrites register (rts_accesses shown on mcr value)
rts_leave register other true true mcr value = (tt, tt)
rts_leave register other false false mcr value = (tt, tt)
rts_leave register other true false mcr value = (tt, (other, tt))
rts_leave register other false true mcr value = (tt, (other, tt))

pub rts_leaves : (register : ℕ) → (offsets.MCR == register) ≡ false → (wanted : Option Bool) (f : RingFields) (l : List Access)
    (after : RingFields) → MakesRtsIfAny wanted f l after → NeverWrites register l
rts_leaves register other None f l after t = rw t.0 tt
rts_leaves register other (Some on) f l after (((mcr, is), saved), same) =
    rw is (rts_leave register other (has mcr MCR.RTS.0) on mcr (unlooped (switched on MCR.RTS.0 mcr)))
