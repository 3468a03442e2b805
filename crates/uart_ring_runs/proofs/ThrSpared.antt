-- Accesses that leave the chip's THR-empty interrupt enabled and due: no read of ISR, and no write of IER or FCR.
use Rattle.uart_ring_runs.proofs.Names.{not, ◌||◌, sym, ◌≡◌, ℕ, ◌==◌, Bool, true, false, List, [], ◌∷◌, refl, arith, AllByRecursion}
use Rattle.uart_ring_runs.proofs.Names.{common_steps, Path, has, Access, Read, Write, Language, Settings, ChipState, cut_of, MachineState}
use Rattle.uart_ring_runs.proofs.Names.{MachineStep, at_access, ReadMove, WriteMove, read_move, write_lasts, LastsInEvents}
use Rattle.uart_ring_runs.proofs.Names.{chip_lasts-before, not-true, false≢true, Doing, thr_empty_of}
use Rattle.uart_spec.specs.declared.registers.interrupt_enable.TheConstants.IER
use Rattle.uart_spec.specs.declared.registers.offsets.TheConstants as offsets
use Rattle.uart_chip.proofs.AccessMoves as move
use Rattle.uart_run.proofs.ListsInTurn.{HoldsOfAll, HoldsOfDoing}
use Rattle.uart_run.proofs.built.Words.{Kinds, Built, Does, all_pass, each_so, does_so}
use Rattle.uart_ring_runs.proofs.RingDue.{IsDue, due-tick, due-load, due_says, says_due}

-- ---- what lasts

-- the interrupt is enabled and due
abbrev pub IsToCome : ChipState → Type 0
IsToCome c = (has c.latches.ier IER.THR_EMPTY.0 ≡ true) × IsDue c.transmitter

abbrev pub IsThrArmed : MachineState → Type 0
IsThrArmed m = ((thr_empty_of m).enabled ≡ true) × ((thr_empty_of m).due ≡ true)

pub to_come : (m : MachineState) → IsThrArmed m → IsToCome m.chip
to_come m h = (h.0, due_says m.chip.transmitter h.1)

pub comes : (m : MachineState) → IsToCome m.chip → IsThrArmed m
comes m h = (h.0, says_due m.chip.transmitter h.1)

pub in_events : LastsInEvents IsToCome
in_events = record {
  in_tick = λ c h. (h.0, due-tick _ _ c.transmitter h.1);
  in_arrival = λ byte errors c h. h;
  in_lines = λ inputs c h. h;
}

pub at_once : (m : MachineState) → IsToCome m.chip → IsToCome (at_access m).chip
at_once m h = chip_lasts-before IsToCome in_events m.ahead m.chip h

-- ---- accesses that spare it

abbrev pub Spares : Access → Type 0
Spares (Read offset answer) = (offset == offsets.ISR) ≡ false
Spares (Write offset value) = ((offset == offsets.IER) ≡ false) × ((offset == offsets.FCR) ≡ false)

abbrev pub AllSpare : List Access → Type 0
AllSpare l = AllByRecursion Spares l

pub not_at : {T : Type 0} (offset register : ℕ) → offset ≡ register → (offset == register) ≡ false → T
not_at offset register e other = let no : (register == register) ≡ false = rw e at other in absurd (grind (arith, common_steps))

pub spared_read : (offset : ℕ) (c d : ChipState) → (offset == offsets.ISR) ≡ false → ReadMove offset c d → IsToCome c → IsToCome d
spared_read offset c d other (move.acknowledges e) h = not_at offset offsets.ISR e other
spared_read offset c d other _ h = h

pub spared_write : (offset value : ℕ) → (offset == offsets.IER) ≡ false → (offset == offsets.FCR) ≡ false → (c d : ChipState) →
    WriteMove offset value c d → IsToCome c → IsToCome d
spared_write offset value p q c d (move.sends e off) h = (h.0, due-load c.fifo (cut_of c value) c.transmitter)
spared_write offset value p q c d (move.enables e off) h = not_at offset offsets.IER e p
spared_write offset value p q c d (move.switches e m on) h = not_at offset offsets.FCR e q
spared_write offset value p q c d (move.resizes e s) h = not_at offset offsets.FCR e q
spared_write offset value p q c d (move.empties e) h = not_at offset offsets.FCR e q
spared_write offset value p q c d _ h = h

pub spared_step : (access : Access) (m n : MachineState) → Spares access → IsToCome m.chip → MachineStep m access n → IsToCome n.chip
spared_step (Read offset value) m n other h s =
    rw s.0 (spared_read offset (at_access m).chip _ other (read_move offset (at_access m).chip) (at_once m h))
spared_step (Write offset value) m n other h s =
    rw s (write_lasts IsToCome offset value (spared_write offset value other.0 other.1) (at_access m).chip (at_once m h))

pub spared_path : (l : List Access) (m n : MachineState) → AllSpare l → IsToCome m.chip → Path MachineStep m l n → IsToCome n.chip
spared_path [] m n spare h p = rw p h
spared_path (access ∷ l) m n spare h p = spared_path l p.0 n spare.1 (spared_step access m p.0 spare.0 h p.1) p.2

-- ---- what is done so

abbrev pub spares_read : ℕ → Bool
spares_read register = not (register == offsets.ISR)

abbrev pub spares_write : ℕ → Bool
spares_write register = not (register == offsets.IER || register == offsets.FCR)

read_so : (register answer : ℕ) → spares_read register ≡ true → Spares (Read register answer)
read_so register answer is = not-true (register == offsets.ISR) is

write_so : (register value : ℕ) → spares_write register ≡ true → Spares (Write register value)
write_so register value is = or_parts (register == offsets.IER) (register == offsets.FCR) (not-true _ is)
  where
    or_parts : (a b : Bool) → (a || b) ≡ false → (a ≡ false) × (b ≡ false)
    or_parts false b e = (refl, e)
    or_parts true b e = absurd (false≢true (sym e))

pub spare : {kinds : Kinds} {L : Language} → Built kinds L → all_pass spares_read kinds.reads ≡ true →
    all_pass spares_write kinds.writes ≡ true → (s : Settings) → HoldsOfAll AllSpare s L
spare = each_so Spares spares_read spares_write read_so write_so

pub does_spare : {kinds : Kinds} {G : Doing} → Does kinds G → all_pass spares_read kinds.reads ≡ true →
    all_pass spares_write kinds.writes ≡ true → HoldsOfDoing AllSpare G
does_spare = does_so Spares spares_read spares_write read_so write_so

pub spared_list : (l : List Access) (m n : MachineState) → AllSpare l → Path MachineStep m l n → IsThrArmed m → IsThrArmed n
spared_list l m n spare path h = comes n (spared_path l m n spare (to_come m h) path)
