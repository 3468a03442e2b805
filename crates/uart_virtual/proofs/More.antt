-- A read of DATA that leaves a character, while the guest has the interrupt of received characters enabled: the line is up
-- before and after, and the room stays as it was told.
use Rattle.std.proofs.Common.{◌≡◌, ℕ, ◌-◌, Bool, true, false, not, ◌&&◌, ◌||◌, ◌==◌, nat_lt, List, [], ◌∷◌, length, map}
use Rattle.std.proofs.Common.{refl, ap, sym, ◌∙◌, subst, arith, if◌then◌else◌}
use Rattle.std.proofs.lemmas.Grind.{common_steps}
use Rattle.std.proofs.lemmas.List.{length-map}
use Rattle.uart_spec.specs.Bits.{has_any}
use Rattle.uart_spec.specs.declared.registers.interrupt_enable.TheConstants.IER
use Rattle.uart_spec.specs.declared.registers.offsets.TheConstants as offsets
use Rattle.uart_chip.specs.declared.receiver.Character.{Character}
use Rattle.uart_chip.specs.Chip.{ChipState, after_read, is_dlab_set}
use Rattle.uart_chip.specs.Receiver as receiver
use Rattle.uart_chip.specs.Receiver.{ReceiverState, take_front}
use Rattle.uart_chip.proofs.AccessMoves.{both_if}
use Rattle.uart_live.proofs.Sends.{each, unset}
use Rattle.uart_live.specs.Held.{expire}
use Rattle.uart_virtual.specs.declared.told.Kind.{Kind}
use Rattle.uart_virtual.specs.declared.told.Seen.{Seen}
use Rattle.uart_virtual.specs.declared.told.Todo.{Todo}
use Rattle.uart_virtual.specs.declared.told.Told.{Told}
use Rattle.uart_virtual.specs.Port.{PortState, Read, IsPort, IsStill, IsTold, idle, is_up, has_room, is_empty, seen_of, reads_more}
use Rattle.uart_virtual.specs.Port.{tell, todo_of, told_after, todo_after}
use Rattle.uart_virtual.proofs.Polls.{room_read}
use Rattle.uart_virtual.proofs.Times.{paced-happen, still-expire, unmoved-read}
use Rattle.uart_virtual.proofs.Waits.{waiting_interrupts}

-- ---- what is told while the line is up before and after

-- the kind of the read
abbrev pub reading : Kind
reading = record { brings = false; looks = false; moves_data = true; may_make_room = false }

raised : (seen : Seen) → seen.level ≡ true → record seen { level = true } ≡ seen
raised seen e = ap (λ (level : Bool). record seen { level = level }) (sym e)

lined : (told : Told) → told.line ≡ true → record told { line = true } ≡ told
lined told e = ap (λ (line : Bool). record told { line = line }) (sym e)

-- if the line was up all the time, the read is as a call that is nothing but time
told_idle : (seen : Seen) (told : Told) → seen.level ≡ true → told.line ≡ true →
    told_after idle true seen told ≡ told_after reading true seen told
told_idle seen told up line =
    subst (λ (s : Seen). told_after idle true s told ≡ told_after reading true s told) (raised seen up)
    (subst (λ (t : Told). told_after idle true (record seen { level = true }) t ≡ told_after reading true (record seen { level = true }) t)
    (lined told line) refl)

todo_idle : (seen : Seen) (told : Told) → seen.level ≡ true → told.line ≡ true →
    todo_after idle true seen told ≡ todo_after reading true seen told
todo_idle seen told up line =
    subst (λ (s : Seen). todo_after idle true s told ≡ todo_after reading true s told) (raised seen up)
    (subst (λ (t : Told). todo_after idle true (record seen { level = true }) t ≡ todo_after reading true (record seen { level = true }) t)
    (lined told line) refl)

pub told_unmoved : (c : ChipState) (told : Told) (was_up : Bool) → IsTold (record { chip = c; told = told }) → is_up c ≡ true →
    was_up ≡ true → tell idle (is_up c) c told ≡ told → told ≡ tell reading was_up c told
told_unmoved c told was_up h up was same =
    sym same ∙
    (ap (λ (b : Bool). tell idle b c told) up ∙
    (told_idle (seen_of c) told up (h.line ∙ up) ∙ ap (λ (b : Bool). tell reading b c told) (sym was)))

pub todo_unmoved : (c : ChipState) (told : Told) (was_up : Bool) (todo : Todo) → IsTold (record { chip = c; told = told }) →
    is_up c ≡ true → was_up ≡ true → todo ≡ todo_of idle (is_up c) c told → todo ≡ todo_of reading was_up c told
todo_unmoved c told was_up todo h up was is =
    is ∙
    (ap (λ (b : Bool). todo_of idle b c told) up ∙
    (todo_idle (seen_of c) told up (h.line ∙ up) ∙ ap (λ (b : Bool). todo_of reading b c told) (sym was)))

-- ---- what the read leaves

pub record ReadsMore (p : PortState) : Type 0 where
  pub on : has_any p.chip.latches.ier IER.DATA_READY.0 ≡ true
  pub some : nat_lt 1 (length (receiver.waiting p.chip.receiver)) ≡ true
  pub latched : is_dlab_set p.chip.latches ≡ false

pub more_parts : (p : PortState) → reads_more p ≡ true → ReadsMore p
more_parts p e =
    let a = each (has_any p.chip.latches.ier IER.DATA_READY.0) _ e in
    let b = each (nat_lt 1 (length (receiver.waiting p.chip.receiver))) _ a.1 in
    record { on = a.0; some = b.0; latched = unset (is_dlab_set p.chip.latches) b.1 }

some_left : (queue : List Character) (r : ReceiverState) → nat_lt 1 (length queue) ≡ true →
    nat_lt 0 (length (take_front queue r).queue) ≡ true
some_left [] r h = let no : false ≡ true = grind (arith, common_steps) in absurd (cc)
some_left (x ∷ xs) r h = grind (arith, common_steps)

unempty : (queue : List Character) → nat_lt 0 (length queue) ≡ true →
    (length (map (λ (character : Character). character.byte) queue) == 0) ≡ false
unempty queue h =
    let some : (length queue == 0) ≡ false = grind (arith, common_steps, h) in
    subst (λ (n : ℕ). (n == 0) ≡ false) (sym (length-map queue (λ (character : Character). character.byte))) some

-- a character that waits leaves the interrupt enabled
read_on : (c : ChipState) → has_any c.latches.ier IER.DATA_READY.0 ≡ true →
    has_any (after_read offsets.DATA c).latches.ier IER.DATA_READY.0 ≡ true
read_on c on =
    both_if (λ (d : ChipState). has_any d.latches.ier IER.DATA_READY.0 ≡ true) c
    (record c { receiver = take_front c.receiver.queue c.receiver }) (is_dlab_set c.latches) on on

-- what is known of room stays so, if room stays and some character waits
kept_room : (known room none room' none' : Bool) → known ≡ (room && (known || none)) → (room ≡ true → room' ≡ true) →
    none' ≡ false → known ≡ (room' && (known || none'))
kept_room true true none true none' h f e = refl
kept_room true true none false none' h f e = let no : false ≡ true = f refl in absurd (cc)
kept_room true false none room' none' h f e = absurd (cc)
kept_room false room none true true h f e = absurd (cc)
kept_room false room none true false h f e = refl
kept_room false room none false none' h f e = refl

-- the port then, once the time of the call has passed
pub record LeavesMore (p : PortState) : Type 0 where
  pub still : IsStill (expire (after_read offsets.DATA p.chip))
  pub up : is_up (expire (after_read offsets.DATA p.chip)) ≡ true
  pub told : IsTold (record { chip = expire (after_read offsets.DATA p.chip); told = p.told })

pub leaves_more : (p : PortState) → IsPort p → ReadsMore p → LeavesMore p
leaves_more p h m =
    let c : ChipState = p.chip in
    let d : ChipState = after_read offsets.DATA c in
    let many : nat_lt 1 (length c.receiver.queue) ≡ true =
    subst (λ (n : ℕ). nat_lt 1 n ≡ true) (length-map c.receiver.queue (λ (character : Character). character.byte)) m.some in
    let some : nat_lt 0 (length c.receiver.queue) ≡ true = grind (arith, common_steps, many) in
    let rest : nat_lt 0 (length d.receiver.queue) ≡ true = rw m.latched (some_left c.receiver.queue c.receiver many) in
    let still : IsStill (expire d) =
    still-expire d (paced-happen (Read offsets.DATA) c h.still.paced) (unmoved-read offsets.DATA c h.still.unmoved) in
    let up : is_up (expire d) ≡ true = waiting_interrupts (expire d) still (read_on c m.on) rest in
    record {
      still = still;
      up = up;
      told = record {
        line = h.told.line ∙ (waiting_interrupts c h.still m.on some ∙ sym up);
        room = kept_room p.told.has_room (has_room c) (is_empty c) (has_room (expire d)) (is_empty (expire d)) h.told.room (room_read c)
            (unempty d.receiver.queue rest);
      };
    }
