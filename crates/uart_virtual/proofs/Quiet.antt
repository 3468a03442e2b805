-- A read that is quiet, and output that is taken while the transmitter is empty, leave nothing to be told.
use Rattle.std.proofs.Common.{◌≡◌, ℕ, Bool, true, false, not, ◌&&◌, ◌||◌, ◌==◌, length, refl, ap, sym, ◌∙◌, subst, arith}
use Rattle.std.proofs.lemmas.Grind.{common_steps}
use Rattle.uart_spec.specs.Bits.{has_any}
use Rattle.uart_spec.specs.declared.registers.line_status.TheConstants.LSR
use Rattle.uart_spec.specs.declared.registers.offsets.TheConstants as offsets
use Rattle.uart_chip.specs.Chip.{ChipState, answer, after_read, line_status, take_wire}
use Rattle.uart_chip.specs.Transmitter.{held}
use Rattle.uart_live.proofs.Sends.{each, unset}
use Rattle.uart_virtual.specs.declared.told.Kind.{Kind}
use Rattle.uart_virtual.specs.declared.told.Told.{Told}
use Rattle.uart_virtual.specs.declared.told.Todo.{Todo}
use Rattle.uart_virtual.specs.Port.{PortCall, Read, TakeOutput, kind_of, settle, is_up, has_room, is_empty, is_quiet, idle, IsTold}
use Rattle.uart_virtual.specs.Port.{tell, todo_of}
use Rattle.uart_virtual.proofs.Stays.{quiet_status}

-- what a quiet read leaves as it is, and that it is neither a look nor an access of DATA
pub record IsQuiet (offset : ℕ) (c : ChipState) : Type 0 where
  pub line : is_up (after_read offset c) ≡ is_up c
  pub room : has_room (after_read offset c) ≡ has_room c
  pub empty : is_empty (after_read offset c) ≡ is_empty c
  pub other : (offset == offsets.DATA) ≡ false
  pub unseen : (offset == offsets.ISR) ≡ false

quiet_lsr : (c : ChipState) → is_quiet offsets.LSR (answer offsets.LSR c) ≡ true → IsQuiet offsets.LSR c
quiet_lsr c e = record {
  line = quiet_status c (unset (has_any (line_status c) LSR.LINE_ERRORS.0) e);
  room = refl;
  empty = refl;
  other = refl;
  unseen = refl;
}

pub quiet_read : (offset : ℕ) (c : ChipState) → is_quiet offset (answer offset c) ≡ true → IsQuiet offset c
quiet_read offset c e = go (offset == offsets.LSR) refl
  where
    go : (b : Bool) → (offset == offsets.LSR) ≡ b → IsQuiet offset c
    go true l =
        let same : offsets.LSR ≡ offset = grind (arith, common_steps) in
        subst (λ (n : ℕ). is_quiet n (answer n c) ≡ true → IsQuiet n c) same (quiet_lsr c) e
    go false l =
        let other : (not (offset == offsets.DATA) && (not (offset == offsets.ISR) && not (offset == offsets.MSR))) ≡ true = rw l at e in
        let a = each (not (offset == offsets.DATA)) _ other in
        let b = each (not (offset == offsets.ISR)) _ a.1 in
        let moves : (offset == offsets.DATA) ≡ false = unset _ a.0 in
        let look : (offset == offsets.ISR) ≡ false = unset _ b.0 in
        let msr : (offset == offsets.MSR) ≡ false = unset _ b.1 in
        let same : after_read offset c ≡ c = rw (moves, look, l, msr) refl in
        record {
          line = ap is_up same;
          room = ap has_room same;
          empty = ap is_empty same;
          other = moves;
          unseen = look;
        }

pub quiet_told : (offset : ℕ) (c : ChipState) (told : Told) → IsQuiet offset c → IsTold (record { chip = c; told = told }) →
    IsTold (record { chip = after_read offset c; told = told })
quiet_told offset c told q h = record {
  line = h.line ∙ sym q.line;
  room = h.room ∙ (ap (λ (some : Bool). some && (told.has_room || is_empty c)) (sym q.room) ∙
      ap (λ (none : Bool). has_room (after_read offset c) && (told.has_room || none)) (sym q.empty));
}

pub quiet_kind : (offset : ℕ) (c : ChipState) → IsQuiet offset c → kind_of (Read offset) c ≡ idle
quiet_kind offset c q =
    ap (λ (b : Bool). record idle { looks = b; moves_data = offset == offsets.DATA }) q.unseen ∙
    ap (λ (b : Bool). record idle { moves_data = b }) q.other

pub take_kind : (count : ℕ) (c : ChipState) → length (held c.transmitter) ≡ 0 → kind_of (TakeOutput count) c ≡ idle
take_kind count c none =
    ap (λ (n : ℕ). record idle { brings = not (n == 0) }) none

pub take_told : (count : ℕ) (c : ChipState) (told : Told) → IsTold (record { chip = c; told = told }) →
    IsTold (record { chip = take_wire count c; told = told })
take_told count c told h = record { line = h.line; room = h.room }

-- what is told after such a call
pub quiet_tell : (call : PortCall) (c d : ChipState) (told : Told) → kind_of call c ≡ idle → settle d ≡ d →
    tell idle (is_up d) d told ≡ told → told ≡ tell (kind_of call c) (is_up d) (settle d) told
quiet_tell call c d told k s n =
    sym n ∙ (ap (λ (kind : Kind). tell kind (is_up d) d told) (sym k) ∙
    ap (λ (ended : ChipState). tell (kind_of call c) (is_up d) ended told) (sym s))

pub quiet_todo : (call : PortCall) (c d : ChipState) (told : Told) (todo : Todo) → kind_of call c ≡ idle → settle d ≡ d →
    todo ≡ todo_of idle (is_up d) d told → todo ≡ todo_of (kind_of call c) (is_up d) (settle d) told
quiet_todo call c d told todo k s n =
    n ∙ (ap (λ (kind : Kind). todo_of kind (is_up d) d told) (sym k) ∙
    ap (λ (ended : ChipState). todo_of (kind_of call c) (is_up d) ended told) (sym s))
