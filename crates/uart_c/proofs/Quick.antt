-- What a call does that lets nothing move, has nothing to tell, or sends a byte at once, is what any call does.
use Rattle.std.proofs.Common.{◌≡◌, ℕ, zero, suc, ◌+◌, ◌-◌, ◌==◌, Bool, true, false, not, ◌&&◌, ◌||◌, List, [], ◌∷◌, ◌++◌, length}
use Rattle.std.proofs.Common.{Option, Some, None, is_some, refl, ap, sym, ◌∙◌, subst, arith, if◌then◌else◌}
use Rattle.std.proofs.lemmas.Grind.{common_steps}
use Rattle.uart_c.specs.Port.{leaves_nothing, nothing_but, shown}
use Rattle.uart_chip.proofs.Jumps.{StillFor, ticks-add, ticks_skip}
use Rattle.uart_chip.specs.Chip.{ChipState, after_write, is_loopback, is_held_off, ticks}
use Rattle.uart_chip.specs.Jumps.{count_up, next_move, place_after, timeout_after}
use Rattle.uart_chip.specs.Sending.{sends_at_once, send_at_once}
use Rattle.uart_chip.specs.Transmitter.{held, shift_bytes}
use Rattle.uart_chip.specs.declared.transmitter.Shifting.{Shifting}
use Rattle.uart_live.proofs.Sends.{Sends, each, sends, unset}
use Rattle.uart_spec.specs.FifoSize.{characters}
use Rattle.uart_spec.specs.declared.registers.offsets.TheConstants as offsets
use Rattle.uart_virtual.proofs.Sends.{two_ticks}
use Rattle.uart_virtual.specs.Port.{IsStill, falls, has_room, is_empty, is_news, is_up, rest_of, seen_of, settle, settle_ticks, spare_after}
use Rattle.uart_virtual.specs.Port.{tell, todo_of}
use Rattle.uart_virtual.specs.declared.told.Kind.{Kind}
use Rattle.uart_virtual.specs.declared.told.Told.{Told}

-- ---- a transmitter that holds nothing

nothing-held : (place : Option Shifting) (queue : List ℕ) → length (shift_bytes place ++ queue) ≡ 0 →
    (place ≡ None) × (queue ≡ [])
nothing-held None [] e = (refl, refl)
nothing-held None (x ∷ xs) e = absurd (omega (arith, e))
nothing-held (Some s) queue e = absurd (omega (arith, e))

-- ticks bring nothing but a reception timeout
pub idle_ticks : (n : ℕ) (c : ChipState) → length (held c.transmitter) ≡ 0 → ticks n c ≡ record c { receiver = count_up n c.receiver }
idle_ticks n c e =
    let none = nothing-held c.transmitter.shift_register c.transmitter.queue e in
    let unmoved : next_move (is_loopback c.latches) (is_held_off c) c.transmitter ≡ None = rw (none.0, none.1) refl in
    let same : place_after n c.transmitter.shift_register ≡ c.transmitter.shift_register = rw none.0 refl in
    ticks_skip n c (subst (λ move. StillFor n move) (sym unmoved) tt) ∙
    ap (λ (place : Option Shifting). record c {
      transmitter = record c.transmitter { shift_register = place };
      receiver = count_up n c.receiver;
    }) same

pub settle-idle : (c : ChipState) → length (held c.transmitter) ≡ 0 →
    settle c ≡ record c { receiver = count_up (settle_ticks c.transmitter.size) c.receiver }
settle-idle c e = idle_ticks (settle_ticks c.transmitter.size) c e

-- a timeout that is due stays due
due-stays : (n ticks limit : ℕ) → ticks ≡ limit → timeout_after n ticks limit ≡ ticks
due-stays zero ticks limit e = refl
due-stays (suc n) ticks limit e = omega (arith, e)

pub settle-due : (c : ChipState) → length (held c.transmitter) ≡ 0 → c.receiver.timeout_ticks ≡ c.receiver.timeout_limit →
    settle c ≡ c
settle-due c e due =
    settle-idle c e ∙
    ap (λ (i : ℕ). record c { receiver = record c.receiver { timeout_ticks = i } })
    (due-stays (settle_ticks c.transmitter.size) c.receiver.timeout_ticks c.receiver.timeout_limit due)

-- ---- a byte that is sent at once

none-queued : (queue : List ℕ) → (length queue == 0) ≡ true → queue ≡ []
none-queued [] e = refl
none-queued (x ∷ xs) e = let no : false ≡ true = grind (arith, common_steps) in absurd (cc)

none-shifted : (place : Option Shifting) → is_some place ≡ false → place ≡ None
none-shifted None e = refl
none-shifted (Some s) e = absurd (cc)

-- after the time of a call the byte is on the output
pub settle-sent : (value : ℕ) (c : ChipState) → IsStill c → sends_at_once c ≡ true →
    settle (after_write offsets.DATA value c) ≡ send_at_once value c
unfolding settle_ticks
settle-sent value c still e =
    let s : Sends c = sends c e in
    let d : ChipState = after_write offsets.DATA value c in
    let sent : ChipState = send_at_once value c in
    let empty : length (held sent.transmitter) ≡ 0 =
    rw (none-queued c.transmitter.queue s.empty, none-shifted c.transmitter.shift_register s.free) refl in
    let left : ℕ = characters d.transmitter.size + 4 in
    let sum : characters d.transmitter.size + 6 ≡ left + 2 = omega arith in
    ap (λ (n : ℕ). ticks n d) sum ∙ (ticks-add left 2 d ∙ (ap (λ (x : ChipState). ticks left x) (two_ticks value c still s) ∙
    (idle_ticks left sent empty ∙
    ap (λ (i : ℕ). record sent { receiver = record c.receiver { timeout_ticks = i } })
    (due-stays left c.receiver.timeout_ticks c.receiver.timeout_limit still.due))))

-- ---- nothing is told

none-used : (moves : Bool) (n : ℕ) → (if moves && false then n - 1 else n) ≡ n
none-used true n = refl
none-used false n = refl

record Quiet (kind : Kind) (c : ChipState) (told : Told) : Type 0 where
  unseen : kind.looks ≡ false
  line : told.line ≡ false
  known : told.has_room ≡ true
  room : has_room c ≡ true
  down : is_up c ≡ false

quiet : (kind : Kind) (c : ChipState) (told : Told) → leaves_nothing kind c told ≡ true → Quiet kind c told
quiet kind c told e =
    let a = each (not kind.looks) _ e in
    let b = each (not told.line) _ a.1 in
    let f = each told.has_room _ b.1 in
    let g = each (has_room c) _ f.1 in
    record { unseen = unset _ a.0; line = unset _ b.0; known = f.0; room = g.0; down = unset _ g.1 }

with-true : (b : Bool) → b ≡ (b && true)
with-true true = refl
with-true false = refl

known-stays : (known more : Bool) → known ≡ true → known ≡ (known || more)
known-stays true more e = refl
known-stays false more e = absurd (cc)

-- what was told is what is told again
same-told : (told : Told) (moves v more : Bool) → told.line ≡ false → told.has_room ≡ true →
    told ≡ record {
      line = false;
      has_room = told.has_room || more;
      has_looked = told.has_looked && true;
      spare = if moves && falls v told then told.spare - 1 else told.spare;
    }
same-told told moves v more line known =
    ap (λ (b : Bool). record told { line = b }) line ∙
    (ap (λ (b : Bool). record told { line = false; has_room = b }) (known-stays told.has_room more known) ∙
    (ap (λ (b : Bool). record told { line = false; has_room = told.has_room || more; has_looked = b }) (with-true told.has_looked) ∙
    ap (λ (n : ℕ). record told { line = false; has_room = told.has_room || more; has_looked = told.has_looked && true; spare = n })
    (sym (ap (λ (up : Bool). if moves && (up && not v) then told.spare - 1 else told.spare) line ∙ none-used moves told.spare))))

pub quiet_told : (kind : Kind) (v : Bool) (c : ChipState) (told : Told) → leaves_nothing kind c told ≡ true →
    told ≡ tell kind v c told
quiet_told kind v c told e =
    let q : Quiet kind c told = quiet kind c told e in
    same-told told kind.moves_data v (kind.may_make_room || is_empty c) q.line q.known ∙
    (ap (λ (up : Bool). told_if up false true) (sym q.down) ∙
    (ap (λ (looks : Bool). told_if (is_up c) looks true) (sym q.unseen) ∙
    ap (λ (some : Bool). told_if (is_up c) kind.looks some) (sym q.room)))
  where
    -- with this level, of a call that is a look or not, and with room or without
    told_if : (up looks some : Bool) → Told
    told_if up looks some =
        let signal : Bool = up && (not told.line || (is_news kind (seen_of c) || (not v && (told.spare == 0)))) in
        record {
          line = up;
          has_room = some && (told.has_room || (kind.may_make_room || is_empty c));
          has_looked = looks || (told.has_looked && not signal);
          spare = spare_after (record kind { looks = looks }) v signal (rest_of c) told;
        }

pub quiet_todo : (kind : Kind) (v : Bool) (c : ChipState) (told : Told) → leaves_nothing kind c told ≡ true →
    nothing_but (length c.transmitter.wire) ≡ shown (todo_of kind v c told)
quiet_todo kind v c told e =
    let q : Quiet kind c told = quiet kind c told e in rw (q.down, q.room, q.known, q.line) refl
