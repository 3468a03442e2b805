-- A byte that the host takes as soon as the guest writes it, and reads of LSR that show no error.
use Rattle.std.proofs.Common.{◌≡◌, ℕ, Bool, true, false, not, ◌&&◌, ◌||◌, ◌==◌, List, [], ◌∷◌, ◌++◌, length, Option, Some, None, is_some}
use Rattle.std.proofs.Common.{refl, ap, sym, ◌∙◌, subst, arith, if◌then◌else◌}
use Rattle.std.specs.List.{list_any}
use Rattle.std.proofs.lemmas.Grind.{common_steps}
use Rattle.uart_spec.specs.Bits.{has_any}
use Rattle.uart_spec.specs.declared.registers.line_status.TheConstants.LSR
use Rattle.uart_spec.specs.declared.registers.offsets.TheConstants as offsets
use Rattle.uart_spec.specs.declared.setup.FifoSize.{FifoSize}
use Rattle.uart_chip.specs.declared.transmitter.Shifting.{Shifting}
use Rattle.uart_chip.specs.Chip.{ChipState, after_read, after_write, line_status, take_wire}
use Rattle.uart_chip.specs.Receiver.{has_errors}
use Rattle.uart_chip.specs.Sending.{send_at_once, sends_at_once}
use Rattle.uart_chip.specs.Transmitter.{held, shift_bytes}
use Rattle.uart_live.proofs.Quick as quick
use Rattle.uart_live.proofs.Sends.{Sends, each, sends}
use Rattle.uart_live.specs.Live.{IsLive}
use Rattle.uart_live.specs.Quick.{clear_status, passed}
use Rattle.uart_virtual.specs.declared.told.Kind.{Kind}
use Rattle.uart_virtual.specs.declared.told.Seen.{Seen}
use Rattle.uart_virtual.specs.declared.told.Todo.{Todo}
use Rattle.uart_virtual.specs.declared.told.Told.{Told}
use Rattle.uart_virtual.specs.Port.{PortState, PortCall, Read, Write, TakeOutput, IsPort, IsStill, IsTold, after, todo, tell, todo_of}
use Rattle.uart_virtual.specs.Port.{kind_of, stays_up, settle, settle_ticks, is_up, seen_of, room_after, told_after}
use Rattle.uart_virtual.specs.Port.{rest_of, todo_after}
use Rattle.uart_virtual.specs.Port.{passes, nothing_new}
use Rattle.uart_virtual.proofs.Quiet.{IsQuiet, quiet_read, quiet_kind, quiet_told, quiet_tell, quiet_todo, take_kind}
use Rattle.uart_virtual.proofs.Sends.{settle-sent}
use Rattle.uart_virtual.proofs.Writes.{others, stays_sent}
use Rattle.uart_virtual.proofs.Tells.{nothing_told, nothing_todo, told_holds}
use Rattle.uart_virtual.proofs.Times.{still_read, still_ticks}

-- ---- the byte is taken

-- what the test says, part by part
pub record Passing (p : PortState) : Type 0 where
  pub none : p.chip.transmitter.wire ≡ []
  pub sends : sends_at_once p.chip ≡ true

nothing : (bytes : List ℕ) → (length bytes == 0) ≡ true → bytes ≡ []
nothing [] e = refl
nothing (x ∷ xs) e = let no : false ≡ true = grind (arith, common_steps) in absurd (cc)

pub passing_parts : (p : PortState) → passes p ≡ true → Passing p
passing_parts p e =
    let a = each (length p.chip.transmitter.wire == 0) _ e in
    record { none = nothing p.chip.transmitter.wire a.0; sends = a.1 }

-- the kind of the write
abbrev pub sending : Kind
sending = record { brings = false; looks = false; moves_data = true; may_make_room = false }

-- nothing is left to happen to the chip then
pub still_passed : (c : ChipState) → IsStill c → IsStill (passed c)
still_passed c s = record {
  paced = record { takes = s.paced.takes; room = s.paced.room };
  unmoved = s.unmoved;
  due = s.due;
}

none_held : (queue : List ℕ) (place : Option Shifting) → (length queue == 0) ≡ true → is_some place ≡ false →
    length (shift_bytes place ++ queue) ≡ 0
none_held [] None q e = refl
none_held (x ∷ xs) None q e = let no : false ≡ true = grind (arith, common_steps) in absurd (cc)
none_held queue (Some s) q e = absurd (cc)

-- the port after the write, and after the byte was taken
pub written : {size : FifoSize} (value : ℕ) (p : PortState) → IsLive size p.chip → IsPort p → passes p ≡ true →
    after (Write offsets.DATA value) p ≡
    record { chip = send_at_once value p.chip; told = tell sending (others p.chip) (passed p.chip) p.told }
written value p w h e =
    let parts : Passing p = passing_parts p e in
    let call : PortCall = Write offsets.DATA value in
    let c : ChipState = p.chip in
    let d : ChipState = after_write offsets.DATA value c in
    let sent = settle-sent value c w.whole.sound.chip h.still parts.sends in
    ap (λ (x : ChipState). record { chip = x; told = tell (kind_of call c) (stays_up call d) x p.told }) sent.0 ∙
    ap (λ (up : Bool). record { chip = send_at_once value c; told = tell sending up (send_at_once value c) p.told })
    (sym (stays_sent value c h.still parts.sends))

pub taken_after : {size : FifoSize} (value : ℕ) (p : PortState) → IsLive size p.chip → IsPort p → passes p ≡ true →
    after (TakeOutput 1) (after (Write offsets.DATA value) p) ≡
    record { chip = passed p.chip; told = tell sending (others p.chip) (passed p.chip) p.told }
taken_after value p w h e =
    let parts : Passing p = passing_parts p e in
    let c : ChipState = p.chip in
    let d : ChipState = send_at_once value c in
    let t : Told = tell sending (others c) (passed c) p.told in
    let s : Sends c = sends c parts.sends in
    let none : length (held d.transmitter) ≡ 0 = none_held c.transmitter.queue c.transmitter.shift_register s.empty s.free in
    let same : take_wire 1 d ≡ passed c = sym (quick.pass value c parts.none) in
    let still : settle (passed c) ≡ passed c =
    still_ticks (settle_ticks c.transmitter.size) (passed c) (quick.live-pass c w).whole.sound.chip (still_passed c h.still) in
    let told : IsTold (record { chip = passed c; told = t }) = told_holds sending (others c) (passed c) p.told in
    ap (λ (q : PortState). after (TakeOutput 1) q) (written value p w h e) ∙
    (ap (λ (x : ChipState). record { chip = settle x; told = tell (kind_of (TakeOutput 1) d) (is_up x) (settle x) t }) same ∙
    (ap (λ (x : ChipState). record { chip = x; told = tell (kind_of (TakeOutput 1) d) (is_up (passed c)) x t }) still ∙
    (ap (λ (kind : Kind). record { chip = passed c; told = tell kind (is_up (passed c)) (passed c) t }) (take_kind 1 d none) ∙
    ap (λ (told : Told). record { chip = passed c; told = told }) (nothing_told (passed c) t told))))

-- what the monitor has to do after the write
pub write_todo : {size : FifoSize} (value : ℕ) (p : PortState) → IsLive size p.chip → IsPort p → passes p ≡ true →
    record (todo (Write offsets.DATA value) p) { ready = 0 } ≡ record (todo_of sending (others p.chip) (passed p.chip) p.told) { ready = 0 }
write_todo value p w h e =
    let parts : Passing p = passing_parts p e in
    let call : PortCall = Write offsets.DATA value in
    let c : ChipState = p.chip in
    let d : ChipState = after_write offsets.DATA value c in
    let sent = settle-sent value c w.whole.sound.chip h.still parts.sends in
    ap (λ (x : ChipState). record (todo_of (kind_of call c) (stays_up call d) x p.told) { ready = 0 }) sent.0 ∙
    ap (λ (up : Bool). record (todo_of sending up (send_at_once value c) p.told) { ready = 0 })
    (sym (stays_sent value c h.still parts.sends))

-- when the byte was taken there is nothing to do
pub take_todo : {size : FifoSize} (value : ℕ) (p : PortState) → IsLive size p.chip → IsPort p → passes p ≡ true →
    todo (TakeOutput 1) (after (Write offsets.DATA value) p) ≡
    nothing_new (record { chip = passed p.chip; told = tell sending (others p.chip) (passed p.chip) p.told })
take_todo value p w h e =
    let parts : Passing p = passing_parts p e in
    let c : ChipState = p.chip in
    let d : ChipState = send_at_once value c in
    let t : Told = tell sending (others c) (passed c) p.told in
    let s : Sends c = sends c parts.sends in
    let none : length (held d.transmitter) ≡ 0 = none_held c.transmitter.queue c.transmitter.shift_register s.empty s.free in
    let same : take_wire 1 d ≡ passed c = sym (quick.pass value c parts.none) in
    let still : settle (passed c) ≡ passed c =
    still_ticks (settle_ticks c.transmitter.size) (passed c) (quick.live-pass c w).whole.sound.chip (still_passed c h.still) in
    let told : IsTold (record { chip = passed c; told = t }) = told_holds sending (others c) (passed c) p.told in
    ap (λ (q : PortState). todo (TakeOutput 1) q) (written value p w h e) ∙
    (ap (λ (x : ChipState). todo_of (kind_of (TakeOutput 1) d) (is_up x) (settle x) t) same ∙
    (ap (λ (x : ChipState). todo_of (kind_of (TakeOutput 1) d) (is_up (passed c)) x t) still ∙
    (ap (λ (kind : Kind). todo_of kind (is_up (passed c)) (passed c) t) (take_kind 1 d none) ∙
    sym (nothing_todo (passed c) t told))))

-- what is seen of the chip then, but for its room: the monitor knows of as much room as before
abbrev pub shown_passed : ChipState → Told → Seen
shown_passed c told =
    record {
      level = is_up (passed c);
      has_room = told.has_room;
      is_empty = false;
      rest = rest_of c;
      ready = length c.transmitter.wire;
    }

-- a byte of output is no news, and the room that is known stays
same_room : (c : ChipState) (told : Told) → IsTold (record { chip = c; told = told }) →
    room_after sending (shown_passed c told) told ≡ room_after sending (seen_of (passed c)) told
same_room c told h = known_again told.has_room ∙ h.room
  where
    known_again : (known : Bool) → (known && (known || (false || false))) ≡ known
    known_again true = refl
    known_again false = refl

pub told_passed : (c : ChipState) (told : Told) → IsTold (record { chip = c; told = told }) →
    told_after sending (others c) (shown_passed c told) told ≡ tell sending (others c) (passed c) told
told_passed c told h =
    ap (λ (some : Bool). record (tell sending (others c) (passed c) told) { has_room = some }) (same_room c told h)

pub todo_passed : (c : ChipState) (told : Told) → IsTold (record { chip = c; told = told }) →
    todo_after sending (others c) (shown_passed c told) told ≡ todo_of sending (others c) (passed c) told
todo_passed c told h =
    ap (λ (some : Bool). record (todo_of sending (others c) (passed c) told) { has_room = some && not told.has_room })
    (same_room c told h)

-- what the call looked at is that
pub seen_passed : (c : ChipState) (told : Told) (seen : Seen) → c.transmitter.wire ≡ [] → seen.level ≡ is_up (passed c) →
    seen.has_room ≡ told.has_room → seen.is_empty ≡ false → seen.rest ≡ rest_of c → seen.ready ≡ 0 → seen ≡ shown_passed c told
seen_passed c told seen none level some empty rest ready =
    ap (λ (b : Bool). record seen { level = b }) level ∙
    (ap (λ (b : Bool). record seen { level = is_up (passed c); has_room = b }) some ∙
    (ap (λ (b : Bool). record seen { level = is_up (passed c); has_room = told.has_room; is_empty = b }) empty ∙
    (ap (λ (n : ℕ). record seen { level = is_up (passed c); has_room = told.has_room; is_empty = false; rest = n }) rest ∙
    ap (λ (n : ℕ). record { level = is_up (passed c); has_room = told.has_room; is_empty = false; rest = rest_of c; ready = n })
    (ready ∙ ap (λ (wire : List ℕ). length wire) (sym none)))))

-- ---- reads of LSR

clear_is : (errors shown : Bool) (n : ℕ) → is_some (if errors || shown then None else Some n) ≡ true → shown ≡ false
clear_is true shown n e = absurd (cc)
clear_is false true n e = absurd (cc)
clear_is false false n e = refl

-- such a read is quiet
pub clear_quiet : (c : ChipState) → is_some (clear_status c) ≡ true → IsQuiet offsets.LSR c
clear_quiet c e =
    let shown : has_any (line_status c) LSR.LINE_ERRORS.0 ≡ false =
    clear_is (list_any has_errors c.receiver.queue) (has_any (line_status c) LSR.LINE_ERRORS.0) (line_status c) e in
    quiet_read offsets.LSR c (ap (λ (b : Bool). not b) shown)

pub clear_after : {size : FifoSize} (p : PortState) → IsLive size (after_read offsets.LSR p.chip) → IsPort p →
    is_some (clear_status p.chip) ≡ true →
    record { chip = after_read offsets.LSR p.chip; told = p.told } ≡ after (Read offsets.LSR) p
clear_after p w h e =
    let c : ChipState = p.chip in
    let d : ChipState = after_read offsets.LSR c in
    let q : IsQuiet offsets.LSR c = clear_quiet c e in
    let told : IsTold (record { chip = d; told = p.told }) = quiet_told offsets.LSR c p.told q h.told in
    let still : settle d ≡ d =
    still_ticks (settle_ticks d.transmitter.size) d w.whole.sound.chip (still_read offsets.LSR c q.other h.still) in
    ap (λ (x : ChipState). record { chip = x; told = p.told }) (sym still) ∙
    ap (λ (t : Told). record { chip = settle d; told = t })
    (quiet_tell (Read offsets.LSR) c d p.told (quiet_kind offsets.LSR c q) still (nothing_told d p.told told))

pub clear_todo : {size : FifoSize} (p : PortState) → IsLive size (after_read offsets.LSR p.chip) → IsPort p →
    is_some (clear_status p.chip) ≡ true →
    todo (Read offsets.LSR) p ≡ nothing_new p
clear_todo p w h e =
    let c : ChipState = p.chip in
    let d : ChipState = after_read offsets.LSR c in
    let q : IsQuiet offsets.LSR c = clear_quiet c e in
    let told : IsTold (record { chip = d; told = p.told }) = quiet_told offsets.LSR c p.told q h.told in
    let still : settle d ≡ d =
    still_ticks (settle_ticks d.transmitter.size) d w.whole.sound.chip (still_read offsets.LSR c q.other h.still) in
    sym (quiet_todo (Read offsets.LSR) c d p.told (nothing_new p) (quiet_kind offsets.LSR c q) still (nothing_todo d p.told told))

-- what both leave is a port
pub clear_keeps : (p : PortState) (x : ChipState) → IsPort p →
    (is_some (clear_status p.chip) ≡ true → x ≡ after_read offsets.LSR p.chip) →
    (is_some (clear_status p.chip) ≡ false → x ≡ p.chip) → IsPort (record { chip = x; told = p.told })
clear_keeps p x h read left = go (is_some (clear_status p.chip)) refl
  where
    go : (b : Bool) → is_some (clear_status p.chip) ≡ b → IsPort (record { chip = x; told = p.told })
    go true e =
        let q : IsQuiet offsets.LSR p.chip = clear_quiet p.chip e in
        subst (λ (y : ChipState). IsPort (record { chip = y; told = p.told })) (sym (read e)) (record {
          told = quiet_told offsets.LSR p.chip p.told q h.told;
          still = still_read offsets.LSR p.chip q.other h.still;
        })
    go false e = subst (λ (y : ChipState). IsPort (record { chip = y; told = p.told })) (sym (left e)) h

pub passed_port : (p : PortState) → IsPort p →
    IsPort (record { chip = passed p.chip; told = tell sending (others p.chip) (passed p.chip) p.told })
passed_port p h = record { told = told_holds sending (others p.chip) (passed p.chip) p.told; still = still_passed p.chip h.still }

-- the same of values that are equal to these
pub is_passed : (p : PortState) (x : ChipState) (t : Told) → x ≡ passed p.chip → t ≡ tell sending (others p.chip) (passed p.chip) p.told →
    ◌≡◌ {A = PortState} (record { chip = x; told = t })
    (record { chip = passed p.chip; told = tell sending (others p.chip) (passed p.chip) p.told })
is_passed p x t e f =
    ap (λ (y : ChipState). record { chip = y; told = t }) e ∙ ap (λ (u : Told). record { chip = passed p.chip; told = u }) f

abbrev within : Todo → Option Todo → Todo
within other None = other
within other (Some it) = it

pub same_some : (x y : Todo) → Some x ≡ Some y → x ≡ y
same_some x y e = ap (λ (it : Option Todo). within x it) e

pub pass_todo : {size : FifoSize} (value : ℕ) (p : PortState) (result : Todo) → IsLive size p.chip → IsPort p → passes p ≡ true →
    result ≡ todo_of sending (others p.chip) (passed p.chip) p.told → result ≡ record (todo (Write offsets.DATA value) p) { ready = 0 }
pass_todo value p result w h e same =
    same ∙ (ap (λ (wire : List ℕ). record (todo_of sending (others p.chip) (passed p.chip) p.told) { ready = length wire })
    (passing_parts p e).none ∙ sym (write_todo value p w h e))

pub pass_taken : {size : FifoSize} (value : ℕ) (p : PortState) → IsLive size p.chip → IsPort p → passes p ≡ true →
    todo (TakeOutput 1) (after (Write offsets.DATA value) p) ≡
    nothing_new (after (TakeOutput 1) (after (Write offsets.DATA value) p))
pass_taken value p w h e =
    take_todo value p w h e ∙ ap (λ (q : PortState). nothing_new q) (sym (taken_after value p w h e))
