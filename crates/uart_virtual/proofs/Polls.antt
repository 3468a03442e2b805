-- A guest that polls has no interrupt enabled, so its line is down. Then only the room is told.
use Rattle.std.proofs.Common.{◌≡◌, ℕ, suc, ◌-◌, Bool, true, false, not, ◌&&◌, ◌||◌, ◌==◌, List, [], ◌∷◌, length}
use Rattle.std.proofs.Common.{refl, ap, sym, ◌∙◌, arith, if◌then◌else◌}
use Rattle.std.proofs.lemmas.Grind.{common_steps}
use Rattle.uart_spec.specs.declared.registers.offsets.TheConstants as offsets
use Rattle.uart_spec.specs.declared.setup.FifoSize.{FifoSize}
use Rattle.uart_chip.specs.declared.receiver.Character.{Character}
use Rattle.uart_chip.specs.Chip.{ChipState, after_read, arrive_live, is_dlab_set, is_loopback, receive_room}
use Rattle.uart_chip.specs.Receiver.{ReceiverState, take_front}
use Rattle.uart_chip.specs.Transmitter.{room}
use Rattle.uart_chip.proofs.AccessMoves.{both_if}
use Rattle.uart_live.proofs.Sends.{each, unset}
use Rattle.uart_live.specs.Held.{expire}
use Rattle.uart_live.specs.Live.{IsLive}
use Rattle.uart_virtual.specs.declared.told.Kind.{Kind}
use Rattle.uart_virtual.specs.declared.told.Todo.{Todo}
use Rattle.uart_virtual.specs.declared.told.Told.{Told}
use Rattle.uart_virtual.proofs.Masks.{turned}
use Rattle.uart_virtual.proofs.Times.{paced-happen, paced-all, unmoved-read, unmoved-all, settle-unmoved}
use Rattle.uart_virtual.specs.Port.{PortState, PortCall, Read, Receive, IsPort, IsStill, after, todo, kind_of, settle, happen}
use Rattle.uart_virtual.specs.Port.{accepted, is_up, has_room, is_empty, tell, todo_of, is_signalled, rest_of, spare_after, differ}
use Rattle.uart_virtual.specs.Port.{arrive_all}
use Rattle.uart_virtual.specs.Port.{is_news, room_after, seen_of}
use Rattle.uart_virtual.specs.Port.{nothing_new, reads_polled}

with_true : (b : Bool) → (b && true) ≡ b
with_true true = refl
with_true false = refl

none_signalled : (kind : Kind) (v : Bool) (c : ChipState) (told : Told) → is_up c ≡ false →
    is_signalled kind v (seen_of c) told ≡ false
none_signalled kind v c told down =
    ap (λ (up : Bool). up && (not told.line || (is_news kind (seen_of c) || (not v && (told.spare == 0))))) down

-- what is told of a call that is no look and uses up nothing that is covered
pub down_told : (kind : Kind) (v : Bool) (c : ChipState) (told : Told) → kind.looks ≡ false →
    spare_after kind v false (rest_of c) told ≡ told.spare → told.line ≡ false → is_up c ≡ false →
    record told { has_room = room_after kind (seen_of c) told } ≡ tell kind v c told
down_told kind v c told unseen same line down =
    let some : Bool = room_after kind (seen_of c) told in
    sym (ap (λ (signal : Bool). record told {
      line = is_up c;
      has_room = some;
      has_looked = kind.looks || (told.has_looked && not signal);
      spare = spare_after kind v signal (rest_of c) told;
    }) (none_signalled kind v c told down) ∙
    (ap (λ (looks : Bool). record told {
      line = is_up c;
      has_room = some;
      has_looked = looks || (told.has_looked && true);
      spare = spare_after kind v false (rest_of c) told;
    }) unseen ∙
    (ap (λ (up : Bool). record told {
      line = up;
      has_room = some;
      has_looked = told.has_looked && true;
      spare = spare_after kind v false (rest_of c) told;
    }) (down ∙ sym line) ∙
    (ap (λ (looked : Bool). record told {
      has_room = some;
      has_looked = looked;
      spare = spare_after kind v false (rest_of c) told;
    }) (with_true told.has_looked) ∙
    ap (λ (spare : ℕ). record told { has_room = some; spare = spare }) same))))

-- what the monitor has to do
abbrev pub down_does : Kind → ChipState → Told → Todo
down_does kind c told =
    record {
      signal = false;
      level = false;
      has_moved = false;
      has_room = room_after kind (seen_of c) told && not told.has_room;
      ready = length c.transmitter.wire;
    }

pub down_todo : (kind : Kind) (v : Bool) (c : ChipState) (told : Told) → told.line ≡ false → is_up c ≡ false →
    down_does kind c told ≡ todo_of kind v c told
down_todo kind v c told line down =
    let unmoved : differ told.line (is_up c) ≡ false = ap (λ (up : Bool). differ told.line up) down ∙ line in
    sym (ap (λ (signal : Bool). record (todo_of kind v c told) { signal = signal }) (none_signalled kind v c told down) ∙
    (ap (λ (up : Bool). record (todo_of kind v c told) { signal = false; level = up }) down ∙
    ap (λ (moved : Bool). record (todo_of kind v c told) { signal = false; level = false; has_moved = moved }) unmoved))

-- if the monitor knew of room, it knows of the room that there is
known_room : (kind : Kind) (c : ChipState) (told : Told) → told.has_room ≡ true → room_after kind (seen_of c) told ≡ has_room c
known_room kind c told known =
    ap (λ (b : Bool). has_room c && (b || (kind.may_make_room || is_empty c))) known ∙ with_true (has_room c)

-- ---- a read of DATA leaves room where there was some

room_front : (loopback fifo : Bool) (queue : List Character) (r : ReceiverState) → r.queue ≡ queue →
    not ((if loopback then 0 else room fifo r.size - length r.queue) == 0) ≡ true →
    not ((if loopback then 0 else room fifo (take_front queue r).size - length (take_front queue r).queue) == 0) ≡ true
room_front true fifo queue r e h = absurd (cc)
room_front false fifo [] r e h = h
room_front false fifo (x ∷ xs) r e h =
    let longer : length r.queue ≡ suc (length xs) = ap (λ (queue : List Character). length queue) e in
    grind (arith, common_steps, h, longer)

pub room_read : (c : ChipState) → has_room c ≡ true → has_room (after_read offsets.DATA c) ≡ true
room_read c some =
    both_if (λ (d : ChipState). has_room d ≡ true) c
    (record c { receiver = take_front c.receiver.queue c.receiver }) (is_dlab_set c.latches) some
    (room_front (is_loopback c.latches) c.fifo c.receiver.queue c.receiver refl some)

-- ---- a byte of input

pub accepts_one : (byte : ℕ) (c : ChipState) → not (receive_room c == 0) ≡ true → accepted (byte ∷ []) c ≡ 1
accepts_one byte c some = grind (arith, common_steps, some)

pub accepts_none : (byte : ℕ) (c : ChipState) → not (receive_room c == 0) ≡ false → accepted (byte ∷ []) c ≡ 0
accepts_none byte c none = grind (arith, common_steps, none)

-- with room it arrives, and without nothing happens
pub happens_one : (byte : ℕ) (c : ChipState) → not (receive_room c == 0) ≡ true →
    happen (Receive (byte ∷ [])) c ≡ arrive_live byte 0 c
happens_one byte c some = rw (accepts_one byte c some) refl

pub happens_none : (byte : ℕ) (c : ChipState) → not (receive_room c == 0) ≡ false → happen (Receive (byte ∷ [])) c ≡ c
happens_none byte c none = rw (accepts_none byte c none) refl

-- ---- both calls

pub nothing_and : (b : Bool) → (b && false) ≡ false
nothing_and true = refl
nothing_and false = refl

-- without an interrupt that is enabled the line is down
pub off_down : (c : ChipState) → (c.latches.ier == 0) ≡ true → is_up c ≡ false
off_down c off =
    let none : c.latches.ier ≡ 0 = grind (arith, common_steps, off) in
    rw none refl

pub still_all : {size : FifoSize} (bytes : List ℕ) (c : ChipState) → IsLive size (expire (arrive_all bytes c)) → IsStill c →
    settle (arrive_all bytes c) ≡ expire (arrive_all bytes c)
still_all bytes c w s =
    settle-unmoved (arrive_all bytes c) w.whole.sound.chip (paced-all bytes c s.paced) (unmoved-all bytes c s.unmoved)

pub receive_after : {size : FifoSize} (byte : ℕ) (p : PortState) → IsLive size (expire (arrive_live byte 0 p.chip)) → IsPort p →
    (p.chip.latches.ier == 0) ≡ true → has_room p.chip ≡ true → p.told.has_room ≡ true →
    record {
      chip = expire (arrive_live byte 0 p.chip);
      told = record p.told { has_room = has_room (expire (arrive_live byte 0 p.chip)) };
    } ≡ after (Receive (byte ∷ [])) p
receive_after byte p w h off some known =
    let c : ChipState = p.chip in
    let call : PortCall = Receive (byte ∷ []) in
    let d : ChipState = arrive_live byte 0 c in
    let settled : settle d ≡ expire d = still_all (byte ∷ []) c w h.still in
    let down : p.told.line ≡ false = h.told.line ∙ off_down c off in
    ap (λ (b : Bool). record { chip = expire d; told = record p.told { has_room = b } })
    (sym (known_room (kind_of call c) (expire d) p.told known)) ∙
    (ap (λ (t : Told). record { chip = expire d; told = t })
    (down_told (kind_of call c) (is_up d) (expire d) p.told refl refl down (off_down (expire d) off)) ∙
    (ap (λ (x : ChipState). record { chip = x; told = tell (kind_of call c) (is_up d) x p.told }) (sym settled) ∙
    ap (λ (x : ChipState). record { chip = settle x; told = tell (kind_of call c) (is_up x) (settle x) p.told })
    (sym (happens_one byte c some))))

pub receive_todo : {size : FifoSize} (byte : ℕ) (p : PortState) → IsLive size (expire (arrive_live byte 0 p.chip)) → IsPort p →
    (p.chip.latches.ier == 0) ≡ true → has_room p.chip ≡ true → p.told.has_room ≡ true →
    todo (Receive (byte ∷ [])) p ≡ nothing_new p
receive_todo byte p w h off some known =
    let c : ChipState = p.chip in
    let call : PortCall = Receive (byte ∷ []) in
    let d : ChipState = arrive_live byte 0 c in
    let settled : settle d ≡ expire d = still_all (byte ∷ []) c w h.still in
    let down : p.told.line ≡ false = h.told.line ∙ off_down c off in
    ap (λ (x : ChipState). todo_of (kind_of call c) (is_up x) (settle x) p.told) (happens_one byte c some) ∙
    (ap (λ (x : ChipState). todo_of (kind_of call c) (is_up d) x p.told) settled ∙
    (sym (down_todo (kind_of call c) (is_up d) (expire d) p.told down (off_down (expire d) off)) ∙
    (ap (λ (line : Bool). record (down_does (kind_of call c) (expire d) p.told) { level = line }) (sym down) ∙
    (ap (λ (told : Bool). record (nothing_new p) { has_room = room_after (kind_of call c) (seen_of (expire d)) p.told && not told }) known ∙
    ap (λ (is_new : Bool). record (nothing_new p) { has_room = is_new })
    (nothing_and (room_after (kind_of call c) (seen_of (expire d)) p.told))))))

-- what a read of DATA leaves as it is
read_off : (c : ChipState) → (c.latches.ier == 0) ≡ true → ((after_read offsets.DATA c).latches.ier == 0) ≡ true
read_off c off =
    both_if (λ (d : ChipState). (d.latches.ier == 0) ≡ true) c
    (record c { receiver = take_front c.receiver.queue c.receiver }) (is_dlab_set c.latches) off off

read_wire : (c : ChipState) → (after_read offsets.DATA c).transmitter.wire ≡ c.transmitter.wire
read_wire c =
    both_if (λ (d : ChipState). d.transmitter.wire ≡ c.transmitter.wire) c
    (record c { receiver = take_front c.receiver.queue c.receiver }) (is_dlab_set c.latches) refl refl

pub read_settled : {size : FifoSize} (c : ChipState) → IsLive size (expire (after_read offsets.DATA c)) → IsStill c →
    settle (after_read offsets.DATA c) ≡ expire (after_read offsets.DATA c)
read_settled c w s =
    settle-unmoved (after_read offsets.DATA c) w.whole.sound.chip (paced-happen (Read offsets.DATA) c s.paced)
    (unmoved-read offsets.DATA c s.unmoved)

pub read_after : {size : FifoSize} (p : PortState) → IsLive size (expire (after_read offsets.DATA p.chip)) → IsPort p →
    (p.chip.latches.ier == 0) ≡ true → p.told.has_room ≡ true →
    record { chip = expire (after_read offsets.DATA p.chip); told = p.told } ≡ after (Read offsets.DATA) p
read_after p w h off room =
    let c : ChipState = p.chip in
    let call : PortCall = Read offsets.DATA in
    let d : ChipState = after_read offsets.DATA c in
    let down : p.told.line ≡ false = h.told.line ∙ off_down c off in
    let some : has_room d ≡ true = room_read c (room_then p.told.has_room (has_room c) (is_empty c) h.told.room room) in
    let same : spare_after (kind_of call c) (is_up d) false (rest_of (expire d)) p.told ≡ p.told.spare =
    ap (λ (line : Bool). if line && not (is_up d) then p.told.spare - 1 else p.told.spare) down in
    ap (λ (b : Bool). record { chip = expire d; told = record p.told { has_room = b } })
    (room ∙ sym (known_room (kind_of call c) (expire d) p.told room ∙ some)) ∙
    (ap (λ (t : Told). record { chip = expire d; told = t })
    (down_told (kind_of call c) (is_up d) (expire d) p.told refl same down (off_down (expire d) (read_off c off))) ∙
    ap (λ (x : ChipState). record { chip = x; told = tell (kind_of call c) (is_up d) x p.told }) (sym (read_settled c w h.still)))
  where
    room_then : (known some none : Bool) → known ≡ (some && (known || none)) → known ≡ true → some ≡ true
    room_then true true none e f = refl
    room_then true false none e f = absurd (cc)
    room_then false some none e f = absurd (cc)

pub read_todo : {size : FifoSize} (p : PortState) → IsLive size (expire (after_read offsets.DATA p.chip)) → IsPort p →
    (p.chip.latches.ier == 0) ≡ true → p.told.has_room ≡ true → todo (Read offsets.DATA) p ≡ nothing_new p
read_todo p w h off room =
    let c : ChipState = p.chip in
    let call : PortCall = Read offsets.DATA in
    let d : ChipState = after_read offsets.DATA c in
    let down : p.told.line ≡ false = h.told.line ∙ off_down c off in
    ap (λ (x : ChipState). todo_of (kind_of call c) (is_up d) x p.told) (read_settled c w h.still) ∙
    (sym (down_todo (kind_of call c) (is_up d) (expire d) p.told down (off_down (expire d) (read_off c off))) ∙
    (ap (λ (line : Bool). record (down_does (kind_of call c) (expire d) p.told) { level = line }) (sym down) ∙
    (ap (λ (told : Bool). record (down_does (kind_of call c) (expire d) p.told) {
      level = p.told.line;
      has_room = room_after (kind_of call c) (seen_of (expire d)) p.told && not told;
    }) room ∙
    (ap (λ (is_new : Bool). record (down_does (kind_of call c) (expire d) p.told) { level = p.told.line; has_room = is_new })
    (nothing_and (room_after (kind_of call c) (seen_of (expire d)) p.told)) ∙
    ap (λ (wire : List ℕ). record (nothing_new p) { ready = length wire }) (read_wire c)))))

-- what the test of a read says, part by part
pub record ReadsPolled (p : PortState) : Type 0 where
  pub off : (p.chip.latches.ier == 0) ≡ true
  pub room : p.told.has_room ≡ true

pub reads_parts : (p : PortState) → reads_polled p ≡ true → ReadsPolled p
reads_parts p e =
    let a = each (p.chip.latches.ier == 0) _ e in
    record { off = a.0; room = a.1 }

pub no_interrupts : (c : ChipState) (result : Bool) → result ≡ not (c.latches.ier == 0) → result ≡ false → (c.latches.ier == 0) ≡ true
no_interrupts c result e off = turned (c.latches.ier == 0) (sym e ∙ off)

pub interrupts_on : (c : ChipState) (result : Bool) → result ≡ not (c.latches.ier == 0) → result ≡ true → (c.latches.ier == 0) ≡ false
interrupts_on c result e on = unset (c.latches.ier == 0) (sym e ∙ on)

-- the same of values that are equal to these
pub received : {size : FifoSize} (byte : ℕ) (p : PortState) (x : ChipState) (some : Bool) →
    IsLive size (expire (arrive_live byte 0 p.chip)) → IsPort p →
    (p.chip.latches.ier == 0) ≡ true → has_room p.chip ≡ true → p.told.has_room ≡ true →
    x ≡ expire (arrive_live byte 0 p.chip) → some ≡ has_room x →
    record { chip = x; told = record p.told { has_room = some } } ≡ after (Receive (byte ∷ [])) p
received byte p x some w h off room known e f =
    ap (λ (b : Bool). record { chip = x; told = record p.told { has_room = b } }) f ∙
    (ap (λ (y : ChipState). record { chip = y; told = record p.told { has_room = has_room y } }) e ∙
    receive_after byte p w h off room known)

pub did_read : {size : FifoSize} (p : PortState) (x : ChipState) → IsLive size (expire (after_read offsets.DATA p.chip)) → IsPort p →
    ReadsPolled p →
    x ≡ expire (after_read offsets.DATA p.chip) → record { chip = x; told = p.told } ≡ after (Read offsets.DATA) p
did_read p x w h parts e =
    ap (λ (y : ChipState). record { chip = y; told = p.told }) e ∙ read_after p w h parts.off parts.room
