-- A byte that comes while no character waits, and a read that takes the last one: what becomes of the line.
use Rattle.std.proofs.Common.{◌≡◌, ℕ, Bool, true, false, not, ◌&&◌, ◌||◌, ◌==◌, ◌⊎◌, inl, inr, nat_lt, nat_le, List, [], ◌∷◌, length}
use Rattle.std.proofs.Common.{Option, Some, None, bit_and, bit_or, refl, ap, sym, ◌∙◌, subst, arith, if◌then◌else◌}
use Rattle.std.proofs.lemmas.Grind.{common_steps}
use Rattle.std.specs.List.{list_any}
use Rattle.uart_spec.specs.Bits.{has_any, flag}
use Rattle.uart_spec.specs.declared.registers.fifo_trigger_level.FifoTriggerLevel.{FifoTriggerLevel}
use Rattle.uart_spec.specs.declared.registers.interrupt_enable.TheConstants.IER
use Rattle.uart_spec.specs.declared.registers.line_status.TheConstants.LSR
use Rattle.uart_spec.specs.declared.registers.offsets.TheConstants as offsets
use Rattle.uart_spec.specs.declared.setup.FifoSize.{FifoSize}
use Rattle.uart_chip.specs.declared.receiver.Character.{Character}
use Rattle.uart_chip.specs.declared.receiver.Origin.TheVariants.{Live}
use Rattle.uart_chip.specs.Chip.{ChipState, after_read, arrive_live, cut_of, is_dlab_set, is_loopback, line_status}
use Rattle.uart_chip.specs.Chip.{is_transmitter_empty}
use Rattle.uart_chip.proofs.Sizes.{some_characters}
use Rattle.uart_chip.specs.Receiver as receiver
use Rattle.uart_chip.specs.Receiver.{ReceiverState, characters_of, has_errors, take_front, unreported}
use Rattle.uart_live.proofs.Sends.{each, unset}
use Rattle.uart_live.specs.Held.{expire}
use Rattle.uart_live.specs.Live.{IsLive}
use Rattle.uart_virtual.specs.declared.port.Answer.{Answer}
use Rattle.uart_virtual.specs.declared.told.Kind.{Kind}
use Rattle.uart_virtual.specs.declared.told.Told.{Told}
use Rattle.uart_virtual.specs.Port.{PortState, PortCall, Read, Receive, IsPort, IsStill, after, todo, kind_of, settle, is_up}
use Rattle.uart_virtual.specs.Port.{has_room, is_empty, tell, todo_of, receives_first, reads_last}
use Rattle.uart_virtual.proofs.Polls.{accepts_one, happens_one, read_settled, still_all}
use Rattle.uart_virtual.proofs.Sends.{empty_has_room, told_alike, todo_alike}
use Rattle.uart_virtual.proofs.Stays.{causes, empty, errors, lines, ready, timeout, unseen}
use Rattle.uart_virtual.proofs.Waits.{waiting_interrupts}

nothing : (queue : List Character) → (length queue == 0) ≡ true → queue ≡ []
nothing [] e = refl
nothing (x ∷ xs) e = let no : false ≡ true = grind (arith, common_steps) in absurd (cc)

-- ---- the receiver without a character, and with one that has no errors

abbrev without : ChipState → ChipState
without c = record c { receiver = record c.receiver { queue = [] } }

abbrev with_first : ℕ → ReceiverState → ReceiverState
with_first byte r =
    record r {
      queue = record { byte = byte; errors = 0; origin = Live } ∷ [];
      is_front_reported = false;
      timeout_ticks = 0;
      is_unscheduled_lost = false;
    }

abbrev with_one : ℕ → ChipState → ChipState
with_one byte c = record c { receiver = with_first byte c.receiver }

is_without : (c : ChipState) → c.receiver.queue ≡ [] → c ≡ without c
is_without c none = ap (λ (queue : List Character). record c { receiver = record c.receiver { queue = queue } }) none

enters : (fifo : Bool) (byte : ℕ) (r : ReceiverState) →
    receiver.arrive_live false fifo byte 0 (record r { queue = [] }) ≡ with_first byte r
enters fifo byte r = rw (empty_has_room fifo r.size) refl

-- what a byte leaves that comes while none waits
pub arrives : (byte : ℕ) (c : ChipState) → is_loopback c.latches ≡ false → c.receiver.queue ≡ [] →
    arrive_live byte 0 c ≡ with_one (cut_of c byte) c
arrives byte c outside none =
    ap (λ (b : Bool). record c { receiver = receiver.arrive_live b c.fifo (cut_of c byte) 0 c.receiver }) outside ∙
    (ap (λ (queue : List Character). record c {
      receiver = receiver.arrive_live false c.fifo (cut_of c byte) 0 (record c.receiver { queue = queue });
    }) none ∙
    ap (λ (r : ReceiverState). record c { receiver = r }) (enters c.fifo (cut_of c byte) c.receiver))

-- ---- it takes the line up, or leaves it as it is

-- of the errors that LSR shows only an overrun is left
overrun_alone : (o f g : Bool) →
    bit_or (bit_or (bit_and (bit_or (flag false LSR.DATA_READY.0) (flag o LSR.OVERRUN_ERROR.0)) LSR.LINE_ERRORS.0)
    (bit_or (bit_and 0 LSR.LINE_ERRORS.0) 0)) (bit_or 0 (bit_and (flag f LSR.FIFO_DATA_ERROR.0) LSR.LINE_ERRORS.0)) ≡
    bit_or (bit_or (bit_and (bit_or (flag true LSR.DATA_READY.0) (flag o LSR.OVERRUN_ERROR.0)) LSR.LINE_ERRORS.0)
    (bit_or (bit_and 0 LSR.LINE_ERRORS.0) 0)) (bit_or 0 (bit_and (flag g LSR.FIFO_DATA_ERROR.0) LSR.LINE_ERRORS.0))
overrun_alone true true true = refl
overrun_alone true true false = refl
overrun_alone true false true = refl
overrun_alone true false false = refl
overrun_alone false true true = refl
overrun_alone false true false = refl
overrun_alone false false true = refl
overrun_alone false false false = refl

same_errors : (byte : ℕ) (c : ChipState) →
    has_any (line_status (without c)) LSR.LINE_ERRORS.0 ≡ has_any (line_status (with_one byte c)) LSR.LINE_ERRORS.0
same_errors byte c =
    let o : Bool = c.receiver.is_overrun in
    let q : Bool = length c.transmitter.queue == 0 in
    let t : Bool = is_transmitter_empty c.transmitter.queue c.transmitter.shift_register in
    let new : Character = record { byte = byte; errors = 0; origin = Live } in
    let f : Bool = c.fifo && list_any has_errors (unreported [] c.receiver.is_front_reported) in
    let g : Bool = c.fifo && list_any has_errors (unreported (new ∷ []) false) in
    let before : ℕ = bit_or (flag false LSR.DATA_READY.0) (flag o LSR.OVERRUN_ERROR.0) in
    let now : ℕ = bit_or (flag true LSR.DATA_READY.0) (flag o LSR.OVERRUN_ERROR.0) in
    ap (λ (v : ℕ). not (v == 0))
    (unseen before 0 (flag f LSR.FIFO_DATA_ERROR.0) q t ∙
    (overrun_alone o f g ∙ sym (unseen now 0 (flag g LSR.FIFO_DATA_ERROR.0) q t)))

none_pending : (fifo : Bool) (size : FifoSize) (trigger : FifoTriggerLevel) →
    (if fifo then nat_le (characters_of size trigger) 0 else nat_lt 0 0) ≡ false
none_pending true size trigger = let some = some_characters size trigger in grind (arith, common_steps)
none_pending false size trigger = refl

with_none : (b : Bool) → (b && false) ≡ false
with_none true = refl
with_none false = refl

lifts : (a b t e f b' t' : Bool) → b ≡ false → t ≡ false → (a || (b || (t || (e || f)))) ≡ true →
    (a || (b' || (t' || (e || f)))) ≡ true
lifts true b t e f b' t' p q h = refl
lifts false b t e f true t' p q h = refl
lifts false b t e f false true p q h = refl
lifts false true t e f false false p q h = absurd (cc)
lifts false false true e f false false p q h = absurd (cc)
lifts false false false e f false false p q h = h

up_with_one : (byte : ℕ) (c : ChipState) → is_up (without c) ≡ true → is_up (with_one byte c) ≡ true
up_with_one byte c up =
    let n : ChipState = without c in
    let s : ChipState = with_one byte c in
    let on : Bool = has_any c.latches.ier IER.DATA_READY.0 in
    let same : errors n ≡ errors s =
    ap (λ (b : Bool). has_any c.latches.ier IER.RECEIVER_LINE_STATUS.0 && b) (same_errors byte c) in
    let none : ready n ≡ false = ap (λ (b : Bool). on && b) (none_pending c.fifo c.receiver.size c.receiver.trigger) ∙ with_none on in
    let late : timeout n ≡ false = ap (λ (b : Bool). on && b) (with_none c.fifo) ∙ with_none on in
    causes s ∙
    (ap (λ (b : Bool). b || (ready s || (timeout s || (empty c || lines c)))) (sym same) ∙
    lifts (errors n) (ready n) (timeout n) (empty c) (lines c) (ready s) (timeout s) none late (sym (causes n) ∙ up))

pub up_first : (byte : ℕ) (c : ChipState) → is_loopback c.latches ≡ false → c.receiver.queue ≡ [] → is_up c ≡ true →
    is_up (arrive_live byte 0 c) ≡ true
up_first byte c outside none up =
    let before : is_up (without c) ≡ true = subst (λ (x : ChipState). is_up x ≡ true) (is_without c none) up in
    subst (λ (x : ChipState). is_up x ≡ true) (sym (arrives byte c outside none)) (up_with_one (cut_of c byte) c before)

-- and once a reception timeout is due the line is up, if the guest has the interrupt enabled
pub level_first : (byte : ℕ) (c : ChipState) → is_loopback c.latches ≡ false → c.receiver.queue ≡ [] →
    has_any c.latches.ier IER.DATA_READY.0 ≡ true → IsStill (expire (arrive_live byte 0 c)) →
    is_up (expire (arrive_live byte 0 c)) ≡ true
level_first byte c outside none on still =
    let d : ChipState = arrive_live byte 0 c in
    waiting_interrupts (expire d) still on
    (subst (λ (x : ChipState). nat_lt 0 (length x.receiver.queue) ≡ true) (sym (arrives byte c outside none)) refl)

-- ---- a port that receives such a byte

pub record First (p : PortState) : Type 0 where
  pub none : p.chip.receiver.queue ≡ []
  pub on : has_any p.chip.latches.ier IER.DATA_READY.0 ≡ true
  pub some : has_room p.chip ≡ true
  pub outside : is_loopback p.chip.latches ≡ false

not_looped : (loopback : Bool) (n : ℕ) → not ((if loopback then 0 else n) == 0) ≡ true → loopback ≡ false
not_looped false n e = refl
not_looped true n e = absurd (cc)

pub first_parts : (p : PortState) → receives_first p ≡ true → First p
first_parts p e =
    let a = each (is_empty p.chip) _ e in
    let b = each p.told.has_room _ a.1 in
    let d = each (has_any p.chip.latches.ier IER.DATA_READY.0) _ b.1 in
    record {
      none = nothing p.chip.receiver.queue (short p.chip.receiver.queue a.0);
      on = d.0;
      some = d.1;
      outside = not_looped (is_loopback p.chip.latches) _ d.1;
    }
  where
    short : (queue : List Character) → (length (receiver.waiting (record p.chip.receiver { queue = queue })) == 0) ≡ true →
        (length queue == 0) ≡ true
    short [] h = refl
    short (x ∷ xs) h = let no : false ≡ true = grind (arith, common_steps) in absurd (cc)

-- what a call of the host that brings something is
abbrev pub bringing : Kind
bringing = record { brings = true; looks = false; moves_data = false; may_make_room = false }

kind_first : (byte : ℕ) (c : ChipState) → has_room c ≡ true → kind_of (Receive (byte ∷ [])) c ≡ bringing
kind_first byte c some = ap (λ (n : ℕ). record bringing { brings = nat_lt 0 n }) (accepts_one byte c some)

-- whether the line was up all the time makes no difference, or it was
alike_first : (byte : ℕ) (p : PortState) → IsPort p → First p → (p.told.line ≡ false) ⊎ (true ≡ is_up (arrive_live byte 0 p.chip))
alike_first byte p h f = go p.told.line refl
  where
    go : (line : Bool) → p.told.line ≡ line → (p.told.line ≡ false) ⊎ (true ≡ is_up (arrive_live byte 0 p.chip))
    go false e = inl e
    go true e = inr (sym (up_first byte p.chip f.outside f.none (sym h.told.line ∙ e)))

pub received_first : {size : FifoSize} (byte : ℕ) (p : PortState) (x : ChipState) (t : Told) →
    IsLive size (expire (arrive_live byte 0 p.chip)) → IsPort p → First p → x ≡ expire (arrive_live byte 0 p.chip) →
    t ≡ tell bringing true x p.told →
    record { chip = x; told = t } ≡ after (Receive (byte ∷ [])) p
received_first byte p x t w h f e told =
    let c : ChipState = p.chip in
    let call : PortCall = Receive (byte ∷ []) in
    let d : ChipState = arrive_live byte 0 c in
    let settled : settle d ≡ expire d = still_all (byte ∷ []) c w h.still in
    ap (λ (u : Told). record { chip = x; told = u }) told ∙
    (ap (λ (y : ChipState). record { chip = y; told = tell bringing true y p.told }) (e ∙ sym settled) ∙
    (ap (λ (u : Told). record { chip = settle d; told = u })
    (told_alike bringing true (is_up d) (settle d) p.told (alike_first byte p h f)) ∙
    (ap (λ (kind : Kind). record { chip = settle d; told = tell kind (is_up d) (settle d) p.told }) (sym (kind_first byte c f.some)) ∙
    ap (λ (y : ChipState). record { chip = settle y; told = tell (kind_of call c) (is_up y) (settle y) p.told })
    (sym (happens_one byte c f.some)))))

pub todo_first : {size : FifoSize} (byte : ℕ) (p : PortState) (x : ChipState) →
    IsLive size (expire (arrive_live byte 0 p.chip)) → IsPort p → First p → x ≡ expire (arrive_live byte 0 p.chip) →
    todo_of bringing true x p.told ≡ todo (Receive (byte ∷ [])) p
todo_first byte p x w h f e =
    let c : ChipState = p.chip in
    let call : PortCall = Receive (byte ∷ []) in
    let d : ChipState = arrive_live byte 0 c in
    let settled : settle d ≡ expire d = still_all (byte ∷ []) c w h.still in
    ap (λ (y : ChipState). todo_of bringing true y p.told) (e ∙ sym settled) ∙
    (todo_alike bringing true (is_up d) (settle d) p.told (alike_first byte p h f) ∙
    (ap (λ (kind : Kind). todo_of kind (is_up d) (settle d) p.told) (sym (kind_first byte c f.some)) ∙
    ap (λ (y : ChipState). todo_of (kind_of call c) (is_up y) (settle y) p.told) (sym (happens_one byte c f.some))))

-- ---- a read that takes the last character

-- then no reception timeout is to come
pub level_last : (p : PortState) → reads_last p ≡ true →
    is_up (after_read offsets.DATA p.chip) ≡ is_up (expire (after_read offsets.DATA p.chip))
level_last p e =
    let c : ChipState = p.chip in
    let a = each (length (receiver.waiting c.receiver) == 1) _ e in
    let latched : is_dlab_set c.latches ≡ false = unset (is_dlab_set c.latches) a.1 in
    rw latched (last c.receiver.queue refl a.0)
  where
    last : (queue : List Character) → p.chip.receiver.queue ≡ queue → (length (receiver.waiting p.chip.receiver) == 1) ≡ true →
        is_up (record p.chip { receiver = take_front p.chip.receiver.queue p.chip.receiver }) ≡
        is_up (expire (record p.chip { receiver = take_front p.chip.receiver.queue p.chip.receiver }))
    last [] q h = let no : false ≡ true = rw q at h in absurd (cc)
    last (x ∷ []) q h = rw q refl
    last (x ∷ y ∷ xs) q h =
        let two : (length (receiver.waiting (record p.chip.receiver { queue = x ∷ y ∷ xs })) == 1) ≡ true = rw q at h in
        let no : false ≡ true = grind (arith, common_steps) in absurd (cc)

pub did_read_last : {size : FifoSize} (p : PortState) (x : ChipState) (t : Told) (level : Bool) →
    IsLive size (expire (after_read offsets.DATA p.chip)) → IsPort p → x ≡ expire (after_read offsets.DATA p.chip) →
    level ≡ is_up (after_read offsets.DATA p.chip) →
    t ≡ tell (kind_of (Read offsets.DATA) p.chip) level x p.told → record { chip = x; told = t } ≡ after (Read offsets.DATA) p
did_read_last p x t level w h e up told =
    let kind : Kind = kind_of (Read offsets.DATA) p.chip in
    let d : ChipState = after_read offsets.DATA p.chip in
    ap (λ (u : Told). record { chip = x; told = u }) told ∙
    (ap (λ (b : Bool). record { chip = x; told = tell kind b x p.told }) up ∙
    ap (λ (y : ChipState). record { chip = y; told = tell kind (is_up d) y p.told }) (e ∙ sym (read_settled p.chip w h.still)))

pub last_todo : {size : FifoSize} (p : PortState) (x : ChipState) (level : Bool) →
    IsLive size (expire (after_read offsets.DATA p.chip)) → IsPort p → x ≡ expire (after_read offsets.DATA p.chip) →
    level ≡ is_up (after_read offsets.DATA p.chip) →
    todo_of (kind_of (Read offsets.DATA) p.chip) level x p.told ≡ todo (Read offsets.DATA) p
last_todo p x level w h e up =
    let kind : Kind = kind_of (Read offsets.DATA) p.chip in
    let d : ChipState = after_read offsets.DATA p.chip in
    ap (λ (b : Bool). todo_of kind b x p.told) up ∙
    ap (λ (y : ChipState). todo_of kind (is_up d) y p.told) (e ∙ sym (read_settled p.chip w h.still))

abbrev within : Answer → Option Answer → Answer
within other None = other
within other (Some it) = it

pub same_answer : (x y : Answer) → Some x ≡ Some y → x ≡ y
same_answer x y e = ap (λ (it : Option Answer). within x it) e
