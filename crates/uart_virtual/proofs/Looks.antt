-- A read of ISR while the line is down: it shows no interrupt, acknowledges none, and is a look. Nothing else is new.
use Rattle.std.proofs.Common.{◌≡◌, ℕ, Bool, true, false, not, ◌&&◌, ◌||◌, ◌==◌, Option, Some, None, is_some, bit_or}
use Rattle.std.proofs.Common.{refl, ap, sym, ◌∙◌, if◌then◌else◌}
use Rattle.uart_spec.specs.Bits.{flag}
use Rattle.uart_spec.specs.declared.registers.interrupt_status.TheConstants.ISR
use Rattle.uart_spec.specs.declared.registers.interrupt_type.InterruptType.{InterruptType}
use Rattle.uart_spec.specs.declared.registers.offsets.TheConstants as offsets
use Rattle.uart_spec.specs.declared.setup.FifoSize.{FifoSize}
use Rattle.uart_chip.specs.Chip.{ChipState, answer, after_read, fifo_flags, identification, interrupt, is_64, is_thr_empty}
use Rattle.uart_chip.specs.Chip.{with_thr_pending}
use Rattle.uart_live.specs.Live.{IsLive}
use Rattle.uart_virtual.specs.declared.told.Kind.{Kind}
use Rattle.uart_virtual.specs.declared.told.Todo.{Todo}
use Rattle.uart_virtual.specs.declared.told.Told.{Told}
use Rattle.uart_virtual.specs.Port.{Read, IsStill, IsTold, idle, is_up, kind_of, settle, settle_ticks, stays_up, tell, todo_of}
use Rattle.uart_virtual.proofs.Times.{still_ticks}

none : (i : Option InterruptType) → is_some i ≡ false → i ≡ None
none None e = refl
none (Some i) e = absurd (cc)

flags : (fifo switch large : Bool) → switch ≡ false →
    flag fifo ISR.FIFOS_ENABLED.0 ≡ bit_or (flag fifo ISR.FIFOS_ENABLED.0) (flag (fifo && (switch && large)) ISR.FIFO_64_ENABLED.0)
flags true false large e = refl
flags false false large e = refl
flags fifo true large e = absurd (cc)

-- what it shows
pub idle_answer : {size : FifoSize} (c : ChipState) → IsLive size c → is_up c ≡ false →
    bit_or ISR.INTERRUPT_STATUS.0 (flag c.fifo ISR.FIFOS_ENABLED.0) ≡ answer offsets.ISR c
idle_answer c w down =
    ap (λ (n : ℕ). bit_or ISR.INTERRUPT_STATUS.0 n) (flags c.fifo c.has_size_switch (is_64 c.receiver.size) w.switch) ∙
    ap (λ (i : Option InterruptType). bit_or (identification i) (fifo_flags c)) (sym (none (interrupt c) down))

-- what it leaves
idle_read : (c : ChipState) → is_up c ≡ false → after_read offsets.ISR c ≡ c
idle_read c down = ap (λ (i : Option InterruptType). if is_thr_empty i then with_thr_pending false c else c) (none (interrupt c) down)

pub idle_after : {size : FifoSize} (c : ChipState) → IsLive size c → IsStill c → is_up c ≡ false →
    c ≡ settle (after_read offsets.ISR c)
idle_after c w s down =
    sym (still_ticks (settle_ticks c.transmitter.size) c w.whole.sound.chip s) ∙
    ap (λ (x : ChipState). settle x) (sym (idle_read c down))

-- the kind of the read
abbrev looking : Kind
looking = record { brings = false; looks = true; moves_data = false; may_make_room = false }

looked : (c : ChipState) (told : Told) (was_up : Bool) → IsTold (record { chip = c; told = told }) →
    record told { has_looked = true; spare = 0 } ≡ tell looking was_up c told
looked c told was_up h =
    ap (λ (line : Bool). record told { line = line; has_looked = true; spare = 0 }) h.line ∙
    ap (λ (some : Bool). record told { line = is_up c; has_room = some; has_looked = true; spare = 0 }) h.room

pub idle_told : {size : FifoSize} (c : ChipState) (told : Told) → IsLive size c → IsStill c → is_up c ≡ false →
    IsTold (record { chip = c; told = told }) →
    record told { has_looked = true; spare = 0 } ≡
    tell (kind_of (Read offsets.ISR) c) (stays_up (Read offsets.ISR) (after_read offsets.ISR c)) (settle (after_read offsets.ISR c)) told
idle_told c told w s down h =
    let d : ChipState = after_read offsets.ISR c in
    looked c told (is_up d) h ∙ ap (λ (x : ChipState). tell looking (is_up d) x told) (idle_after c w s down)

pub idle_todo : {size : FifoSize} (c : ChipState) (told : Told) (todo : Todo) → IsLive size c → IsStill c → is_up c ≡ false →
    todo ≡ todo_of idle (is_up c) c told →
    todo ≡
    todo_of (kind_of (Read offsets.ISR) c) (stays_up (Read offsets.ISR) (after_read offsets.ISR c)) (settle (after_read offsets.ISR c)) told
idle_todo c told todo w s down is =
    let d : ChipState = after_read offsets.ISR c in
    is ∙
    (ap (λ (x : ChipState). todo_of looking (is_up x) c told) (sym (idle_read c down)) ∙
    ap (λ (x : ChipState). todo_of looking (is_up d) x told) (idle_after c w s down))
