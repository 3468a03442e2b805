-- What is left while a port is still.
use Rattle.std.proofs.Common.{◌≡◌, ◌≢◌, ℕ, ◌<◌, ◌≤◌, Bool, true, false, ◌&&◌, ◌==◌, nat_lt}
use Rattle.std.proofs.Common.{List, [], ◌∷◌, ◌++◌, length, Option, Some, None, is_some}
use Rattle.std.proofs.Common.{refl, sym, ◌∙◌, arith, eq-eqb}
use Rattle.std.proofs.lemmas.Bool.{and_from}
use Rattle.std.proofs.lemmas.Grind.{common_steps}
use Rattle.std.proofs.lemmas.List.{length-append}
use Rattle.uart_spec.specs.Bits.{has_any}
use Rattle.uart_spec.specs.declared.registers.interrupt_enable.TheConstants.IER
use Rattle.uart_spec.specs.declared.registers.interrupt_type.InterruptType.{InterruptType}
use Rattle.uart_spec.specs.declared.registers.line_status.TheConstants.LSR
use Rattle.uart_spec.specs.declared.registers.offsets.TheConstants as offsets
use Rattle.uart_spec.specs.declared.setup.FifoSize.{FifoSize}
use Rattle.uart_chip.specs.declared.transmitter.Shifting.{Shifting}
use Rattle.uart_chip.specs.Transmitter.{TransmitterState, room, shift_bytes, held}
use Rattle.uart_chip.specs.Receiver.{is_data_pending}
use Rattle.uart_chip.specs.Chip.{ChipState, line_status, interrupt, is_transmitter_empty}
use Rattle.uart_chip.specs.Jumps.{next_move_of}
use Rattle.uart_chip.proofs.Sizes.{some_room}
use Rattle.uart_chip.proofs.statuses.Status.{status_room, status_empty}
use Rattle.uart_chip.proofs.AccessMoves.{both_if}
use Rattle.uart_live.proofs.Holds.{due_interrupts}
use Rattle.uart_virtual.specs.Laws.{HeldOnlyIfFull, WaitingInterrupts, EmptyThrTakesAByte, ASlowHostShows}

pub held_full : HeldOnlyIfFull
held_full c still some outside =
    go c.transmitter.shift_register c.transmitter.queue (nat_lt (length c.transmitter.wire) c.transmitter.capacity)
    (rw outside at still.unmoved) some
  where
    go : (place : Option Shifting) (queue : List ℕ) (free : Bool) → next_move_of free true place queue ≡ None →
        (shift_bytes place ++ queue ≢ []) → free ≡ false
    go None [] free e some = absurd (some refl)
    go None (x ∷ xs) free e some = absurd (cc)
    go (Some s) queue true e some = absurd (cc)
    go (Some s) queue false e some = refl

pub waiting_interrupts : WaitingInterrupts
waiting_interrupts c still enabled some = go c.fifo refl
  where
    go : (fifo : Bool) → c.fifo ≡ fifo → is_some (interrupt c) ≡ true
    go true f =
        due_interrupts c
        (and_from c.fifo _ f (and_from _ _ some (eq-eqb c.receiver.timeout_ticks c.receiver.timeout_limit still.due)))
        enabled
    go false f =
        let pending : is_data_pending c.fifo c.receiver ≡ true = rw f some in
        both_if (λ (x : Option InterruptType). is_some x ≡ true) _ _
        (has_any c.latches.ier IER.RECEIVER_LINE_STATUS.0 && has_any (line_status c) LSR.LINE_ERRORS.0) refl
        (rw (enabled, pending) refl)

room_for_one : (n : ℕ) (fifo : Bool) (size : FifoSize) → (n == 0) ≡ true → n < room fifo size
room_for_one n fifo size e = let some = some_room fifo size in grind (arith, common_steps)

pub empty_takes : EmptyThrTakesAByte
empty_takes value c e =
    (other, λ is_data. room_for_one (length c.transmitter.queue) c.fifo c.transmitter.size (sym (status_room c) ∙ e))
  where
    other : offsets.DATA ≢ offsets.FCR
    other = λ same. absurd (cc)

-- ---- a slow host

some_empty : (queue : List ℕ) (place : Option Shifting) → 1 ≤ length (shift_bytes place ++ queue) →
    is_transmitter_empty queue place ≡ false
some_empty [] None h = absurd (omega (arith, h))
some_empty [] (Some s) h = refl
some_empty (x ∷ xs) place h = refl

some_queued : (queue : List ℕ) (place : Option Shifting) → 2 ≤ length (shift_bytes place ++ queue) → (length queue == 0) ≡ false
some_queued [] None h = absurd (omega (arith, h))
some_queued [] (Some s) h = absurd (omega (arith, h))
some_queued (x ∷ xs) place h = grind (arith, common_steps)

pub slow_host_shows : ASlowHostShows
slow_host_shows p fits =
    let c : ChipState = p.chip in
    let t : TransmitterState = c.transmitter in
    let all = length-append t.wire (held t) in (
      λ more. status_empty c ∙ some_empty t.queue t.shift_register (omega (arith, more, all, fits)),
      λ more. status_room c ∙ some_queued t.queue t.shift_register (omega (arith, more, all, fits)),
    )
