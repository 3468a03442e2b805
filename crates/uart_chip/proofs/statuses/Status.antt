-- What each bit of the line status register says.
use Rattle.std.proofs.Common.{◌≡◌, ℕ, ◌^◌, Bool, true, false, ◌==◌, ◌&&◌, nat_lt, List, [], ◌∷◌, length, refl, arith, bit_or}
use Rattle.std.specs.List.{list_any}
use Rattle.std.specs.Int.{bit_at}
use Rattle.std.proofs.lemmas.Grind.{common_steps}
use Rattle.uart_chip.specs.declared.receiver.Character.{Character}
use Rattle.uart_spec.specs.Bits.{has_any, flag}
use Rattle.uart_spec.specs.declared.registers.line_status.TheConstants.LSR
use Rattle.uart_chip.specs.Receiver.{front_errors, unreported, has_errors}
use Rattle.uart_chip.specs.Chip.{ChipState, line_status, is_transmitter_empty}
use Rattle.uart_chip.proofs.Bits.{has_or, has_flag, has_none, has_not}

-- no other bit is an error of a character
front_errors-bit : (k : ℕ) → bit_at LSR.CHARACTER_ERRORS.0 k ≡ 0 → (queue : List Character) (reported : Bool) →
    has_any (front_errors queue reported) (2 ^ k) ≡ false
front_errors-bit k z [] reported = has_none k
front_errors-bit k z (front ∷ others) true = has_none k
front_errors-bit k z (front ∷ others) false = has_not k front.errors LSR.CHARACTER_ERRORS.0 z

-- flags put together as the line status is
module _ (a b d f g : Bool) (e : ℕ) where
  abbrev whole : ℕ
  whole =
      bit_or (bit_or (bit_or (flag a LSR.DATA_READY.0) (flag b LSR.OVERRUN_ERROR.0)) (bit_or e (flag d LSR.THR_EMPTY.0)))
      (bit_or (flag f LSR.TRANSMITTER_EMPTY.0) (flag g LSR.FIFO_DATA_ERROR.0))

  line_data : has_any e LSR.DATA_READY.0 ≡ false → has_any whole LSR.DATA_READY.0 ≡ a
  line_data z = simp (has_or 0, has_flag, z) (grind (arith, common_steps))

  line_overrun : has_any e LSR.OVERRUN_ERROR.0 ≡ false → has_any whole LSR.OVERRUN_ERROR.0 ≡ b
  line_overrun z = simp (has_or 1, has_flag, z) (grind (arith, common_steps))

  line_room : has_any e LSR.THR_EMPTY.0 ≡ false → has_any whole LSR.THR_EMPTY.0 ≡ d
  line_room z = simp (has_or 5, has_flag, z) (grind (arith, common_steps))

  line_empty : has_any e LSR.TRANSMITTER_EMPTY.0 ≡ false → has_any whole LSR.TRANSMITTER_EMPTY.0 ≡ f
  line_empty z = simp (has_or 6, has_flag, z) (grind (arith, common_steps))

  line_fifo : has_any e LSR.FIFO_DATA_ERROR.0 ≡ false → has_any whole LSR.FIFO_DATA_ERROR.0 ≡ g
  line_fifo z = simp (has_or 7, has_flag, z) (grind (arith, common_steps))

module _ (c : ChipState) where
  data_ready : Bool
  data_ready = nat_lt 0 (length c.receiver.queue)

  thr_empty : Bool
  thr_empty = length c.transmitter.queue == 0

  all_empty : Bool
  all_empty = is_transmitter_empty c.transmitter.queue c.transmitter.shift_register

  fifo_error : Bool
  fifo_error = c.fifo && list_any has_errors (unreported c.receiver.queue c.receiver.is_front_reported)

  -- a character waits
  pub status_data : has_any (line_status c) LSR.DATA_READY.0 ≡ nat_lt 0 (length c.receiver.queue)
  unfolding data_ready thr_empty all_empty fifo_error
  status_data =
      line_data data_ready c.receiver.is_overrun thr_empty all_empty fifo_error _
      (front_errors-bit 0 refl c.receiver.queue c.receiver.is_front_reported)

  -- the overrun flag is pending
  pub status_overrun : has_any (line_status c) LSR.OVERRUN_ERROR.0 ≡ c.receiver.is_overrun
  unfolding data_ready thr_empty all_empty fifo_error
  status_overrun =
      line_overrun data_ready c.receiver.is_overrun thr_empty all_empty fifo_error _
      (front_errors-bit 1 refl c.receiver.queue c.receiver.is_front_reported)

  -- the transmitter's queue is empty
  pub status_room : has_any (line_status c) LSR.THR_EMPTY.0 ≡ (length c.transmitter.queue == 0)
  unfolding data_ready thr_empty all_empty fifo_error
  status_room =
      line_room data_ready c.receiver.is_overrun thr_empty all_empty fifo_error _
      (front_errors-bit 5 refl c.receiver.queue c.receiver.is_front_reported)

  -- nothing is left to send
  pub status_empty : has_any (line_status c) LSR.TRANSMITTER_EMPTY.0 ≡ is_transmitter_empty c.transmitter.queue c.transmitter.shift_register
  unfolding data_ready thr_empty all_empty fifo_error
  status_empty =
      line_empty data_ready c.receiver.is_overrun thr_empty all_empty fifo_error _
      (front_errors-bit 6 refl c.receiver.queue c.receiver.is_front_reported)

  -- a character in the FIFO has errors that were not reported
  pub status_fifo : has_any (line_status c) LSR.FIFO_DATA_ERROR.0 ≡
      (c.fifo && list_any has_errors (unreported c.receiver.queue c.receiver.is_front_reported))
  unfolding data_ready thr_empty all_empty fifo_error
  status_fifo =
      line_fifo data_ready c.receiver.is_overrun thr_empty all_empty fifo_error _
      (front_errors-bit 7 refl c.receiver.queue c.receiver.is_front_reported)
