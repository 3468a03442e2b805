-- The chip: its registers, what an access does, and what happens between accesses.
use Rattle.std.specs.Prelude.{ℕ, ◌+◌, ◌-◌, ◌*◌, ◌%◌, ◌^◌, zero, suc, Bool, true, false, not, ◌&&◌, List, [], ◌∷◌}
use Rattle.std.specs.Prelude.{length, Option, Some, None, nat_lt, if◌then◌else◌, ◌==◌, bit_and, bit_or}
use Rattle.std.specs.List.{list_any}
use Rattle.uart_chip.specs.declared.transmitter.Shifting.{Shifting}
use Rattle.uart_events.specs.declared.event.Chip.{Chip}
use Rattle.uart_events.specs.declared.event.Chip.TheVariants.{Uart16550A, Uart16450}
use Rattle.uart_spec.specs.Bits.{has_any, field, flag}
use Rattle.uart_spec.specs.Fields.{trigger_code}
use Rattle.uart_spec.specs.Fields.{interrupt_code}
use Rattle.uart_spec.specs.declared.registers.fifo_trigger_level.FifoTriggerLevel.{FifoTriggerLevel}
use Rattle.uart_spec.specs.declared.registers.fifo_trigger_level.FifoTriggerLevel.TheVariants.{One, Four, Eight}
use Rattle.uart_spec.specs.declared.registers.fifo_trigger_level.FifoTriggerLevel.TheVariants.{Fourteen}
use Rattle.uart_spec.specs.declared.registers.interrupt_type.InterruptType.{InterruptType}
use Rattle.uart_spec.specs.declared.registers.interrupt_type.InterruptType.TheVariants.{ReceiverLineStatus}
use Rattle.uart_spec.specs.declared.registers.interrupt_type.InterruptType.TheVariants.{ReceivedDataReady}
use Rattle.uart_spec.specs.declared.registers.interrupt_type.InterruptType.TheVariants.{ReceptionTimeout}
use Rattle.uart_spec.specs.declared.registers.interrupt_type.InterruptType.TheVariants.{TransmitterHoldingRegisterEmpty}
use Rattle.uart_spec.specs.declared.registers.interrupt_type.InterruptType.TheVariants.{ModemStatus}
use Rattle.uart_spec.specs.declared.registers.interrupt_enable.TheConstants.IER
use Rattle.uart_spec.specs.declared.registers.interrupt_status.TheConstants.ISR
use Rattle.uart_spec.specs.declared.registers.fifo_control.TheConstants.FCR
use Rattle.uart_spec.specs.declared.registers.line_control.TheConstants.LCR
use Rattle.uart_spec.specs.declared.registers.modem_control.TheConstants.MCR
use Rattle.uart_spec.specs.declared.registers.line_status.TheConstants.LSR
use Rattle.uart_spec.specs.declared.registers.modem_status.TheConstants.MSR
use Rattle.uart_spec.specs.declared.registers.offsets.TheConstants as offsets
use Rattle.uart_spec.specs.declared.setup.FifoSize.{FifoSize}
use Rattle.uart_spec.specs.declared.setup.FifoSize.TheVariants.{Sixteen, SixtyFour}
use Rattle.uart_chip.specs.Masks.{ier_bits, kept_mcr}
use Rattle.uart_chip.specs.Transmitter as transmitter
use Rattle.uart_chip.specs.Transmitter.{TransmitterState, looped_byte, load}
use Rattle.uart_chip.specs.Receiver as receiver
use Rattle.uart_chip.specs.Receiver.{ReceiverState, take_front, front_errors, unreported, has_errors, report, clear}
use Rattle.uart_chip.specs.Receiver.{is_data_pending, is_timed_out}
use Rattle.uart_chip.specs.Modem as modem
use Rattle.uart_chip.specs.Modem.{ModemState, renew}

-- An effect is a function on a record, with the name of the method that performs it. The method's contract is 'exactly
-- this next state'.

-- the registers that keep what is written to them, as bytes
pub record LatchesState : Type 0 where
  pub ier : ℕ
  pub lcr : ℕ
  pub mcr : ℕ
  pub scr : ℕ
  pub dll : ℕ
  pub dlm : ℕ

-- the model, which says whether there is a FIFO at all, the latches, whether the FIFO is on, transmitter, receiver,
-- modem lines, whether characters are cut to the word length, whether the chip has automatic flow control, and whether
-- it has the switch of a 16750 between FIFOs of 16 characters and of 64
pub record ChipState : Type 0 where
  pub model : Chip
  pub latches : LatchesState
  pub fifo : Bool
  pub transmitter : TransmitterState
  pub receiver : ReceiverState
  pub modem : ModemState
  pub cuts : Bool
  pub auto_flow : Bool
  pub has_size_switch : Bool

-- a chip after power-on, whose FIFOs hold 16 characters, for a schedule with this number of arrivals
abbrev pub fresh : Chip → ℕ → ℕ → ℕ → ChipState
fresh model char_ticks capacity arrivals =
    record {
      model = model;
      latches = record { ier = 0; lcr = 0; mcr = 0; scr = 0; dll = 0; dlm = 0 };
      fifo = false;
      transmitter = transmitter.fresh Sixteen char_ticks capacity;
      receiver = receiver.fresh Sixteen char_ticks arrivals;
      modem = modem.fresh;
      cuts = false;
      auto_flow = false;
      has_size_switch = false;
    }

-- the same chip, with FIFOs of this size; a 16450 has none, and nothing that it does depends on their size
abbrev pub with_size : FifoSize → ChipState → ChipState
with_size size c =
    record c { transmitter = record c.transmitter { size = size }; receiver = record c.receiver { size = size } }

-- the same chip, with what a 16750 has beyond a 16550A: automatic flow control, and the switch of its size
abbrev pub as_16750 : ChipState → ChipState
as_16750 c = record c { auto_flow = true; has_size_switch = true }

-- whether offsets 0 and 1 are the divisor latch
abbrev pub is_dlab_set : LatchesState → Bool
is_dlab_set l = has_any l.lcr LCR.DLAB.0

-- whether what leaves the transmitter comes back to the receiver
abbrev pub is_loopback : LatchesState → Bool
is_loopback l = has_any l.mcr MCR.LOOP_BACK.0

-- whether automatic flow control is on: the chip has it, and its bit of MCR is set
abbrev pub is_auto_flow : ChipState → Bool
is_auto_flow c = c.auto_flow && has_any c.latches.mcr MCR.AUTO_FLOW.0

-- whether the transmitter takes no next character: automatic flow control is on, and CTS is off as MSR shows it, which
-- in loopback is RTS of MCR
abbrev pub is_held_off : ChipState → Bool
is_held_off c = is_auto_flow c && not (has_any c.modem.lines MSR.CTS.0)

-- A real 16750 sets RTS again only once its FIFO is empty. So it holds the other end off longer than this chip
-- does, and never shorter: what is proved of loss here holds there too.

-- the RTS output: RTS of MCR, but with automatic flow control and the FIFO on it is off while as many characters wait
-- as the trigger level
abbrev pub rts_output : ChipState → Bool
rts_output c =
    has_any c.latches.mcr MCR.RTS.0 && not (is_auto_flow c && (c.fifo && is_data_pending c.fifo c.receiver))

-- what the divisor latch holds
abbrev pub divisor : LatchesState → ℕ
divisor l = 256 * l.dlm + l.dll

-- the data bits of a character, 5 to 8, by the two lowest bits of LCR
abbrev pub word_length : (lcr : ℕ) → ℕ
word_length lcr = 5 + bit_and lcr LCR.WORD_LENGTH.0

-- a byte cut to this many data bits: with w bits it is the byte modulo 2^w; without the option it is the byte itself
abbrev pub cut_to : (cuts : Bool) → (length byte : ℕ) → ℕ
cut_to false length byte = byte
cut_to true length byte = byte % 2 ^ length

-- a byte as the chip sends and receives it now: cut to its word length, if the chip has the option
abbrev pub cut_of : ChipState → ℕ → ℕ
cut_of c byte = cut_to c.cuts (word_length c.latches.lcr) byte

-- ---- between accesses

-- one tick
abbrev pub tick : ChipState → ChipState
tick c =
    record c {
      transmitter = transmitter.tick (is_loopback c.latches) (is_held_off c) c.transmitter;
      receiver = receiver.tick c.fifo (looped_byte (is_loopback c.latches) c.transmitter.shift_register) c.receiver;
    }

-- the chip after so many ticks
abbrev pub ticks : ℕ → ChipState → ChipState
ticks zero c = c
ticks (suc n) c = tick (ticks n c)

-- a character arrives, cut to the word length
abbrev pub arrive : ℕ → ℕ → ChipState → ChipState
arrive byte errors c =
    record c { receiver = receiver.arrive (is_loopback c.latches) c.fifo (cut_of c byte) errors c.receiver }

-- a character arrives without a schedule, cut to the word length
abbrev pub arrive_live : ℕ → ℕ → ChipState → ChipState
arrive_live byte errors c =
    record c { receiver = receiver.arrive_live (is_loopback c.latches) c.fifo (cut_of c byte) errors c.receiver }

-- how many characters can arrive before one is lost; in loopback each one is lost
abbrev pub receive_room : ChipState → ℕ
receive_room c =
    if is_loopback c.latches then 0 else transmitter.room c.fifo c.receiver.size - length c.receiver.queue

-- a number of bytes are taken from the front of the wire
abbrev pub take_wire : ℕ → ChipState → ChipState
take_wire count c = record c { transmitter = transmitter.take_wire count c.transmitter }

-- the modem's inputs change
abbrev pub change_lines : ℕ → ChipState → ChipState
change_lines inputs c = record c { modem = renew c.latches.mcr (record c.modem { inputs = inputs }) }

-- ---- what a register shows

-- nothing is left to send
abbrev pub is_transmitter_empty : List ℕ → Option Shifting → Bool
is_transmitter_empty [] None = true
is_transmitter_empty [] (Some s) = false
is_transmitter_empty (x ∷ xs) place = false

-- the line status register
abbrev pub line_status : ChipState → ℕ
line_status c =
    let data_ready = flag (nat_lt 0 (length c.receiver.queue)) LSR.DATA_READY.0 in
    let overrun = flag c.receiver.is_overrun LSR.OVERRUN_ERROR.0 in
    let errors = front_errors c.receiver.queue c.receiver.is_front_reported in
    let thr_empty = flag (length c.transmitter.queue == 0) LSR.THR_EMPTY.0 in
    let is_empty = is_transmitter_empty c.transmitter.queue c.transmitter.shift_register in
    let transmitter_empty = flag is_empty LSR.TRANSMITTER_EMPTY.0 in
    let has_error = list_any has_errors (unreported c.receiver.queue c.receiver.is_front_reported) in
    let fifo_error = flag (c.fifo && has_error) LSR.FIFO_DATA_ERROR.0 in
    bit_or (bit_or (bit_or data_ready overrun) (bit_or errors thr_empty)) (bit_or transmitter_empty fifo_error)

-- the interrupt of the highest priority among those that are enabled and pending
abbrev pub interrupt : ChipState → Option InterruptType
interrupt c =
    if has_any c.latches.ier IER.RECEIVER_LINE_STATUS.0 && has_any (line_status c) LSR.LINE_ERRORS.0
    then Some ReceiverLineStatus
    else if has_any c.latches.ier IER.DATA_READY.0 && is_data_pending c.fifo c.receiver then Some ReceivedDataReady
    else if has_any c.latches.ier IER.DATA_READY.0 && is_timed_out c.fifo c.receiver then Some ReceptionTimeout
    else if has_any c.latches.ier IER.THR_EMPTY.0 && c.transmitter.is_thr_pending
    then Some TransmitterHoldingRegisterEmpty
    else if has_any c.latches.ier IER.MODEM_STATUS.0 && not (c.modem.deltas == 0) then Some ModemStatus
    else None

-- ISR for an interrupt: its code in bits 1 to 3, or bit 0 if none is pending
abbrev pub identification : Option InterruptType → ℕ
identification None = ISR.INTERRUPT_STATUS.0
identification (Some interrupt) = 2 * interrupt_code interrupt

-- the interrupt that a read of ISR acknowledges
abbrev pub is_thr_empty : Option InterruptType → Bool
is_thr_empty (Some TransmitterHoldingRegisterEmpty) = true
is_thr_empty _ = false

-- whether a THR-empty interrupt is pending
abbrev pub with_thr_pending : Bool → ChipState → ChipState
with_thr_pending pending c = record c { transmitter = record c.transmitter { is_thr_pending = pending } }

-- a FIFO of this size holds 64 characters
abbrev pub is_64 : FifoSize → Bool
is_64 SixtyFour = true
is_64 _ = false

-- what ISR shows of the FIFOs: that they are on, and, on a chip that has the switch of a 16750, that they hold 64
abbrev pub fifo_flags : ChipState → ℕ
fifo_flags c =
    let holds_64 = c.has_size_switch && is_64 c.receiver.size in
    bit_or (flag c.fifo ISR.FIFOS_ENABLED.0) (flag (c.fifo && holds_64) ISR.FIFO_64_ENABLED.0)

-- ---- a read

-- what a read of the register returns
abbrev pub answer : ℕ → ChipState → ℕ
answer offset c =
    if offset == offsets.DATA
    then (if is_dlab_set c.latches then c.latches.dll else (take_front c.receiver.queue c.receiver).last_byte)
    else if offset == offsets.IER then (if is_dlab_set c.latches then c.latches.dlm else c.latches.ier)
    else if offset == offsets.ISR then bit_or (identification (interrupt c)) (fifo_flags c)
    else if offset == offsets.LCR then c.latches.lcr
    else if offset == offsets.MCR then c.latches.mcr
    else if offset == offsets.LSR then line_status c
    else if offset == offsets.MSR then bit_or c.modem.lines c.modem.deltas
    else c.latches.scr

-- the chip after a read of the register
abbrev pub after_read : ℕ → ChipState → ChipState
after_read offset c =
    if offset == offsets.DATA
    then (if is_dlab_set c.latches then c else record c { receiver = take_front c.receiver.queue c.receiver })
    else if offset == offsets.ISR then (if is_thr_empty (interrupt c) then with_thr_pending false c else c)
    else if offset == offsets.LSR then record c { receiver = report c.receiver }
    else if offset == offsets.MSR then record c { modem = record c.modem { deltas = 0 } }
    else c

-- ---- a write

-- the trigger level with this code
abbrev pub level_of : (code : ℕ) → FifoTriggerLevel
level_of code =
    if code == trigger_code One then One
    else if code == trigger_code Four then Four
    else if code == trigger_code Eight then Eight
    else Fourteen

-- the trigger level of a value of FCR
abbrev pub trigger_level : (fcr : ℕ) → FifoTriggerLevel
trigger_level fcr = level_of (field 6 2 fcr)

-- the two are equal
abbrev pub is_same : Bool → Bool → Bool
is_same true b = b
is_same false b = not b

-- both queues are emptied
abbrev pub empty_queues : ChipState → ChipState
empty_queues c = record c { receiver = clear c.receiver; transmitter = record c.transmitter { queue = [] } }

-- the FIFO is switched on or off, which empties both queues
abbrev pub switch : Bool → ChipState → ChipState
switch on c = record (empty_queues c) { fifo = on }

-- the receiver is reset if the bit is set
abbrev pub reset_receiver : ℕ → ChipState → ChipState
reset_receiver value c = if has_any value FCR.RX_FIFO_RESET.0 then record c { receiver = clear c.receiver } else c

-- the transmitter is reset if the bit is set
abbrev pub reset_transmitter : ℕ → ChipState → ChipState
reset_transmitter value c =
    if has_any value FCR.TX_FIFO_RESET.0
    then record c { transmitter = record c.transmitter { queue = []; is_thr_pending = true } }
    else c

-- the trigger is set
abbrev pub set_trigger : FifoTriggerLevel → ChipState → ChipState
set_trigger trigger c = record c { receiver = record c.receiver { trigger = trigger } }

-- A 16750 begins with FIFOs of 16. It switches them to 64, and back, by bit 5 of FCR, only while DLAB is set: so a
-- program that knows nothing of the bit does not switch them.

-- the size that a write of FCR asks for, on a chip that has the switch
abbrev pub switched_size : (fcr : ℕ) → FifoSize
switched_size fcr = if has_any fcr FCR.FIFO_64_ENABLE.0 then SixtyFour else Sixteen

-- whether a write of FCR that turns the FIFO on, or leaves it on, switches its size: the chip has the switch, DLAB is
-- set, and another size is asked for than the FIFO has
abbrev pub is_switching : (fcr : ℕ) → ChipState → Bool
is_switching fcr c =
    let is_kept = is_same (is_64 c.receiver.size) (has_any fcr FCR.FIFO_64_ENABLE.0) in
    c.has_size_switch && (is_dlab_set c.latches && not is_kept)

-- the FIFOs get the size that is asked for, which empties both; if they have it, nothing happens
abbrev pub switch_size : (fcr : ℕ) → ChipState → ChipState
switch_size fcr c = if is_switching fcr c then with_size (switched_size fcr) (empty_queues c) else c

-- a write of FCR to a chip with FIFOs: the switch and, if they are on, their size, the resets and the trigger level
abbrev pub set_fifo : ℕ → ChipState → ChipState
set_fifo value c =
    let on = has_any value FCR.FIFO_ENABLE.0 in
    let d = if is_same c.fifo on then c else switch on c in
    if on
    then set_trigger (trigger_level value) (reset_transmitter value (reset_receiver value (switch_size value d)))
    else d

-- a write of FCR; on a 16450 it does nothing
abbrev pub control : Chip → ℕ → ChipState → ChipState
control Uart16450 value c = c
control Uart16550A value c = set_fifo value c

-- a write of a register that only keeps what is written to it
abbrev pub with_latches : LatchesState → ChipState → ChipState
with_latches l c = record c { latches = l }

-- a write of IER: a THR-empty interrupt becomes pending if it is newly enabled and THR is empty
abbrev pub enable : ℕ → ChipState → ChipState
enable value c =
    let is_enabled = has_any c.latches.ier IER.THR_EMPTY.0 in
    let is_told = not is_enabled && (has_any value IER.THR_EMPTY.0 && (length c.transmitter.queue == 0)) in
    record c {
      latches = record c.latches { ier = bit_and value ier_bits };
      transmitter = record c.transmitter {
        is_thr_pending = if is_told then true else c.transmitter.is_thr_pending;
      };
    }

-- a write of MCR, of the bits that it keeps
abbrev pub control_modem : ℕ → ChipState → ChipState
control_modem mcr c = record c { latches = record c.latches { mcr = mcr }; modem = renew mcr c.modem }

-- a write of DATA: a byte for the transmitter, or the low byte of the divisor
abbrev pub write_data : ℕ → ChipState → ChipState
write_data value c =
    if is_dlab_set c.latches
    then with_latches (record c.latches { dll = value }) c
    else record c { transmitter = load c.fifo (cut_of c value) c.transmitter }

-- proved: Each effect of the chip is exactly its function: what a read returns and leaves, what a write, a tick, an
--   arrival and a change of lines do
-- on: the methods of `Uart`, `Transmitter`, `Receiver` and `Modem`, on which the rows below rest

-- the chip after a write of a register; a byte for the transmitter is cut to the word length before it is queued
abbrev pub after_write : ℕ → ℕ → ChipState → ChipState
after_write offset value c =
    if offset == offsets.DATA then write_data value c
    else if offset == offsets.IER
    then (if is_dlab_set c.latches then with_latches (record c.latches { dlm = value }) c else enable value c)
    else if offset == offsets.FCR then control c.model value c
    else if offset == offsets.LCR then with_latches (record c.latches { lcr = value }) c
    else if offset == offsets.MCR then control_modem (kept_mcr c.auto_flow value) c
    else if offset == offsets.SPR then with_latches (record c.latches { scr = value }) c
    else c
