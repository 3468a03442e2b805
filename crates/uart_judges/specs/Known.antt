-- What is known of a chip from the accesses to it: at the start, and after a read or a write.
use Rattle.std.specs.Prelude.{ℕ, Bool, true, false, not, ◌&&◌, Option, Some, None, ◌==◌, if◌then◌else◌}
use Rattle.uart_spec.specs.Bits.{has_any}
use Rattle.uart_spec.specs.declared.registers.fifo_control.TheConstants.FCR
use Rattle.uart_spec.specs.declared.registers.interrupt_status.TheConstants.ISR
use Rattle.uart_spec.specs.declared.registers.line_control.TheConstants.LCR
use Rattle.uart_spec.specs.declared.registers.line_status.TheConstants.LSR
use Rattle.uart_spec.specs.declared.registers.modem_control.TheConstants.MCR
use Rattle.uart_spec.specs.declared.registers.offsets.TheConstants as offsets
use Rattle.uart_events.specs.declared.event.Chip.{Chip}
use Rattle.uart_events.specs.declared.event.Chip.TheVariants.{Uart16550A, Uart16450}
use Rattle.uart_judges.specs.declared.replay.known.Known.{Known}
use Rattle.uart_judges.specs.declared.replay.known.Sender.{Sender}
use Rattle.uart_judges.specs.declared.replay.known.Sender.TheVariants.{Unknown, ThrEmpty, Idle}
use Rattle.uart_judges.specs.declared.replay.known.Start.{Start}
use Rattle.uart_judges.specs.declared.replay.known.Start.TheVariants.{Reset, InUse}
use Rattle.uart_judges.specs.declared.replay.looped.Looped.{Looped}
use Rattle.uart_judges.specs.Latches as latches
use Rattle.uart_judges.specs.Latches.{first_latches, dlab}
use Rattle.uart_judges.specs.Looped as looped
use Rattle.uart_judges.specs.Shows.{is_cut}

-- ---- the start

-- whether the FIFOs are on at the start: a 16450 has none
abbrev pub first_fifo : Chip → Start → Option Bool
first_fifo Uart16550A InUse = None
first_fifo Uart16550A Reset = Some false
first_fifo Uart16450 start = Some false

-- at power-on there is nothing to send
abbrev pub first_sender : Start → Sender
first_sender Reset = Idle
first_sender InUse = Unknown

-- at power-on everything is clear; of a chip in use nothing is known but the model
abbrev pub first_known : Chip → Start → Known
first_known model start =
    record {
      model = model;
      latches = first_latches start;
      fifo = first_fifo model start;
      sender = first_sender start;
      waits = false;
      is_looked = false;
      looped = looped.unknown;
    }

-- this, or if it is not known the other
abbrev pub known_or : Option Bool → Bool → Bool
known_or None other = other
known_or (Some b) other = b

-- ---- a read

-- the transmitter, after a read of LSR
abbrev pub sender_shown : ℕ → Sender → Sender
sender_shown lsr sender =
    if has_any lsr LSR.TRANSMITTER_EMPTY.0 then Idle
    else if has_any lsr LSR.THR_EMPTY.0 then ThrEmpty
    else sender

-- whether a character waits for certain after a read of offset 0: under DLAB that stays
abbrev pub waits_after : Option Bool → Bool → Bool
waits_after None waits = false
waits_after (Some true) waits = waits
waits_after (Some false) waits = false

-- offset 0 is certainly the data
abbrev pub is_data : Option Bool → Bool
is_data None = false
is_data (Some dlab) = not dlab

-- a read of offset 0 certainly takes a character
abbrev pub takes : Known → Bool
takes k = k.waits && is_data (dlab k.latches)

-- loopback is certainly on
abbrev pub loops_back : Option ℕ → Bool
loops_back None = false
loops_back (Some mcr) = has_any mcr MCR.LOOP_BACK.0

-- nothing waits, and nothing is left to be sent
abbrev pub is_empty : ℕ → Bool
is_empty lsr = not (has_any lsr LSR.DATA_READY.0) && has_any lsr LSR.TRANSMITTER_EMPTY.0

-- what is known after a read that returned this value: ISR shows the FIFO, and LSR what is empty and what waits
abbrev pub after_read : ℕ → ℕ → Known → Known
after_read offset value k =
    record k {
      latches = latches.after_read offset value k.latches;
      fifo = if offset == offsets.ISR then Some (has_any value ISR.FIFOS_ENABLED.0) else k.fifo;
      sender = if offset == offsets.LSR then sender_shown value k.sender else k.sender;
      waits =
          if offset == offsets.DATA then waits_after (dlab k.latches) k.waits
          else if offset == offsets.LSR then has_any value LSR.DATA_READY.0
          else k.waits;
      is_looked = if offset == offsets.DATA then false else if offset == offsets.LSR then true else k.is_looked;
      looped =
          if (offset == offsets.DATA) && takes k then looped.after k.looped value
          else if offset == offsets.LSR then looped.begun (is_empty value && loops_back k.latches.mcr) k.looped
          else k.looped;
    }

-- what is known after a read, whatever it returned
abbrev pub after_asking : ℕ → Known → Known
after_asking offset k =
    record k {
      waits = if offset == offsets.DATA then waits_after (dlab k.latches) k.waits else k.waits;
      is_looked = if offset == offsets.DATA then false else k.is_looked;
    }

-- ---- a write

-- the transmitter, after a write of offset 0: under DLAB it stays
abbrev pub sender_after : Option Bool → Sender → Sender
sender_after None sender = Unknown
sender_after (Some true) sender = sender
sender_after (Some false) sender = Unknown

-- whether the FIFOs are on after a write of FCR, which a 16450 ignores
abbrev pub fifo_after : Chip → ℕ → Option Bool → Option Bool
fifo_after Uart16550A fcr fifo = Some (has_any fcr FCR.FIFO_ENABLE.0)
fifo_after Uart16450 fcr fifo = fifo

-- after a write of FCR nothing can come back: it empties the receiver, and nothing is left to be sent
abbrev pub is_emptied : Chip → Sender → (fcr : ℕ) → (mcr : Option ℕ) → Bool
is_emptied Uart16550A Idle fcr mcr =
    has_any fcr FCR.FIFO_ENABLE.0 && (has_any fcr FCR.RX_FIFO_RESET.0 && loops_back mcr)
is_emptied _ _ fcr mcr = false

-- what comes back, after a write of offset 0: a byte that fits into a character, as it was written
abbrev pub looped_sent : (lcr : Option ℕ) → ℕ → Looped → Looped
looped_sent None byte l = looped.unknown
looped_sent (Some lcr) byte l =
    if has_any lcr LCR.DLAB.0 then l
    else if is_cut (record { 0 = lcr }) byte then looped.unknown
    else looped.and l byte

-- what comes back, after a write of this register
abbrev pub looped_after : ℕ → ℕ → Known → Looped
looped_after offset value k =
    if offset == offsets.DATA then looped_sent k.latches.lcr value k.looped
    else if (offset == offsets.FCR) && is_emptied k.model k.sender value k.latches.mcr then looped.nothing
    else if (offset == offsets.MCR) && not (has_any value MCR.LOOP_BACK.0) then looped.unknown
    else k.looped

-- what is known after a write of this value
abbrev pub after_write : ℕ → ℕ → Known → Known
after_write offset value k =
    record k {
      latches = latches.after_write offset value k.latches;
      fifo = if offset == offsets.FCR then fifo_after k.model value k.fifo else k.fifo;
      sender = if offset == offsets.DATA then sender_after (dlab k.latches) k.sender else k.sender;
      waits = if offset == offsets.FCR then false else k.waits;
      is_looked = if offset == offsets.FCR then false else k.is_looked;
      looped = looped_after offset value k;
    }
