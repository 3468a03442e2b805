-- What one entry of a recording shows, beside what is known of the set-up before it.
use Rattle.std.specs.Prelude.{ℕ, ◌+◌, ◌-◌, ◌*◌, Bool, true, false, ◌&&◌, ◌||◌, not, nat_le, min}
use Rattle.std.specs.Prelude.{Option, Some, None, is_some}
use Rattle.uart_spec.specs.Bits.{has}
use Rattle.uart_spec.specs.declared.baud.TheConstants.{FIFO_SIZE}
use Rattle.uart_spec.specs.declared.registers.fifo_control.FCR.{FCR}
use Rattle.uart_spec.specs.declared.registers.fifo_control.TheConstants.FCR as fcr_bits
use Rattle.uart_spec.specs.declared.registers.interrupt_enable.IER.{IER}
use Rattle.uart_spec.specs.declared.registers.interrupt_enable.TheConstants.IER as ier_bits
use Rattle.uart_spec.specs.declared.registers.interrupt_type.InterruptType.{InterruptType}
use Rattle.uart_spec.specs.declared.registers.interrupt_type.InterruptType.TheVariants.{ReceiverLineStatus}
use Rattle.uart_spec.specs.declared.registers.interrupt_type.InterruptType.TheVariants.{ReceivedDataReady}
use Rattle.uart_spec.specs.declared.registers.interrupt_type.InterruptType.TheVariants.{ReceptionTimeout}
use Rattle.uart_spec.specs.declared.registers.interrupt_type.InterruptType.TheVariants.{TransmitterHoldingRegisterEmpty}
use Rattle.uart_spec.specs.declared.registers.interrupt_type.InterruptType.TheVariants.{ModemStatus}
use Rattle.uart_spec.specs.declared.registers.interrupt_type.InterruptType.TheVariants.{DmaReceptionEndOfTransfer}
use Rattle.uart_spec.specs.declared.registers.interrupt_type.InterruptType.TheVariants.{DmaTransmissionEndOfTransfer}
use Rattle.uart_spec.specs.declared.registers.modem_control.MCR.{MCR}
use Rattle.uart_spec.specs.declared.registers.modem_control.TheConstants.MCR as mcr_bits
use Rattle.uart_spec.specs.declared.registers.modem_status.TheConstants.MSR as msr_bits
use Rattle.uart_judges.specs.Shows.{arrives, controls_fifo, identified_by, looks_at_line, looks_at_modem, may_disable}
use Rattle.uart_judges.specs.Shows.{may_receive, sends, shows_thr_empty}
use Rattle.uart_judges.specs.Shows as action
use Rattle.uart_judges.specs.declared.audit.action.Action.{Action}
use Rattle.uart_judges.specs.declared.audit.action.Action.TheVariants.{Arrives, ControlsFifo, IdentifiesInterrupt}
use Rattle.uart_judges.specs.declared.audit.action.Action.TheVariants.{LooksAtLine, LooksAtModem}
use Rattle.uart_judges.specs.declared.audit.setup.DivisorBytes.{DivisorBytes}
use Rattle.uart_judges.specs.declared.audit.step.Step.{Step}
use Rattle.uart_judges.specs.declared.audit.step.TheConstants.{CHARACTER_TIME, LEAST_DIVISOR, MOST_HELD}

-- ---- the time

-- the divisor, or the least one if it was not seen: no characters go out faster
abbrev pub divisor_of : Option ℕ → Option ℕ → ℕ
divisor_of (Some low) (Some high) = high * 256 + low
divisor_of (Some low) None = LEAST_DIVISOR
divisor_of None high = LEAST_DIVISOR

abbrev pub divisor : DivisorBytes → ℕ
divisor bytes = divisor_of bytes.low bytes.high

-- so many characters go out between these times, which are known
abbrev pub has_rested : DivisorBytes → ℕ → Option ℕ → Option ℕ → Bool
has_rested bytes sent (Some last) (Some now) = nat_le (divisor bytes * CHARACTER_TIME * min sent MOST_HELD) (now - last)
has_rested bytes sent (Some last) None = false
has_rested bytes sent None now = false

-- ---- the set-up

-- how many bytes fit into an empty transmitter, at most
abbrev pub depth : Option Bool → ℕ
depth None = FIFO_SIZE
depth (Some true) = FIFO_SIZE
depth (Some false) = 1

-- how many bytes fit into an empty receiver, at least
abbrev pub least_depth : Option Bool → ℕ
least_depth None = 1
least_depth (Some true) = FIFO_SIZE
least_depth (Some false) = 1

-- a value of MCR was seen, and has loopback on
abbrev pub loops_back : Option MCR → Bool
loops_back (Some mcr) = has mcr.0 mcr_bits.LOOP_BACK.0
loops_back None = false

-- a value of MCR was seen, and has loopback off: what arrives is received
abbrev pub is_on_line : Option MCR → Bool
is_on_line (Some mcr) = not (has mcr.0 mcr_bits.LOOP_BACK.0)
is_on_line None = false

-- a value of IER was seen, and has this bit
abbrev pub enables : ℕ → Option IER → Bool
enables bit (Some ier) = has ier.0 bit
enables bit None = false

-- ---- FCR

-- the FIFOs were known to be on and are turned off, or the other way round
abbrev pub toggles : Option Bool → FCR → Bool
toggles (Some true) fcr = not (has fcr.0 fcr_bits.FIFO_ENABLE.0)
toggles (Some false) fcr = has fcr.0 fcr_bits.FIFO_ENABLE.0
toggles None fcr = false

-- a write of FCR empties the receiver, or the transmitter: this bit resets it, or the FIFOs are turned on or off
abbrev pub empties : (reset : ℕ) → Option Bool → FCR → Bool
empties reset fifo fcr = toggles fifo fcr || (has fcr.0 fcr_bits.FIFO_ENABLE.0 && has fcr.0 reset)

abbrev pub action_empties : (reset : ℕ) → Option Bool → Action → Bool
action_empties reset fifo (ControlsFifo fcr) = empties reset fifo fcr
action_empties reset fifo _ = false

abbrev pub step_empties : (reset : ℕ) → Step → Bool
step_empties reset s = action_empties reset s.setup.has_fifo s.action

-- the same, or it is not known whether the FIFOs are turned on or off
abbrev pub may_empty : (reset : ℕ) → Step → Bool
may_empty reset s = (controls_fifo s.action && not (is_some s.setup.has_fifo)) || step_empties reset s

-- ---- the transmitter

-- the transmitter has room for as many bytes as it holds: LSR or ISR shows that THR is empty, FCR empties it, or by the
-- recording's time everything has gone out
abbrev pub shows_room : Step → Bool
shows_room s = s.has_rested || (shows_thr_empty s.action || may_empty fcr_bits.TX_FIFO_RESET.0 s)

-- nothing is going out
abbrev pub shows_idle : Step → Bool
shows_idle s = s.has_rested || action.shows_idle s.action

-- a byte is sent in loopback
abbrev pub loops : Step → Bool
loops s = sends s.action && loops_back s.setup.modem

-- MSR shows that the remote is ready, outside of loopback
abbrev pub cts_in : Bool → Action → Bool
cts_in looped (LooksAtModem msr) = has msr.0 msr_bits.CTS.0 && not looped
cts_in looped _ = false

abbrev pub shows_cts : Step → Bool
shows_cts s = cts_in (loops_back s.setup.modem) s.action

-- ---- interrupts

-- the errors of the next character are looked at: in LSR; by ISR, if they interrupt; or they are recorded
abbrev pub errors_in : Bool → Action → Bool
errors_in interrupts (LooksAtLine lsr) = true
errors_in interrupts (Arrives byte errors) = true
errors_in interrupts (IdentifiesInterrupt isr) = interrupts
errors_in interrupts _ = false

abbrev pub looks_for_errors : Step → Bool
looks_for_errors s = errors_in (enables ier_bits.RECEIVER_LINE_STATUS.0 s.setup.interrupts) s.action

-- the interrupt line is known to be up
abbrev pub is_up : Option Bool → Bool
is_up (Some up) = up
is_up None = false

abbrev pub is_line_up : Step → Bool
is_line_up s = is_up s.level

-- interrupts are seen to reach the processor: one is identified, or the line is up
abbrev pub signals : Step → Bool
signals s = is_some (identified_by s.action) || is_line_up s

-- a byte is taken, or LSR is read, or the interrupt of received data is disabled; or that may be so
abbrev pub takes_or_looks : Step → Bool
takes_or_looks s = may_receive s.action || (looks_at_line s.action || may_disable ier_bits.DATA_READY.0 s.action)

-- what an interrupt asks for is done, or the interrupt is disabled, or that may be so; an empty transmitter asks for
-- nothing
abbrev pub serves : InterruptType → Step → Bool
serves ReceiverLineStatus s = looks_at_line s.action || may_disable ier_bits.RECEIVER_LINE_STATUS.0 s.action
serves ReceivedDataReady s = takes_or_looks s || may_empty fcr_bits.RX_FIFO_RESET.0 s
serves ReceptionTimeout s = takes_or_looks s || may_empty fcr_bits.RX_FIFO_RESET.0 s
serves ModemStatus s = looks_at_modem s.action || may_disable ier_bits.MODEM_STATUS.0 s.action
serves TransmitterHoldingRegisterEmpty s = true
serves DmaReceptionEndOfTransfer s = true
serves DmaTransmissionEndOfTransfer s = true
