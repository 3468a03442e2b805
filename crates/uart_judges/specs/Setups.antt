-- What is known of how a chip is set up.
use Rattle.std.specs.Prelude.{ℕ, Bool, true, false, ◌==◌, ◌&&◌, Option, Some, None}
use Rattle.std.specs.Int.RustNames.{bit_or}
use Rattle.std.specs.Option.{option_map, option_or}
use Rattle.uart_spec.specs.declared.setup.FifoSize.TheVariants.{Sixteen}
use Rattle.uart_chip.specs.Receiver.{characters_of}
use Rattle.uart_spec.specs.Bits.{flag, has}
use Rattle.uart_spec.specs.declared.registers.interrupt_enable.IER.{IER}
use Rattle.uart_spec.specs.declared.registers.interrupt_enable.TheConstants.IER as ier_bits
use Rattle.uart_spec.specs.declared.registers.line_control.TheConstants.LCR as lcr_bits
use Rattle.uart_judges.specs.Shows.{fifo_of, high_of, interrupts_of, line_of, low_of, modem_of, trigger_of}
use Rattle.uart_judges.specs.declared.audit.action.Action.{Action}
use Rattle.uart_judges.specs.declared.audit.action.Action.TheVariants.{LooksAtLine, ReadsLine, SetsLine}
use Rattle.uart_judges.specs.declared.audit.setup.Setup.{Setup}

-- nothing is known
abbrev pub unknown_setup : Setup
unknown_setup = record {
  divisor = record { low = None; high = None };
  line = None;
  has_fifo = None;
  trigger = None;
  interrupts = None;
  modem = None;
  is_open = None;
}

-- the latch is taken for closed if nothing is known of it
abbrev pub or_closed : Option Bool → Option Bool
or_closed None = Some false
or_closed (Some is_open) = Some is_open

-- DLAB, where LCR is seen; no driver reads LSR while it sets the divisor
abbrev pub next_is_open : Option Bool → Action → Option Bool
next_is_open before (SetsLine lcr) = Some (has lcr.0 lcr_bits.DLAB.0)
next_is_open before (ReadsLine lcr) = Some (has lcr.0 lcr_bits.DLAB.0)
next_is_open before (LooksAtLine lsr) = or_closed before
next_is_open before _ = before

-- after an action: what it sets or shows, and else what was known
abbrev pub next_setup : Setup → Action → Setup
next_setup s x = record {
  divisor = record { low = option_or (low_of x) s.divisor.low; high = option_or (high_of x) s.divisor.high };
  line = option_or (line_of x) s.line;
  has_fifo = option_or (fifo_of x) s.has_fifo;
  trigger = option_or (trigger_of x) s.trigger;
  interrupts = option_or (interrupts_of x) s.interrupts;
  modem = option_or (modem_of x) s.modem;
  is_open = next_is_open s.is_open x;
}

-- ---- when two are the same

-- both are unknown, or both are this number
abbrev pub same : Option ℕ → Option ℕ → Bool
same None None = true
same (Some a) (Some b) = a == b
same None (Some b) = false
same (Some a) None = false

-- a value of IER as if THR_EMPTY were enabled
abbrev pub besides_thr_empty : IER → ℕ
besides_thr_empty ier = bit_or ier.0 ier_bits.THR_EMPTY.0

-- how bytes are sent and received is the same; the THR_EMPTY interrupt is left out, which drivers turn on and off while
-- they send
abbrev pub same_setup : Setup → Setup → Bool
same_setup a b =
    same a.divisor.low b.divisor.low
    && (same a.divisor.high b.divisor.high
    && (same (option_map (λ lcr. lcr.0) a.line) (option_map (λ lcr. lcr.0) b.line)
    && (same (option_map (λ on. flag on 1) a.has_fifo) (option_map (λ on. flag on 1) b.has_fifo)
    && (same (option_map (characters_of Sixteen) a.trigger) (option_map (characters_of Sixteen) b.trigger)
    && same (option_map besides_thr_empty a.interrupts) (option_map besides_thr_empty b.interrupts)))))
