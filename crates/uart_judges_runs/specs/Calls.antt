-- What a chip is taken for by a driver in a session, and what the judge may know then.
use Rattle.std.specs.Prelude.{◌≡◌, ◌≤◌, ◌==◌, ℕ, Bool, false, if◌then◌else◌, List, [], ◌∷◌}
use Rattle.uart_spec.specs.Bits.{has}
use Rattle.uart_spec.specs.declared.access.Access.{Access}
use Rattle.uart_spec.specs.declared.access.Access.TheVariants.{Read, Write}
use Rattle.uart_spec.specs.declared.registers.interrupt_status.TheConstants.ISR
use Rattle.uart_spec.specs.declared.registers.line_control.TheConstants.LCR
use Rattle.uart_spec.specs.declared.registers.modem_control.TheConstants.MCR
use Rattle.uart_spec.specs.declared.registers.offsets.TheConstants as offsets
use Rattle.uart_call.specs.declared.call.Call.{Call}
use Rattle.uart_call.specs.declared.call.Call.TheVariants as call
use Rattle.uart_spec.specs.declared.setup.FifoSize.TheVariants.{Sixteen}
use Rattle.uart_chip.specs.Transmitter.{room}
use Rattle.uart_judges.specs.Findings.{is_open}
use Rattle.uart_judges.specs.Steps.{depth, loops_back}
use Rattle.uart_judges.specs.declared.audit.auditor.Auditor.{Auditor}

-- a call that leaves divisor, LCR and MCR as they are, and the FIFOs on or off: no `init`, `init_with`, `restore`,
-- `attach`, `quiesce`, loopback test, `set_frame`, `set_frame_when_idle`, `set_break`, and none that writes MCR
abbrev pub IsSteady : Call → Type 0
IsSteady (call.Init config) = ⊥
IsSteady (call.InitWith config setup) = ⊥
IsSteady (call.SetFrame config) = ⊥
IsSteady (call.SetFrameWhenIdle config) = ⊥
IsSteady call.Attach = ⊥
IsSteady (call.SetBreak on) = ⊥
IsSteady (call.SetModemControl outputs) = ⊥
IsSteady (call.SetRts on) = ⊥
IsSteady (call.SetDtr on) = ⊥
IsSteady (call.Quiesce outputs fifos) = ⊥
IsSteady (call.Restore dump) = ⊥
IsSteady call.TestLoopback = ⊥
IsSteady other = Unit {0}

-- whether DLAB was on in the latest write of LCR
abbrev pub opened_by : Access → Bool → Bool
opened_by (Write register value) before = if register == offsets.LCR then has value LCR.DLAB.0 else before
opened_by (Read register answer) before = before

-- what is read shows DLAB off, unless it was on in the latest write of LCR; loopback off; and the FIFOs on or off as
-- they are taken to be
pub record Shows (fifo opened : Bool) (register answer : ℕ) : Type 0 where
  pub dlab : register ≡ offsets.LCR → opened ≡ false → has answer LCR.DLAB.0 ≡ false
  pub loopback : register ≡ offsets.MCR → has answer MCR.LOOP_BACK.0 ≡ false
  pub fifos : register ≡ offsets.ISR → has answer ISR.FIFOS_ENABLED.0 ≡ fifo

abbrev pub IsTaken : (fifo opened : Bool) → Access → Type 0
IsTaken fifo opened (Read register answer) = Shows fifo opened register answer
IsTaken fifo opened (Write register value) = Unit {0}

abbrev pub AreTakenFrom : (fifo opened : Bool) → List Access → Type 0
AreTakenFrom fifo opened [] = Unit {0}
AreTakenFrom fifo opened (access ∷ accesses) =
    IsTaken fifo opened access × AreTakenFrom fifo (opened_by access opened) accesses

-- of accesses before which DLAB was off
abbrev pub AreTaken : Bool → List Access → Type 0
AreTaken fifo accesses = AreTakenFrom fifo false accesses

-- the judge does not know that DLAB or loopback is on, nor of less room than a driver that takes the FIFOs to be on or
-- off has for bytes
pub record KnowsAsTaken (fifo : Bool) (a : Auditor) : Type 0 where
  pub dlab : is_open a.setup.is_open ≡ false
  pub loopback : loops_back a.setup.modem ≡ false
  pub room : room fifo Sixteen ≤ depth a.setup.has_fifo
