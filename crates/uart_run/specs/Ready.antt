-- States in which a session may begin, and the outcomes of an `init` and a loopback test over the machine.
use Rattle.std.specs.Prelude.{◌≡◌, ◌≢◌, ◌<◌, ◌≤◌, ◌⊎◌, ◌↔◌, ◌+◌, ◌*◌, ℕ, Bool, true, false}
use Rattle.std.specs.Prelude.{◌&&◌, nat_lt, Option, Some, None, Ok, bit_and}
use Rattle.bitflags.specs.Sets.{without}
use Rattle.uart_spec.specs.Bits.{has, has_any}
use Rattle.uart_spec.specs.Config.{IsComputable}
use Rattle.uart_spec.specs.Dump.{divisor_of}
use Rattle.uart_spec.specs.FifoSize.{characters}
use Rattle.uart_spec.specs.declared.config.Config.{Config}
use Rattle.uart_spec.specs.declared.dump.ConfigRegisterDump.{ConfigRegisterDump}
use Rattle.uart_spec.specs.declared.errors.AttachError.TheVariants.{NoDivisor}
use Rattle.uart_spec.specs.declared.errors.FrameError.TheVariants.{InvalidBaudRate}
use Rattle.uart_spec.specs.declared.errors.InitError.TheVariants.{DeviceNotPresent}
use Rattle.uart_spec.specs.declared.errors.InvalidDivisorError.{InvalidDivisorError}
use Rattle.uart_spec.specs.declared.errors.LoopbackError.TheVariants.{Stalled, UnexpectedLoopbackByte}
use Rattle.uart_spec.specs.declared.registers.fifo_trigger_level.FifoTriggerLevel.{FifoTriggerLevel}
use Rattle.uart_spec.specs.declared.registers.interrupt_status.TheConstants.ISR
use Rattle.uart_spec.specs.declared.registers.line_control.TheConstants.LCR
use Rattle.uart_spec.specs.declared.registers.modem_control.TheConstants.MCR
use Rattle.uart_spec.specs.declared.setup.FifoAction.{FifoAction}
use Rattle.uart_spec.specs.declared.setup.Setup.{Setup}
use Rattle.uart_spec.specs.declared.setup.TransmitterWait.TheVariants.{Never as NoWait}
use Rattle.uart_16550.specs.Driver.{fields}
use Rattle.uart_16550.specs.Frame.{unlooped}
use Rattle.uart_16550.specs.Setup.{stays_on}
use Rattle.uart_16550.specs.Init.{DivisorOf, frame_bits}
use Rattle.uart_16550.specs.Loopback.{test_byte}
use Rattle.uart_16550.specs.Tty.{inner_of}
use Rattle.uart_call.specs.declared.call.Call.{Call}
use Rattle.uart_call.specs.declared.call.Call.TheVariants as call
use Rattle.uart_call.specs.declared.call.Answer.{Answer}
use Rattle.uart_call.specs.declared.call.Answer.TheVariants.{Done, Latch, InitRefused, FrameRefused, LoopbackRefused}
use Rattle.uart_call.specs.declared.call.Answer.TheVariants.{FrameWhenIdleRefused, AttachRefused, FifosOff}
use Rattle.uart_events.specs.declared.event.Chip.{Chip}
use Rattle.uart_events.specs.declared.event.Chip.TheVariants.{Uart16550A, Uart16450}
use Rattle.uart_chip.specs.Masks.{ier_bits, kept_mcr}
use Rattle.uart_chip.specs.Chip.{LatchesState, ChipState, word_length, is_dlab_set}
use Rattle.uart_chip.specs.Chip.{is_loopback, is_transmitter_empty, divisor, interrupt}
use Rattle.uart_chip.specs.Machine.{MachineState}
use Rattle.uart_run.specs.Run.{State, machine_of}
use Rattle.uart_run.specs.Served.{transmitter_of, IsFlushed}
use Rattle.uart_run.specs.Wired.{IsWired}

-- the latches of a state
abbrev pub latches_of : State → LatchesState
latches_of s = (machine_of s).chip.latches

-- A driver writes at once as many bytes as it takes the FIFO to hold, and bytes for which a smaller one has no room are
-- lost. It has the size from its program, and no call looks whether it is true. A driver that was told none takes the
-- FIFOs for 16, and every chip holds as many: so this holds of it wherever it is.

-- the driver takes the chip's FIFOs for no larger than they are, so there is room for all that it writes at once
abbrev pub BurstsFit : State → Type 0
BurstsFit s = characters (fields (inner_of s)).size ≤ characters (transmitter_of s).size

-- A 16750 switches the size of its FIFOs when FCR is written while DLAB is set. No call of a run does that in a ready
-- state, where DLAB is clear. An `init`, an `init_with` and a `restore` clear it before they write FCR.

-- no write of FCR switches the size of the FIFOs: the chip has no switch of it, or DLAB is clear
abbrev pub IsSizeFixed : MachineState → Type 0
IsSizeFixed m = (m.chip.has_size_switch ≡ false) ⊎ (is_dlab_set m.chip.latches ≡ false)

-- the FIFOs have the same size after the call: these three may write FCR, and leave DLAB as it is
abbrev pub KeepsSize : State → Call → Type 0
KeepsSize s (call.SetTriggerLevel level) = IsSizeFixed (machine_of s)
KeepsSize s (call.Quiesce outputs fifos) = IsSizeFixed (machine_of s)
KeepsSize s call.TestLoopback = IsSizeFixed (machine_of s)
KeepsSize s other = Unit {0}

-- A session is a property of states. So it may begin after an `init` that stalled or was refused, in the middle of a
-- list of calls, or in a later `run`.

-- DLAB and loopback are off, the chip's FIFO is on exactly if the driver takes it to be on, and the driver takes it for
-- no larger than it is
pub record Ready (s : State) : Type 0 where
  -- DLAB is off
  pub dlab : is_dlab_set (latches_of s) ≡ false
  -- loopback is off
  pub loopback : is_loopback (latches_of s) ≡ false
  -- the chip's FIFO is on exactly if the driver takes it to be on
  pub fifo : (machine_of s).chip.fifo ≡ (fields (inner_of s)).fifo
  pub fits : BurstsFit s

-- The machine has no break on its line: what is shifted out goes to the wire. On a line that a break holds low the same
-- characters are lost. So what is said of the wire is said of a line only while there is no break.

-- no break is on the line: LCR bit 6 is clear
abbrev pub IsUnbroken : State → Type 0
IsUnbroken s = has_any (latches_of s).lcr LCR.SET_BREAK.0 ≡ false

-- with the driver as it is, the second machine is ready if the first is
abbrev pub KeepsReady : MachineState → MachineState → Type 0
KeepsReady m n =
    (s t : State) → machine_of s ≡ m → machine_of t ≡ n → fields (inner_of t) ≡ fields (inner_of s) → Ready s → Ready t

-- ---- after an `init`

-- the chip has a FIFO
abbrev pub has_fifo : Chip → Bool
has_fifo Uart16550A = true
has_fifo Uart16450 = false

-- a level is configured
abbrev pub is_level : Option FifoTriggerLevel → Bool
is_level (Some level) = true
is_level None = false

-- the state after an `init` that is done, whatever the machine was before it: the state is ready, if the driver takes
-- the FIFOs for no larger than they are, with no break, and the machine wired, with the divisor, the frame and the
-- interrupts as configured, MCR 0B, an empty transmitter, and the FIFO on exactly if a level is configured and the chip
-- has one, which the driver knows
pub record IsInitialised (config : Config) (t : State) : Type 0 where
  -- the state is ready, if the driver takes the FIFOs for no larger than they are
  pub ready : BurstsFit t → Ready t
  pub unbroken : IsUnbroken t
  pub wired : IsWired t
  pub divisor_latch : DivisorOf config (Ok (divisor (latches_of t)))
  -- LCR has the frame as configured, with DLAB off
  pub lcr : (latches_of t).lcr ≡ frame_bits config
  -- MCR is 0B: DTR, RTS and OUT2 are on
  pub mcr : (latches_of t).mcr ≡ 11
  -- those interrupts are enabled that are configured and that the chip has
  pub ier : (latches_of t).ier ≡ bit_and config.interrupts.0 ier_bits
  -- the transmitter is empty
  pub is_empty : is_transmitter_empty (transmitter_of t).queue (transmitter_of t).shift_register ≡ true
  -- the FIFO is on exactly if a level is configured and the chip has one
  pub fifo : (machine_of t).chip.fifo ≡ (is_level config.fifo_trigger_level && has_fifo (machine_of t).chip.model)
  -- the driver knows whether the FIFO is on
  pub knows : (machine_of t).chip.fifo ≡ (fields (inner_of t)).fifo

-- promise: an `init` that succeeds leaves a state in which a session may begin, from any state of the chip, and finds
--   the device
-- with: Initialises.is_present, Initialises.leaves, IsInitialised.ready
-- shown by: init_leaves_what_is_configured, init_clears_the_divisor_latch_access, presence
-- refused: uart_16550/init_always_finds_no_device, uart_16550/init_turns_out2_off

-- an `init` finds the device, and this is the state after an `init` that succeeds; the driver has the configuration
-- then
pub record Initialises (config : Config) (a : Answer) (t : State) : Type 0 where
  pub is_present : a ≢ InitRefused DeviceNotPresent
  -- after an `init` that returns Ok, from any state of the chip, a session may begin, with the registers as configured
  pub leaves :
      -- the call succeeded
      a ≡ Done → IsInitialised config t
  -- the driver has the configuration
  pub stores :
      -- the call succeeded
      a ≡ Done → (fields (inner_of t)).config ≡ config

-- ---- after a `set_frame`

-- LCR and the divisor latch are as configured, and the other latches and the FIFO are as before
pub record IsFramed (config : Config) (s t : State) : Type 0 where
  pub divisor_latch : DivisorOf config (Ok (divisor (latches_of t)))
  pub latches : latches_of t ≡
      record (latches_of s) { lcr = frame_bits config; dll = (latches_of t).dll; dlm = (latches_of t).dlm }
  pub fifo : (machine_of t).chip.fifo ≡ (machine_of s).chip.fifo

-- this is the state after a `set_frame` that succeeds; if it fails, the machine is as before
pub record Frames (config : Config) (s : State) (a : Answer) (t : State) : Type 0 where
  pub leaves : a ≡ Done → IsFramed config s t
  pub refused : (e : InvalidDivisorError) → a ≡ FrameRefused e → machine_of t ≡ machine_of s

-- ---- after an `init_with`

-- the state after an `init_with` that is done, whatever the machine was before it: as after an `init`, but MCR has the
-- outputs that were asked for, and the transmitter is empty if there was a wait
pub record IsSetUp (setup : Setup) (config : Config) (t : State) : Type 0 where
  pub ready : BurstsFit t → Ready t
  pub unbroken : IsUnbroken t
  pub wired : IsWired t
  pub divisor_latch : DivisorOf config (Ok (divisor (latches_of t)))
  pub lcr : (latches_of t).lcr ≡ frame_bits config
  pub mcr : (latches_of t).mcr ≡ kept_mcr (machine_of t).chip.auto_flow (unlooped setup.outputs.0)
  pub ier : (latches_of t).ier ≡ bit_and config.interrupts.0 ier_bits
  pub is_empty : setup.wait ≢ NoWait →
      is_transmitter_empty (transmitter_of t).queue (transmitter_of t).shift_register ≡ true
  pub fifo : (machine_of t).chip.fifo ≡ (is_level config.fifo_trigger_level && has_fifo (machine_of t).chip.model)
  pub knows : (machine_of t).chip.fifo ≡ (fields (inner_of t)).fifo

-- an `init_with` finds the device, and this is the state after one that succeeds; the driver has the configuration then
pub record Arranges (setup : Setup) (config : Config) (a : Answer) (t : State) : Type 0 where
  pub is_present : a ≢ InitRefused DeviceNotPresent
  pub leaves : a ≡ Done → IsSetUp setup config t
  pub stores : a ≡ Done → (fields (inner_of t)).config ≡ config

-- ---- after a `set_frame_when_idle`

-- this is the state after one that succeeds; if there is no divisor, the machine is as before
pub record FramesWhenIdle (config : Config) (s : State) (a : Answer) (t : State) : Type 0 where
  pub leaves :
      -- the call succeeded
      a ≡ Done → IsFramed config s t
  pub refused : (e : InvalidDivisorError) → a ≡ FrameWhenIdleRefused (InvalidBaudRate e) → machine_of t ≡ machine_of s

-- ---- after a `set_trigger_level`

-- one that succeeds in a ready state sets the trigger level of the receiver; with the FIFOs off the machine is as
-- before
pub record Levels (level : FifoTriggerLevel) (s : State) (a : Answer) (t : State) : Type 0 where
  pub leaves : Ready s →
      -- the call succeeded
      a ≡ Done → (machine_of t).chip.receiver.trigger ≡ level
  pub refused : a ≡ FifosOff → machine_of t ≡ machine_of s

-- ---- after a `quiesce`

-- the state after a `quiesce` in a ready state: no interrupt is enabled, so none is raised; MCR has the outputs that
-- were asked for, and the FIFO stays as it is or is off
pub record IsQuiet (outputs : ℕ) (action : FifoAction) (s t : State) : Type 0 where
  pub latches : latches_of t ≡
      record (latches_of s) { ier = 0; mcr = kept_mcr (machine_of s).chip.auto_flow (unlooped outputs) }
  pub fifo : (machine_of t).chip.fifo ≡ stays_on action (machine_of s).chip.fifo
  pub silent : interrupt (machine_of t).chip ≡ None

-- ---- after a `restore`

-- the state after a `restore`, whatever the machine was before it: it is ready, if the driver takes the FIFOs for no
-- larger than they are, the registers are as the dump shows, without DLAB and loopback, and the FIFO is on exactly if
-- the dump shows it and the chip has one
pub record IsRestored (dump : ConfigRegisterDump) (t : State) : Type 0 where
  pub ready : BurstsFit t → Ready t
  pub divisor_latch : divisor (latches_of t) ≡ divisor_of dump
  pub lcr : (latches_of t).lcr ≡ without 8 dump.lcr.0 LCR.DLAB.0
  pub mcr : (latches_of t).mcr ≡ kept_mcr (machine_of t).chip.auto_flow (unlooped dump.mcr.0)
  pub ier : (latches_of t).ier ≡ bit_and dump.ier.0 ier_bits
  pub spr : (latches_of t).scr ≡ dump.spr
  pub fifo : (machine_of t).chip.fifo ≡ (has dump.isr.0 ISR.FIFOS_ENABLED.0 && has_fifo (machine_of t).chip.model)

-- ---- after an `attach`

-- the state after an `attach` that returned this divisor latch, whatever the machine was before: it is ready, if the
-- driver takes the FIFOs for no larger than they are, all latches are as before, and the divisor is the one that was
-- returned, which is not 0
pub record IsAttached (low high : ℕ) (s t : State) : Type 0 where
  pub ready : BurstsFit t → Ready t
  pub latches : latches_of t ≡ latches_of s
  pub divisor_latch : divisor (latches_of t) ≡ 256 * high + low
  pub is_set_up : 0 < 256 * high + low

-- an `attach` that succeeds takes the port; one that is refused for want of a divisor was made where the divisor is 0,
-- and leaves all latches as before; and in a ready state it is refused so wherever the divisor is 0
pub record TakesPort (s : State) (a : Answer) (t : State) : Type 0 where
  pub leaves : (low high : ℕ) → a ≡ Latch low high → IsAttached low high s t
  pub refused :
      -- it was refused for want of a divisor
      a ≡ AttachRefused NoDivisor → (divisor (latches_of s) ≡ 0) × (latches_of t ≡ latches_of s)
  pub refuses : Ready s →
      -- the divisor is 0
      divisor (latches_of s) ≡ 0 → a ≡ AttachRefused NoDivisor

-- ---- a `check_configured`

-- the registers are as the driver's configuration says: the frame, with or without a break, the interrupts and the
-- divisor; MCR has these outputs, without loopback; and the FIFO is on exactly if the driver takes it to be on
pub record IsConfigured (outputs : ℕ) (s : State) : Type 0 where
  pub computable : IsComputable (fields (inner_of s)).config
  pub lcr : without 8 (latches_of s).lcr LCR.SET_BREAK.0 ≡ frame_bits (fields (inner_of s)).config
  pub mcr : (latches_of s).mcr ≡ unlooped outputs
  pub ier : (latches_of s).ier ≡ (fields (inner_of s)).config.interrupts.0
  pub divisor_latch : DivisorOf (fields (inner_of s)).config (Ok (divisor (latches_of s)))
  pub fifo : (machine_of s).chip.fifo ≡ (fields (inner_of s)).fifo

-- a `check_configured` with these outputs returns Ok exactly if the registers are so
abbrev pub Checks : (outputs : ℕ) → State → Answer → Type 0
Checks outputs s a = (a ≡ Done) ↔ IsConfigured outputs s

-- ---- after a `set_modem_control`, a `set_rts` or a `set_dtr`

-- MCR alone has changed
pub record ChangesOutputs (s t : State) : Type 0 where
  pub latches : latches_of t ≡ record (latches_of s) { mcr = (latches_of t).mcr }
  pub fifo : (machine_of t).chip.fifo ≡ (machine_of s).chip.fifo

-- after a `set_modem_control` the outputs are as they were asked for, and loopback is off
pub record SetsOutputs (outputs : ℕ) (s t : State) : Type 0 where
  pub changes : ChangesOutputs s t
  pub mcr : (latches_of t).mcr ≡ kept_mcr (machine_of s).chip.auto_flow (unlooped outputs)

-- after a `set_rts` or a `set_dtr` one output is as it was asked for, the other outputs are as they were, and loopback
-- is off
pub record Switches (output : ℕ) (on : Bool) (s t : State) : Type 0 where
  pub changes : ChangesOutputs s t
  pub is_on : has (latches_of t).mcr output ≡ on
  pub others : without 8 (latches_of t).mcr output ≡ without 8 (unlooped (latches_of s).mcr) output

-- ---- after a loopback test

-- whether characters are cut to 5 or 6 bits, so that the bytes of a loopback test do not come back as they were sent
abbrev pub is_narrow : ChipState → Bool
is_narrow c = c.cuts && nat_lt (word_length c.latches.lcr) 7

-- what a loopback test answers if it does not stall: it is done or, on a narrow chip, it reports that 42 came back as
-- 02
abbrev pub test_answer : (is_narrow : Bool) → Answer
test_answer false = Done
test_answer true = LoopbackRefused (UnexpectedLoopbackByte test_byte 2)

-- promise: a loopback test succeeds or stalls, and nothing of it is on the wire after it succeeded
-- with: IsTested.answers, IsTested.leaves, TestsUncut.answers
-- shown by: loopback, passes-the-loopback-test, stalls-in-the-first-test-byte
-- refused: uart_16550/loopback_is_left_before_the_byte_came_back

-- a loopback test has this answer or stalls; if it does not stall, the transmitter is empty, and the wire has what was
-- to be sent before it, and nothing else
pub record IsTested (s : State) (a : Answer) (t : State) : Type 0 where
  pub answers : (a ≡ test_answer (is_narrow (machine_of s).chip)) ⊎ (a ≡ LoopbackRefused Stalled)
  pub leaves :
      -- the test did not stall
      a ≡ test_answer (is_narrow (machine_of s).chip) → IsFlushed s t

-- ---- each call

-- the outcome of a call: an `init` initialises, and so does an `init_with`; a `set_frame` sets the frame, a
-- `set_trigger_level` the level, a `set_modem_control`, a `set_rts` and a `set_dtr` the outputs; a `check_configured`
-- checks; an `attach` takes a port that has a divisor; a `restore` leaves a ready state, whatever it was before; and in
-- a ready state a `quiesce` leaves a quiet chip, and a loopback test tests
abbrev pub ComesTo : State → Call → Answer → State → Type 0
ComesTo s (call.Init config) a t = Initialises config a t
ComesTo s (call.InitWith config setup) a t = Arranges setup config a t
ComesTo s (call.SetFrame config) a t = Frames config s a t
ComesTo s (call.SetFrameWhenIdle config) a t = FramesWhenIdle config s a t
ComesTo s (call.SetTriggerLevel level) a t = Levels level s a t
ComesTo s (call.SetModemControl outputs) a t = SetsOutputs outputs.0 s t
ComesTo s (call.SetRts on) a t = Switches MCR.RTS.0 on s t
ComesTo s (call.SetDtr on) a t = Switches MCR.DTR.0 on s t
ComesTo s (call.CheckConfigured outputs) a t = Checks outputs.0 s a
ComesTo s (call.Quiesce outputs fifos) a t = Ready s → IsQuiet outputs.0 fifos s t
ComesTo s (call.Restore dump) a t = IsRestored dump t
ComesTo s call.Attach a t = TakesPort s a t
ComesTo s call.TestLoopback a t = Ready s → IsTested s a t
ComesTo s other a t = Unit {0}
