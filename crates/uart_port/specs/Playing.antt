-- The outcome of playing calls on a real chip.
use Rattle.std.specs.Prelude.{◌≡◌, ◌⊎◌, ℕ, List, [], ◌∷◌, ◌++◌, Option, None, IsSome}
use Rattle.std.specs.Io.KnownBytes.{Appends}
use Rattle.uart_spec.specs.declared.setup.FifoSize.{FifoSize}
use Rattle.uart_16550.specs.Driver.{backend_of, fields, with_fifo_size, with_limit}
use Rattle.uart_16550.specs.Pio.{Ports, PortStep, IsAtPorts}
use Rattle.uart_16550.specs.State.{fresh_fields}
use Rattle.uart_16550.specs.Tty.{inner_of}
use Rattle.uart_16550.specs.declared.tty.Uart16550Tty.{Uart16550Tty}
use Rattle.uart_call.specs.declared.call.Call.{Call}
use Rattle.uart_call.specs.declared.call.Answer.{Answer}
use Rattle.uart_calls.specs.Meaning.{Performed}
use Rattle.uart_language.specs.Output.{answer_lines}
use Rattle.uart_port.specs.declared.ports.PortFault.{PortFault}
use Rattle.uart_port.specs.declared.ports.GuardedPorts.{GuardedPorts}
use Rattle.uart_port.specs.declared.playing.Report.{Report}
use Rattle.uart_port.specs.Ports.{Attempt, GuardedStep, file_of, fault_of}
use Rattle.uart_port.specs.Trace.{traced}

-- the driver under its terminal, at eight ports of a file
abbrev pub Terminal : Type 0 → Type 0
Terminal F = Uart16550Tty (Ports (GuardedPorts F))

-- the first fault of the ports
abbrev pub fault_in : {F : Type 0} → Terminal F → Option PortFault
fault_in s = fault_of (backend_of (inner_of s)).access

-- the driver made this call over the ports, and this is its answer
abbrev pub Makes : {F : Type 0} → (F → Attempt → F → Type 0) → Terminal F → Call → Answer → Terminal F → Type 0
Makes step s call answer t = Performed (PortStep (GuardedStep step)) s call answer t

-- the calls were made one after the other with these answers, and none had a fault
abbrev pub Answered : {F : Type 0} → (F → Attempt → F → Type 0) → Terminal F → List Call → List Answer → Terminal F →
    Type 0
Answered step s [] [] t = t ≡ s
Answered step s [] (answer ∷ answers) t = ⊥
Answered step s (call ∷ calls) [] t = ⊥
Answered {F} step s (call ∷ calls) (answer ∷ answers) t =
    (mid : Terminal F) × Makes step s call answer mid × (fault_in mid ≡ None) × Answered step mid calls answers t

-- these are the answers of the calls before one of them, that one met a fault, and no other call was made
pub record IsStopped {F : Type 0} (step : F → Attempt → F → Type 0) (s : Terminal F) (calls : List Call)
    (answers : List Answer) (t : Terminal F) : Type 0 where
  pub before : List Call
  pub call : Call
  pub after : List Call
  pub cut : calls ≡ before ++ call ∷ after
  pub mid : Terminal F
  pub answered : Answered step s before answers mid
  pub answer : Answer
  pub makes : Makes step mid call answer t
  pub fault : IsSome (fault_in t)

-- these answers were printed: of all calls, or of those before the one with the fault
pub record IsPlayed {F : Type 0} (step : F → Attempt → F → Type 0) (s : Terminal F) (calls : List Call)
    (old new : Option (List ℕ)) (t : Terminal F) : Type 0 where
  pub answers : List Answer
  pub made : Answered step s calls answers t ⊎ IsStopped step s calls answers t
  pub printed : Appends old new (answer_lines answers)

-- the writer to which a report prints
abbrev pub writer_of : {W T : Type 0} → Report W T → W
writer_of report = report.writer

-- the bytes of its trace, if there is one and they are known
abbrev pub traced_by : {W T : Type 0} → (T → Option (List ℕ)) → Report W T → Option (List ℕ)
traced_by contents report = traced contents report.trace

-- a driver that has made no access, with this limit, which takes the FIFOs for this size, at eight ports of this file,
-- none of which has failed
pub record IsTerminalAt {F : Type 0} (port limit : ℕ) (size : FifoSize) (given : F)
    (terminal : Terminal F) : Type 0 where
  pub begins : fields (inner_of terminal) ≡ with_fifo_size size (with_limit limit fresh_fields)
  pub place : IsAtPorts (backend_of (inner_of terminal)) port (backend_of (inner_of terminal)).access
  pub file : file_of (backend_of (inner_of terminal)).access ≡ given
  pub fault : fault_in terminal ≡ None
