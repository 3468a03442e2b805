-- Driver and chip are such a port: the calls of a session are a run of it.
use Rattle.std.specs.Prelude.{◌≡◌, ℕ, Bool, ◌||◌, List, [], ◌∷◌, ◌++◌, map}
use Rattle.uart_16550.specs.Driver.{fields}
use Rattle.uart_16550.specs.Tty.{inner_of}
use Rattle.uart_call.specs.declared.call.Answer.{Answer}
use Rattle.uart_call.specs.declared.call.Answer.TheVariants.{Register}
use Rattle.uart_call.specs.declared.call.Call.{Call}
use Rattle.uart_call.specs.declared.call.Call.TheVariants.{Lsr}
use Rattle.uart_chip.specs.Chip.{cut_of}
use Rattle.uart_chip.specs.Conserved.{out, waiting, arriving, between}
use Rattle.uart_chip.specs.Port.{Port, Step, DoesAll, sent_in, received_in, came_in, told_in}
use Rattle.uart_chip.specs.Transmitter.{room}
use Rattle.uart_run.specs.Reported.{received, reported}
use Rattle.uart_run.specs.Run.{State, Link, machine_of}
use Rattle.uart_spec.specs.Bits.{has_any}
use Rattle.uart_spec.specs.declared.registers.line_status.TheConstants.LSR

-- what a call told: an `lsr` whether its overrun flag shows
abbrev pub told_by : Call → Answer → List Bool
told_by Lsr (Register value) = has_any value LSR.OVERRUN_ERROR.0 ∷ []
told_by other a = []

-- what calls in turn told
abbrev pub told : List Link → List Bool
told [] = []
told (link ∷ links) = told_by link.call link.answer ++ told links

-- a state as a port: a loss was not told if the chip's overrun flag is set, or the one that the driver has saved
abbrev pub port_of : State → Port
port_of s = record {
  out = out (machine_of s);
  waiting = waiting (machine_of s);
  lost = (machine_of s).chip.receiver.is_overrun || has_any (fields (inner_of s)).lsr LSR.OVERRUN_ERROR.0;
  fifo = (machine_of s).chip.fifo;
  room = room (machine_of s).chip.fifo (machine_of s).chip.receiver.size;
}

-- the bytes that arrived between two states, cut to the word length if the machine cuts
abbrev pub arrived : State → State → List ℕ
arrived s t = map (λ character. cut_of (machine_of s).chip character.byte)
    (arriving (machine_of s).chip.receiver.arrived (between (machine_of s) (machine_of t)))

-- driver and chip are a port: these are the steps that it made from the one state to the other
pub record Refines (s : State) (links : List Link) (t : State) : Type 0 where
  pub steps : List Step
  -- driver and chip went from the one state to the other as a port does by some steps
  pub leads : DoesAll (port_of s) steps (port_of t)
  -- the bytes sent in these steps are those that the calls report, each cut to the word length if the machine cuts
  pub sent : sent_in steps ≡ map (cut_of (machine_of s).chip) (reported links)
  -- the bytes received in them are those that the calls return
  pub received : received_in steps ≡ received links
  -- the bytes that come in them, lost ones too, are those that arrived
  pub came : came_in steps ≡ arrived s t
  -- what is told in them is what each `lsr` shows of an overrun
  pub told : told_in steps ≡ told links
