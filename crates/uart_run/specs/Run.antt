-- Runs of calls over the machine: what each call does, and lists of calls.
use Rattle.std.specs.Prelude.{◌≡◌, List}
use Rattle.uart_16550.specs.Driver.{fields, backend_of}
use Rattle.uart_16550.specs.Tty.{inner_of}
use Rattle.uart_16550.specs.declared.tty.Uart16550Tty.{Uart16550Tty}
use Rattle.uart_call.specs.declared.call.Call.{Call}
use Rattle.uart_call.specs.declared.call.Call.TheVariants as call
use Rattle.uart_call.specs.declared.call.Answer.{Answer}
use Rattle.uart_call.specs.declared.call.Answer.TheVariants.{Done}
use Rattle.uart_calls.specs.Meaning.{Performed}
use Rattle.uart_chip.specs.Machine.{MachineState, MachineStep, at_mark}
use Rattle.uart_run.specs.Chains.{LinkOf, ChainOf, RunOf}

-- the driver, under its terminal, with the machine in its state
abbrev pub State : Type 0
State = Uart16550Tty MachineState

-- the machine of a state
abbrev pub machine_of : State → MachineState
machine_of s = backend_of (inner_of s)

-- ---- one call

-- `Next`: the events up to the next Mark, which is removed, and no access
pub record GoesOn (answer : Answer) (s t : State) : Type 0 where
  pub answered : answer ≡ Done
  pub machine : machine_of t ≡ at_mark (machine_of s)
  pub driver : fields (inner_of t) ≡ fields (inner_of s)

-- the state that a call leaves and the answer that it returns: `Next` goes on to the mark, and the driver makes every
-- other call
abbrev pub CallStep : State → Call → Answer → State → Type 0
CallStep s call.Next answer t = GoesOn answer s t
CallStep s other answer t = Performed MachineStep s other answer t

-- ---- lists of calls

-- a call of a run, with its answer, between the states before and after it
abbrev pub Link : Type 0
Link = LinkOf State Call Answer

-- the calls lead from the first state to the second, one after another
abbrev pub Chain : State → List Link → State → Type 0
Chain = ChainOf CallStep

-- these calls, with these answers, lead from the first state to the second
abbrev pub IsRun : State → List Call → List Answer → State → Type 0
IsRun = RunOf CallStep
