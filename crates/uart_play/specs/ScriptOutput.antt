-- What is printed for a script.
use Rattle.std.specs.Prelude.{◌≡◌, ℕ, true, List}
use Rattle.uart_spec.specs.declared.config.TheConstants.Config.{DEFAULT}
use Rattle.uart_16550.specs.Driver.{fields}
use Rattle.uart_16550.specs.Tty.{inner_of}
use Rattle.uart_call.specs.declared.call.Answer.{Answer}
use Rattle.uart_chip.specs.Transmitter.{held}
use Rattle.uart_chip.specs.Machine.{MachineState, fresh, cutting, sized, flowing}
use Rattle.uart_chip.specs.Conserved.{waiting}
use Rattle.uart_run.specs.Run.{State, machine_of, IsRun}
use Rattle.uart_language.specs.Script.{Plan}
use Rattle.uart_language.specs.Output.{printed}

-- the machine of the script after power-on, whose FIFOs have the size that the script names, and which has automatic
-- flow control if the chip that it names has it
abbrev pub first_machine : Plan → MachineState
first_machine plan =
    flowing plan.auto_flow
    (sized plan.fifo_size (cutting plan.cuts (fresh plan.chip plan.ticks plan.wire_capacity plan.events)))

-- promise: the driver of a script takes the FIFOs for the size that the script sets, and for 16 if it sets none; it
--   sets one on line 2, or on line 3 behind `limit`
-- with: IsFirst.driver, IsScript.driver_fifo_size
-- shown by: a_send_fills_a_fifo_of_the_size_of_the_script, fills-a-larger-fifo, refused-late-fifo-size
-- refused: the_driver_takes_the_size_of_the_chip, uart_language/parse_forgets_the_fifo_size,
--   uart_language/fifo_size_on_a_later_line

-- this machine, and a new driver with the limit of the script, which takes the FIFOs for the size that the script sets
pub record IsFirst (plan : Plan) (s : State) : Type 0 where
  pub machine : machine_of s ≡ first_machine plan
  pub driver : fields (inner_of s) ≡
      record { config = DEFAULT; fifo = true; size = plan.driver_fifo_size; lsr = 0; msr = 0; limit = plan.limit }

-- the lines for the answers of a run, and for the last state of the machine
abbrev pub output_of : List Answer → MachineState → List ℕ
output_of answers m =
    printed answers m.chip.transmitter.wire (held m.chip.transmitter) (waiting m) m.chip.receiver.marks

-- this is printed for the script: its calls ran from the first state, and their answers and the last state of the
-- machine were printed
pub record IsOutput (plan : Plan) (output : List ℕ) : Type 0 where
  pub first : State
  pub last : State
  pub answers : List Answer
  pub begins : IsFirst plan first
  pub ran : IsRun first plan.calls answers last
  pub is : output ≡ output_of answers (machine_of last)
