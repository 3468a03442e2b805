-- A question and its answer, on the registers.
use Rattle.std.specs.Prelude.{ℕ, List, Ok, length}
use Rattle.uart_16550.specs.Driver.{Made}
use Rattle.uart_16550.specs.Receive.{ReceivesExact}
use Rattle.uart_16550.specs.Transmit.{SendsExact}
use Rattle.uart_16550.specs.declared.driver.Uart16550.{Uart16550}
use Rattle.uart_spec.specs.declared.access.Access.{Access}

-- all of the question was sent, then all of the answer was received, and no other access was made
pub record Asked {B T : Type 0} (step : B → Access → B → Type 0) (question answer : List ℕ) (done : T)
    (before after : Uart16550 B) : Type 0 where
  pub between : Uart16550 B
  pub asks : Made step (SendsExact question (Ok done)) before between
  pub answers : Made step (ReceivesExact (length answer) answer (Ok done)) between after
