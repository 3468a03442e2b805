use Rattle.std.proofs.Common.{refl}
use Rattle.uart_16550.proofs.Doings.{did_made}
use Rattle.uart_calls.proofs.Calling.{called_fifo}
use Rattle.uart_calls.proofs.performing.perform_on_driver.Goals as goal

pub returns-in-ReadyToReceive : goal.returns-in-ReadyToReceive
returns-in-ReadyToReceive g c =
    rw c.in-ReadyToReceive.is
    (record { outcome = c.ready_to_receive.result; answered = c.receive_ready.ensures; did = did_made c.ready_to_receive.ensures })

pub returns-in-FifoEnabled : goal.returns-in-FifoEnabled
returns-in-FifoEnabled g c = rw c.in-FifoEnabled.is (called_fifo _ _ _ _ refl c.fifo_enabled.ensures)

pub returns-in-SetTriggerLevel : goal.returns-in-SetTriggerLevel
returns-in-SetTriggerLevel g c =
    rw c.in-SetTriggerLevel.is
    (record { outcome = c.set_trigger_level.result; answered = c.levelled.ensures; did = c.set_trigger_level.ensures })

pub returns-in-CheckConfigured : goal.returns-in-CheckConfigured
returns-in-CheckConfigured g c =
    let made = did_made c.check_configured.ensures in
    rw c.in-CheckConfigured.is
    (record {
      outcome = c.check_configured.result;
      answered = c.configured.ensures;
      did = record { list = made.list; path = made.path; does = made.does };
    })
