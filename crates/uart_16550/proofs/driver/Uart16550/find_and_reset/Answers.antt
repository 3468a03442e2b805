use Rattle.std.proofs.Common.{refl}
use Rattle.uart_16550.specs.Driver.{with_fifo}
use Rattle.uart_16550.proofs.Doings.{did_then, did_made, did_set, did_among}
use Rattle.uart_16550.proofs.driver.Uart16550.find_and_reset.Goals as goal

pub returns : goal.returns
returns g c =
    let on = c.set_fifo-self.result in
    let d = c.set_fifo-self.new.self in
    did_among (λ f l after t. (on, t))
    (did_then (did_made c.find_size-found.ensures)
    (did_then (did_made c.set_fifo-self.ensures) (did_set _ (with_fifo on) d (record d { fifo_enabled = on }) refl refl)))
