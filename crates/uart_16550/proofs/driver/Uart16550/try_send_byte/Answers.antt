use Rattle.std.proofs.Common.{◌≡◌, min, inr, arith}
use Rattle.uart_16550.specs.Transmit.{burst_limit}
use Rattle.uart_16550.proofs.Languages.{some_limit}
use Rattle.uart_16550.proofs.Making.{made_then, made_among}
use Rattle.uart_16550.proofs.driver.Uart16550.try_send_byte.Goals as goal

pub returns-in-Ok : goal.returns-in-Ok
returns-in-Ok g c =
    let uart = c.args.self.now in
    let size : 1 ≡ min 1 (burst_limit uart.fifo_enabled uart.fifo_size) = omega (arith, some_limit uart.fifo_enabled uart.fifo_size) in
    made_among (λ l t. inr (inr (omega arith, size, t))) (made_then c.in-Ok.ensures c.write_byte.ensures)
