use Rattle.std.proofs.Common.{ℕ, min, ◌∙◌, false, refl}
use Rattle.uart_c.specs.Queue.{character_of, fifo_size_of}
use Rattle.uart_c.proofs.Errors.{any_of_all}
use Rattle.uart_chip.specs.Receiver.{has_errors}
use Rattle.uart_spec.specs.FifoSize.{characters}
use Rattle.uart_c.proofs.receiver.UartReceiverReceiverParts.has_errors.Goals as goal

pub returns : goal.returns
returns c =
    let count : ℕ = min c.args.self.now.queue.len (characters (fifo_size_of c.args.self.now.fifo_size)) in
    c.some_has_errors.ensures ∙
    any_of_all has_errors character_of count c.queue_len-len.result c.args.self.now.queue.items false
    c.queue_len-len.ensures.len refl
