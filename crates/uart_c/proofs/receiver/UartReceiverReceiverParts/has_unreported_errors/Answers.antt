use Rattle.std.proofs.Common.{ℕ, min, rules, ◌≡◌, ◌∙◌, true, false, arith}
use Rattle.uart_c.specs.Queue.{character_of, fifo_size_of, is_on}
use Rattle.uart_c.proofs.Errors.{any_of_all, any_behind}
use Rattle.uart_chip.specs.Receiver.{has_errors}
use Rattle.uart_spec.specs.FifoSize.{characters}
use Rattle.uart_c.proofs.receiver.UartReceiverReceiverParts.has_unreported_errors.Goals as goal

pub returns-then-not-is_on : goal.returns-then-not-is_on
returns-then-not-is_on c =
    let count : ℕ = min c.args.self.now.queue.len (characters (fifo_size_of c.args.self.now.fifo_size)) in
    let off : is_on c.args.self.now.is_front_reported ≡ false = search rules in
    c.some_has_errors.ensures ∙
    any_of_all has_errors character_of count c.queue_len-len.result c.args.self.now.queue.items
    (is_on c.args.self.now.is_front_reported) c.queue_len-len.ensures.len off

pub returns : goal.returns
returns c =
    let count : ℕ = min c.args.self.now.queue.len (characters (fifo_size_of c.args.self.now.fifo_size)) in
    let on : is_on c.args.self.now.is_front_reported ≡ true = search rules in
    c.some_has_errors-2.ensures ∙
    any_behind has_errors character_of count c.queue_len-len.result c.args.self.now.queue.items
    (is_on c.args.self.now.is_front_reported) c.queue_len-len.ensures.len (omega arith) on
