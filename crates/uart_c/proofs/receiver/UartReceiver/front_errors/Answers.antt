use Rattle.std.proofs.Common.{◌∙◌, ℕ, min, sym, ap, bit_and, arith}
use Rattle.uart_c.proofs.Errors.{front_is}
use Rattle.uart_c.proofs.Queues.{at_least_16}
use Rattle.uart_c.specs.Queue.{fifo_size_of, is_on}
use Rattle.uart_spec.specs.FifoSize.{characters}
use Rattle.uart_spec.specs.declared.registers.line_status.TheConstants.LSR
use Rattle.uart_c.proofs.receiver.UartReceiver.front_errors.Goals as goal

pub returns : goal.returns
returns c =
    let count : ℕ = min c.args.self.now.queue.len (characters (fifo_size_of c.args.self.now.fifo_size)) in
    c.intersection.ensures tt ∙ ap (λ (bits : ℕ). bit_and bits LSR.CHARACTER_ERRORS.0) (c.from_bits_retain.ensures tt) ∙
    front_is count c.args.self.now.queue.items (is_on c.args.self.now.is_front_reported) _
    (omega (arith, at_least_16 c.args.self.now.fifo_size, c.if-self-eq0.false)) (omega arith)
    (sym c.if-is_on.false ∙ c.is_on.ensures)
