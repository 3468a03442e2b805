use Rattle.std.proofs.Common.{◌∙◌, ◌%◌, ap, sym, arith, false}
use Rattle.uart_c.proofs.Writes.{queued}
use Rattle.uart_c.specs.State.{chip_of, transmitter_of}
use Rattle.uart_chip.specs.Transmitter.{TransmitterState}
use Rattle.uart_spec.specs.declared.baud.TheConstants.{NUM_REGISTERS}
use Rattle.uart_c.proofs.exports.uart_chip_write.Goals as goal

pub returns-then-queues_whole-clause-after : goal.returns-then-queues_whole-clause-after
returns-then-queues_whole-clause-after c =
    queued (c.args.offset % NUM_REGISTERS) c.args.value (chip_of c.args.chip.now) (transmitter_of c.set_thr_pending.new.self)
    (omega arith) (sym c.queues_whole.ensures ∙ c.if-queues_whole.true)
    (c.set_thr_pending.ensures.after ∙ ap (λ (t : TransmitterState). record t { is_thr_pending = false }) c.put.ensures.after)
