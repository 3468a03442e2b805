use Rattle.uart_spec.proofs.FieldLemmas.{trigger_others}
use Rattle.uart_spec.proofs.registers.fifo_control.FCR.set_fifo_trigger_level.Goals as goal

pub returns-clause-others : goal.returns-clause-others
returns-clause-others c = rw c.to_raw_bits.ensures.code (trigger_others c.args.self.0 c.args.level)
