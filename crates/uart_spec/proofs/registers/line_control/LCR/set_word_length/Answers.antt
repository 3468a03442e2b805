use Rattle.uart_spec.proofs.FieldLemmas.{word_length_own, word_length_others}
use Rattle.uart_spec.proofs.registers.line_control.LCR.set_word_length.Goals as goal

pub returns-clause-own : goal.returns-clause-own
returns-clause-own c = rw c.to_raw_bits.ensures.code (word_length_own c.args.self.0 c.args.length)

pub returns-clause-others : goal.returns-clause-others
returns-clause-others c = rw c.to_raw_bits.ensures.code (word_length_others c.args.self.0 c.args.length)
