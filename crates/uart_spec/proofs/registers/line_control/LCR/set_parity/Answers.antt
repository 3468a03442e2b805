use Rattle.uart_spec.proofs.FieldLemmas.{parity_own, parity_others}
use Rattle.uart_spec.proofs.registers.line_control.LCR.set_parity.Goals as goal

pub returns-clause-own : goal.returns-clause-own
returns-clause-own c = rw c.to_raw_bits.ensures.code (parity_own c.args.self.0 c.args.parity)

pub returns-clause-others : goal.returns-clause-others
returns-clause-others c = rw c.to_raw_bits.ensures.code (parity_others c.args.self.0 c.args.parity)
