use Rattle.std.proofs.Common.{arith}
use Rattle.uart_spec.proofs.FieldLemmas.{factor_own, factor_others}
use Rattle.uart_spec.proofs.registers.prescaler_division.PSD.set_pdf.Goals as goal

pub returns-clause-own : goal.returns-clause-own
returns-clause-own c = factor_own c.args.self.0 c.args.pdf (omega arith)

pub returns-clause-others : goal.returns-clause-others
returns-clause-others c = factor_others c.args.self.0 c.args.pdf (omega arith)
