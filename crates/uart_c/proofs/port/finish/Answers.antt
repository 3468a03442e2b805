use Rattle.uart_c.proofs.port.finish.Goals as goal

pub returns-clause-canonical : goal.returns-clause-canonical
returns-clause-canonical c w = c.report.ensures.canonical (c.settle.ensures.canonical w.0, w.1)
