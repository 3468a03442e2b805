use Rattle.uart_c.proofs.port.uart_port_load.Goals as goal

pub returns-clause-canonical : goal.returns-clause-canonical
returns-clause-canonical c w = c.decide.ensures.canonical c.restore.ensures.canonical
