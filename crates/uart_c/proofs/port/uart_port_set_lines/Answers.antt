use Rattle.uart_c.proofs.port.uart_port_set_lines.Goals as goal

pub returns-clause-canonical : goal.returns-clause-canonical
returns-clause-canonical c w = c.conclude.ensures.canonical (c.change_lines.ensures.canonical w.0, w.1)
