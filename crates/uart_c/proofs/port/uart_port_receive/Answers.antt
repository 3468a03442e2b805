use Rattle.uart_c.proofs.port.uart_port_receive.Goals as goal

pub returns-clause-canonical : goal.returns-clause-canonical
returns-clause-canonical c w = c.conclude.ensures.canonical (c.arrive_all.ensures.canonical w.0, w.1)
