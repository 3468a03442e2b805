use Rattle.uart_c.proofs.port.uart_port_receive_one.Goals as goal

pub returns-clause-canonical : goal.returns-clause-canonical
returns-clause-canonical c w = c.conclude.ensures.canonical (c.arrive_live.ensures.canonical w.0, w.1)
