use Rattle.uart_c.proofs.port.uart_port_take_output.Goals as goal

pub returns-clause-canonical : goal.returns-clause-canonical
returns-clause-canonical c w =
    let chip = w.0 in
    c.conclude.ensures.canonical ((chip.0, chip.1, chip.2, c.remove_wire.ensures.canonical chip.3, chip.4), w.1)
