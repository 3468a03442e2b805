use Rattle.uart_16550.proofs.Terminals.{built_at}
use Rattle.uart_16550.proofs.tty.Uart16550Tty+MmioBackend+M.new_mmio.Goals as goal

pub returns-in-Ok : goal.returns-in-Ok
returns-in-Ok g c = built_at _ _ _ _ _ _ c.in-Ok.ensures.fresh c.in-Ok.ensures.place c.start.ensures
