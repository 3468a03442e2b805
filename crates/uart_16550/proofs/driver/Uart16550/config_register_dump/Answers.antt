use Rattle.uart_16550.proofs.Making.{made_only, made_exactly}
use Rattle.uart_16550.proofs.Statuses.{dumped}
use Rattle.uart_16550.proofs.driver.Uart16550.config_register_dump.Goals as goal

pub returns : goal.returns
returns g c =
    let latch = made_exactly _ c.dll_dlm-dll.ensures c.dll_dlm-dll.ensures.fits.1 in
    dumped _ _ _ _
    (made_only _ _ latch
    (made_only _ _ c.ier-dump.ensures (made_only _ _ c.isr-dump.ensures (made_only _ _ c.lcr-dump.ensures c.mcr-dump.ensures))))
    c.read_lsr.ensures (c.union-dump.ensures tt)
    c.read_msr.ensures (c.union-dump-2.ensures tt)
    c.spr.ensures
