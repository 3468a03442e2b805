use Rattle.std.proofs.Common.{refl}
use Rattle.uart_16550.proofs.Doings.{did_then}
use Rattle.uart_16550.proofs.tty.Uart16550Tty.start.Goals as goal

pub returns-in-Err-test_loopback : goal.returns-in-Err-test_loopback
returns-in-Err-test_loopback g c =
    record { last = c.test_loopback.new.self; does = did_then c.in_default.ensures c.in-Err-test_loopback.ensures; kept = tt }

pub returns : goal.returns
returns g c =
    record { last = c.test_loopback.new.self; does = did_then c.in_default.ensures c.in_default-test_loopback.ensures; kept = refl }
